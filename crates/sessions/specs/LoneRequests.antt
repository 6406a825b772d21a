-- Order 12, of a session on B: when "INST_RETIRED.ALL in its PDIR use (C0/01)" is refused, and what a turn does with it.
use Rattle.std.specs.Prelude.{◌≡◌, ◌≢◌, ℕ, ◌≤◌, Some}
use mathlib.Core.List.{List, [], ◌∷◌, ◌++◌, Memᴰ}
use Rattle.requests.specs.declared.CounterSet.{CounterSet}
use Rattle.requests.specs.declared.Device.TheVariants.{B}
use Rattle.requests.specs.declared.Setup.{Setup}
use Rattle.requests.specs.declared.Request.TheVariants.{Event}
use Rattle.requests.specs.declared.Refusal.{Refusal}
use Rattle.requests.specs.declared.Entry.{Entry}
use Rattle.requests.specs.Refusals.{number_of}
use Rattle.sessions.specs.Turns.{taken, turned}
use Rattle.sessions.specs.Calls.{Call, Add, not_open_lem, opened}
use Rattle.sessions.specs.Table.{refusal}
use Rattle.sessions.specs.Plain.{run}
use Rattle.sessions.specs.RefusalTable.{IsId, Waits}

-- the entry asks for it
abbrev pub AsksPdir : Entry → Type 0
AsksPdir e = (a : CounterSet) × (e.request ≡ Event 0xC0 0x01 a)

pub record LoneRequests : Type 0 where
  -- "a session with any other set refuses it with 12", where none of the rows before 12 applies: those of the id and of the allowed set
  pub refused : (limit : ℕ) (s : Setup) (q : List Entry) (id : ℕ) (a : CounterSet) → s.device ≡ B → s.usable.0 ≢ 15 → IsId id → ¬ Waits id q → a.0 ≤ 15
      → (x : Refusal) × (refusal limit (opened s q) (Add id (Event 0xC0 0x01 a)) ≡ Some x) × (number_of x ≡ 12)
  -- a turn that takes it takes nothing else
  pub alone : (s : Setup) (q : List Entry) (e : Entry) → s.device ≡ B → AsksPdir e → Memᴰ e (taken s q) → taken s q ≡ e ∷ []
  -- of every queue that calls have left: it is taken at the head only, ..
  pub at_the_head : (limit : ℕ) (calls : List Call) (s : Setup) (q : List Entry) (e : Entry) → run limit not_open_lem calls ≡ opened s q → s.device ≡ B → AsksPdir e
      → Memᴰ e (taken s q) → (rest : List Entry) × (q ≡ e ∷ rest)
  -- .. and there the turn takes it, and all others are passed over and keep their order before it
  pub passed_over : (limit : ℕ) (calls : List Call) (s : Setup) (e : Entry) (rest : List Entry) → run limit not_open_lem calls ≡ opened s (e ∷ rest) → s.device ≡ B → AsksPdir e
      → (taken s (e ∷ rest) ≡ e ∷ []) × (turned s (e ∷ rest) ≡ rest ++ e ∷ [])
