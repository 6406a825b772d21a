-- Demand 2 of every accepted turn: its plan is the first legal plan of the requests taken, and its writes are that plan's.
use Rattle.std.specs.Prelude.{◌≡◌, ◌≢◌, true, false, not, ℕ, ◌*◌, ◌≤◌, ◌<◌, ltb, length, Ok}
use mathlib.Core.List.{List, [], ◌∷◌, ◌++◌, map, Memᴰ}
use Rattle.requests.specs.declared.Device.TheVariants.{B}
use Rattle.requests.specs.declared.Setup.{Setup}
use Rattle.requests.specs.declared.Entry.{Entry}
use Rattle.requests.specs.Bits.{bit, in_list}
use Rattle.requests.specs.Choice.{both, either}
use Rattle.requests.specs.Openings.{NothingAsked}
use Rattle.requests.specs.Devices.{has, counter_count, all_counters}
use Rattle.plans.specs.declared.Place.{Place}
use Rattle.plans.specs.Lists.{All}
use Rattle.plans.specs.Legal.{counters}
use Rattle.plans.specs.Order.{First}
use Rattle.layouts.specs.Layout.{layout_of}
use Rattle.layouts.specs.Writes.{Write, writes, filled, apply}
use Rattle.layouts.specs.NoReservedBit.{Clean}
use Rattle.layouts.specs.OthersUntouched.{Ours}
use Rattle.layouts.specs.FixedEnables.{Carries}
use Rattle.layouts.specs.UBox.{asking_nothing, with_pmi, last_value}
use Rattle.layouts.specs.RestWhileWritten.{RestsInside}
use Rattle.layouts.specs.PreciseEvents.{WrittenLast}
use Rattle.layouts.specs.RoundTrip.{ReadBack}
use Rattle.sessions.specs.Turns.{requests_of, taken, turned, assign}
use Rattle.sessions.specs.Calls.{Call, Plain, opened}
use Rattle.sessions.specs.Sessions.{plain_of, turn_of, turn_slice, plan_of, session_after, queue_after}
use Rattle.sessions.specs.declared.Session.{Session}
use Rattle.sessions.specs.declared.Assigned.{Assigned}

-- what a turn answers and leaves
pub record TurnResult : Type 0 where
  pub plan : List Assigned
  pub writes : ℕ
  -- the slice and the plain queue afterwards
  pub slice : List ℕ
  pub queue : Plain

-- what comes of a turn of a session, given the slice
abbrev pub result_of : Session → List ℕ → TurnResult
result_of s slice =
    let a = turn_of s (length slice) in
    record { plan = plan_of a; writes = a.writes; slice = turn_slice s slice; queue = plain_of a.session }

-- an accepted turn of a session with the setup s and the queue q, whatever the queue's limit, that was given the slice
pub record TurnDone (s : Setup) (q : List Entry) (slice : List ℕ) (result : TurnResult) : Type 0 where
  -- "A plan gives each request its counter": the first legal plan of those taken, in queue order
  pub places : List Place
  pub first : First s (requests_of (taken s q)) places
  -- the plan answered: "in the order taken", each id with its place
  pub plan : result.plan ≡ assign (taken s q) places
  -- the number of writes is the length of the defined list, and the list stands in the slice; "numbers past the list stay"
  pub count : result.writes ≡ length (writes s (requests_of (taken s q)) places)
  pub room : 2 * length (writes s (requests_of (taken s q)) places) ≤ length slice
  pub list : result.slice ≡ filled (writes s (requests_of (taken s q)) places) slice
  -- no reserved bit is set, nobody else's register is touched, and every value for the global control register enables the counters of others
  pub clean : All (Clean s) (writes s (requests_of (taken s q)) places)
  pub others : (registers : ℕ → ℕ) (a : ℕ) → ¬ Ours s a → apply (writes s (requests_of (taken s q)) places) registers a ≡ registers a
  pub enabled : (v k : ℕ) → Memᴰ ((layout_of s.device).global, v) (writes s (requests_of (taken s q)) places) → k < counter_count s.device
      → has s.usable k ≡ false → bit k v ≡ true
  -- order 2: "every write to 038F carries" the fixed enables of the session
  pub fixed : (v : ℕ) → Memᴰ ((layout_of s.device).global, v) (writes s (requests_of (taken s q)) places) → Carries s.fixed (all_counters s.device) v
  -- "038F with unusable and used bits": the last write enables the plan's counters
  pub used : (registers : ℕ → ℕ) (k : ℕ) → k < 32
      → bit k (apply (writes s (requests_of (taken s q)) places) registers (layout_of s.device).global)
      ≡ both (ltb k (counter_count s.device)) (either (not (has s.usable k)) (in_list (counters places) k))
  -- counters rest while their registers are written
  pub rests : RestsInside s (requests_of (taken s q)) (writes s (requests_of (taken s q)) places)
  -- order 7: the U-Box stays with the host where nothing is asked, and else frames the list of the session that asks nothing, with pmi_en
  pub with_host : NothingAsked s.overflow → All (λ (w : Write). w.0 ≢ 0x0C00) (writes s (requests_of (taken s q)) places)
  pub framed : ¬ NothingAsked s.overflow
      → writes s (requests_of (taken s q)) places
      ≡ (0x0C00, 0) ∷ map (with_pmi s) (writes (asking_nothing s) (requests_of (taken s q)) places) ++ (0x0C00, last_value s.overflow) ∷ []
  -- order 12: on B the list ends with 03F1, whose value is that of the requests taken, and 038F; on another device 03F1 is not written
  pub precise : s.device ≡ B → WrittenLast (requests_of (taken s q)) (writes s (requests_of (taken s q)) places)
  pub no_precise : s.device ≢ B → All (λ (w : Write). w.0 ≢ 0x03F1) (writes s (requests_of (taken s q)) places)
  -- "applied to any registers and read, give that turn's plan counter by counter"
  pub read : (registers : ℕ → ℕ) → ReadBack s (requests_of (taken s q)) places (writes s (requests_of (taken s q)) places) registers
  -- the queue afterwards
  pub next : result.queue ≡ opened s (turned s q)

-- every accepted turn of a session that calls have left, whatever slice it is given
abbrev pub TurnPlan : Type 0
TurnPlan =
    (session : Session)
    → session.opened ≡ false
    → (calls : List Call) (s : Setup) (q : List Entry)
    → queue_after calls ≡ opened s q
    → (slice : List ℕ)
    → (turn_of (session_after session calls) (length slice)).answer ≡ Ok tt
    → TurnDone s q slice (result_of (session_after session calls) slice)
