-- The turns that calls complete on the plain queue. Assumes nothing.
--     count    a list of calls completes as many as it is said to
use Rattle.std.specs.Prelude.{Option, None, Some}
use mathlib.Core.Path.{◌≡◌, refl, ap, ◌∙◌}
use mathlib.Core.List.{List, [], ◌∷◌}
use Prim.Native.Nat.{ℕ, zero, suc}
use lib.ListN.{length, length-append}
use Rattle.requests.specs.declared.Setup.{Setup}
use Rattle.requests.specs.declared.Entry.{Entry}
use Rattle.requests.specs.declared.Refusal.{Refusal}
use Rattle.requests.specs.Choice.{first_holding}
use Rattle.sessions.specs.Turns.{turned}
use Rattle.sessions.specs.Calls.{Call, Open, Add, Drop, Turn, Turns, Plain, not_open_lem, opened}
use Rattle.sessions.specs.Table.{once_open, table, refusal}
use Rattle.sessions.specs.Plain.{turns_asked, unless_refused, step, completes, completed}
use Rattle.sessions.proofs.Rank.{turns_in}

-- a turn of the plain queue: the setup and the queue there
pub record TurnAt : Type 0 where
  pub setup : Setup
  pub queue : List Entry

-- n turns, one after another
unfoldable pub turns_from : ℕ → Setup → List Entry → List TurnAt
turns_from zero s q = []
turns_from (suc n) s q = record { setup = s; queue = q } ∷ turns_from n s (turned s q)

pub count_from : (n : ℕ) (s : Setup) (q : List Entry) → length (turns_from n s q) ≡ n
unfolding turns_from
count_from zero s q = refl
count_from (suc n) s q = ap suc (count_from n s (turned s q))

module _ (limit : ℕ) where
  -- the turns that one call completes
  unfoldable pub turns_at : Plain → Call → List TurnAt
  turns_at p (Open o) = []
  turns_at p (Add id r) = []
  turns_at p (Drop id) = []
  turns_at not_open_lem (Turn room) = []
  turns_at (opened s q) (Turn room) = unless_refused (refusal limit (opened s q) (Turn room)) [] (turns_from 1 s q)
  turns_at not_open_lem (Turns n room places) = []
  turns_at (opened s q) (Turns n room places) = unless_refused (refusal limit (opened s q) (Turns n room places)) [] (turns_from n s q)

  -- a call that asks for none completes none
  no_turns : (x : Option Refusal) → ◌≡◌ {A = ℕ} 0 (unless_refused x 0 0)
  no_turns None = refl
  no_turns (Some x) = refl

  counted : (x : Option Refusal) (n : ℕ) (s : Setup) (q : List Entry) → length {A = TurnAt} (unless_refused x [] (turns_from n s q)) ≡ unless_refused x 0 n
  counted None n s q = count_from n s q
  counted (Some x) n s q = refl

  pub count_call : (p : Plain) (c : Call) → length (turns_at p c) ≡ completes limit p c
  unfolding turns_at completes turns_asked refusal table once_open first_holding
  count_call p (Open o) = no_turns (refusal limit p (Open o))
  count_call p (Add id r) = no_turns (refusal limit p (Add id r))
  count_call p (Drop id) = no_turns (refusal limit p (Drop id))
  count_call not_open_lem (Turn room) = refl
  count_call (opened s q) (Turn room) = counted (refusal limit (opened s q) (Turn room)) 1 s q
  count_call not_open_lem (Turns n room places) = refl
  count_call (opened s q) (Turns n room places) = counted (refusal limit (opened s q) (Turns n room places)) n s q

  pub count : (p : Plain) (cs : List Call) → length (turns_in (step limit) turns_at p cs) ≡ completed limit p cs
  unfolding turns_in completed
  count p [] = refl
  count p (c ∷ cs) = length-append (turns_at p c) (turns_in (step limit) turns_at (step limit p c) cs) ∙ rw (count_call p c, count (step limit p c) cs)

  pub turns_refused : (p : Plain) (c : Call) (x : Refusal) → refusal limit p c ≡ Some x → length (turns_at p c) ≡ 0
  unfolding completes
  turns_refused p c x h = count_call p c ∙ rw h

  pub turn_accepted_lem : (s : Setup) (q : List Entry) (room : ℕ) → refusal limit (opened s q) (Turn room) ≡ None → turns_at (opened s q) (Turn room) ≡ turns_from 1 s q
  unfolding turns_at
  turn_accepted_lem s q room h = rw h

  pub turns_accepted : (s : Setup) (q : List Entry) (n room places : ℕ) → refusal limit (opened s q) (Turns n room places) ≡ None → turns_at (opened s q) (Turns n room places) ≡ turns_from n s q
  unfolding turns_at
  turns_accepted s q n room places h = rw h
