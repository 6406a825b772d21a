-- What a turn answers at most, whatever the session holds: a plan of 8 requests, and writes that the slice has room for. By the planner's laws on
-- accepted turns.
use Rattle.std.specs.Prelude.{Option, None, Some}
use mathlib.Core.Path.{◌≡◌, refl}
use mathlib.Core.Bool.{Bool, true, false}
use mathlib.Core.List.{List, [], ◌∷◌}
use Prim.Native.Nat.{ℕ, ◌*◌, ◌≤◌}
use native.Mathlib.Omega.{arith}
use lib.ListN.{length}
use Rattle.requests.specs.declared.Entry.{Entry}
use Rattle.requests.specs.declared.Refusal.{Refusal}
use Rattle.requests.specs.declared.Refusal.TheVariants.{CallOrder}
use Rattle.requests.specs.Devices.{capacity}
use Rattle.plans.specs.declared.Place.{Place}
use Rattle.sessions.specs.Turns.{taken, places_of, assign, writes_of}
use Rattle.sessions.specs.Calls.{Turn}
use Rattle.sessions.specs.Sessions.{queue_limit, queued, refused_by, turn_answer, turn_of, plan_of}
use Rattle.sessions.specs.declared.Session.{Session}
use Rattle.sessions.proofs.Accepted.{accepted_turn}
use Rattle.sessions.proofs.Answers.{turn_plan_is, turn_count_is}
use Rattle.sessions.proofs.TableAnswers.{plain_closed, plain_opened, turn_closed}
use Rattle.sessions.proofs.TakenPlan.{taken_few}

assigned_length : (es : List Entry) (ps : List Place) → length (assign es ps) ≤ length es
unfolding assign
assigned_length [] ps = omega arith
assigned_length (e ∷ es) [] = omega arith
assigned_length (e ∷ es) (p ∷ ps) = omega (arith, assigned_length es ps)

-- what a turn answers at most, given the length of its slice
pub record AtMost (s : Session) (room : ℕ) : Type 0 where
  pub plan : length (plan_of (turn_of s room)) ≤ 8
  pub writes : 2 * (turn_of s room).writes ≤ room

module _ (s : Session) (room : ℕ) where
  refused_turn : (x : Refusal) → refused_by s (Turn room) ≡ Some x → AtMost s room
  unfolding turn_of turn_answer plan_of
  refused_turn x e = record { plan = rw (e, turn_of) (omega arith); writes = rw (e, turn_of) (omega arith) }

  opened_turn : s.opened ≡ true → refused_by s (Turn room) ≡ None → AtMost s room
  unfolding refused_by writes_of capacity
  opened_turn h e =
      let same = plain_opened s h in
      let accepted = rw same at e in
      let es : List Entry = taken s.setup (queued s) in
      record {
        plan = rw (turn_plan_is s s.setup (queued s) same room accepted) (omega (arith, assigned_length es (places_of s.setup es), taken_few s.setup (queued s)));
        writes = rw (turn_count_is s s.setup (queued s) same room accepted) (accepted_turn queue_limit s.setup (queued s) room accepted);
      }

  closed_turn_lem : s.opened ≡ false → refused_by s (Turn room) ≡ Some CallOrder
  unfolding refused_by
  closed_turn_lem h = rw (plain_closed s h) (turn_closed queue_limit room)

  pub turn_at_most : AtMost s room
  turn_at_most = go s.opened refl (refused_by s (Turn room)) refl
    where
      go : (b : Bool) → s.opened ≡ b → (x : Option Refusal) → refused_by s (Turn room) ≡ x → AtMost s room
      go false h x e = refused_turn CallOrder (closed_turn_lem h)
      go true h None e = opened_turn h e
      go true h (Some x) e = refused_turn x e
