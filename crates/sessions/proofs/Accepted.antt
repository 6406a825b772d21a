-- What an accepted open, add or turn says of its arguments, by the refusal table. Assumes nothing.
--     accepted-open    an accepted open has a setup
--     accepted-add     the rows 4, 5, 7 to 11, 12 and 13 do not apply to an accepted add
--     accepted-turn    row 14 does not apply to an accepted turn
use Rattle.std.specs.Prelude.{None, Some}
use mathlib.Core.Path.{◌≡◌, sym, ◌∙◌}
use mathlib.Core.List.{List, [], ◌∷◌}
use mathlib.Core.Bool.{false, false≢true}
use mathlib.Mathlib.Data.Bool.Basic.{eq-false_of_not-eq-true, eq-true_of_not-eq-false}
use Prim.Native.Nat.{ℕ, ◌*◌, ◌≤◌, ◌<◌}
use native.Mathlib.Nat.{lt_of_not-le}
use native.Mathlib.Omega.{arith}
use lib.ListN.{length}
use Rattle.requests.specs.declared.Opening.{Opening}
use Rattle.requests.specs.declared.Setup.{Setup}
use Rattle.requests.specs.declared.Request.{Request}
use Rattle.requests.specs.declared.Entry.{Entry}
use Rattle.requests.specs.Devices.{setup_of}
use Rattle.requests.specs.Checks.{Formed}
use Rattle.requests.proofs.Passes.{formed_by}
use Rattle.plans.specs.Legal.{HasPlan}
use Rattle.layouts.specs.Writes.{writes}
use Rattle.requests.proofs.Openings.{table_taken}
use Rattle.sessions.specs.Turns.{requests_of, taken, places_of}
use Rattle.sessions.specs.Calls.{Open, Add, Turn, not_open_lem, opened, waits}
use Rattle.sessions.specs.Table.{refusal, table, before_open}
use Rattle.sessions.specs.RefusalTable.{IsId, Applies, add_id, id_waits, kind, not_listed, lacks, range, conflict, alone, full, short}
use Rattle.plans.proofs.PlanTestHolds.{plan_test}
use Rattle.sessions.proofs.TakenPlan.{taken_first}
use Rattle.sessions.proofs.Conditions.{id_test, inside, waits_test}
use Rattle.sessions.proofs.Rows.{refusal_table}

pub le_of_not_lt : {m n : ℕ} → ¬ (n < m) → m ≤ n
le_of_not_lt h = omega (arith, lt_of_not-le h)

-- ---- open

pub accepted_open : (limit : ℕ) (o : Opening) → refusal limit not_open_lem (Open o) ≡ None → (s : Setup) × (setup_of o ≡ Some s)
unfolding refusal table before_open
accepted_open limit o e = table_taken o e

-- ---- add

-- the request is well-formed and has a plan alone, and there is room for it under an id that does not wait
pub record AcceptedAdd (limit : ℕ) (s : Setup) (q : List Entry) (id : ℕ) (r : Request) : Type 0 where
  pub is_id : IsId id
  pub new : waits id q ≡ false
  pub formed : Formed s r
  pub plan : HasPlan s (r ∷ [])
  pub room : length q < limit

module _ (limit : ℕ) (s : Setup) (q : List Entry) where
  module _ (id : ℕ) (r : Request) (e : refusal limit (opened s q) (Add id r) ≡ None) where
    no_row : (n : ℕ) → ¬ Applies limit (opened s q) (Add id r) n
    no_row n a = refusal_table.accepted limit (opened s q) (Add id r) e n a

    request_formed : Formed s r
    request_formed =
        formed_by s r
        (record {
          kind = λ h. no_row 7 (kind h);
          listed = λ h. no_row 8 (not_listed h);
          in_range = λ h. no_row 10 (range h);
          complete = λ h. no_row 9 (lacks h);
          consistent = λ h. no_row 11 (conflict h);
        })

    pub accepted_add : AcceptedAdd limit s q id r
    accepted_add =
        record {
          is_id = inside id (eq-false_of_not-eq-true (λ h. no_row 4 (add_id ((id_test id).0 h))));
          new = eq-false_of_not-eq-true (λ h. no_row 5 (id_waits ((waits_test id q).0 h)));
          formed = request_formed;
          plan = plan_test.has_plan s (r ∷ []) (eq-true_of_not-eq-false (λ h. no_row 12 (alone (λ p. false≢true (sym h ∙ plan_test.planned s (r ∷ []) p)))));
          room = lt_of_not-le (λ l. no_row 13 (full l));
        }

  pub accepted_turn : (room : ℕ) → refusal limit (opened s q) (Turn room) ≡ None → 2 * length (writes s (requests_of (taken s q)) (places_of s (taken s q))) ≤ room
  accepted_turn room e = le_of_not_lt (λ l. refusal_table.accepted limit (opened s q) (Turn room) e 14 (short (taken_first s q) l))
