-- One step of the pass over the records, by its tests. Assumes nothing.
use mathlib.Core.Path.{◌≡◌, ap, ap₂, ◌∙◌}
use mathlib.Core.List.{List}
use mathlib.Core.Bool.{Bool, true, false, not}
use Prim.Native.Nat.{ℕ, ◌+◌, ◌≤◌}
use native.Mathlib.Omega.{arith}
use lib.Dec.{eqb}
use Rattle.requests.specs.declared.Entry.{Entry}
use Rattle.requests.specs.Choice.{both}
use Rattle.requests.proofs.Tests.{both_parts}
use Rattle.lent_sessions.specs.Records.{all_zero, may_wait}
use Rattle.lent_planner.specs.Surveys.{is_left, taken_id, may_count, counted, ended, spoiled, step_by, survey_step}
use Rattle.lent_planner.specs.declared.Survey.{Survey}

module _ (left : List ℕ) (t : Survey) (e : Entry) where
  pub step_broken : t.broken ≡ true → survey_step left t e ≡ (t, left)
  unfolding survey_step step_by
  step_broken h = ap (λ (b : Bool). step_by b (eqb e.id 0) (may_count left t e) left t e) h

  pub step_ended : t.broken ≡ false → eqb e.id 0 ≡ true → survey_step left t e ≡ (ended t (all_zero e.request), left)
  unfolding survey_step step_by
  step_ended h i = ap₂ (λ (b v : Bool). step_by b v (may_count left t e) left t e) h i

  pub step_counted : t.broken ≡ false → eqb e.id 0 ≡ false → may_count left t e ≡ true → survey_step left t e ≡ (counted t e.id, taken_id left e.id)
  unfolding survey_step step_by
  step_counted h i m = ap₂ (λ (b v : Bool). step_by b v (may_count left t e) left t e) h i ∙ ap (λ (c : Bool). step_by false false c left t e) m

  pub step_spoiled : t.broken ≡ false → eqb e.id 0 ≡ false → may_count left t e ≡ false → survey_step left t e ≡ (spoiled t, left)
  unfolding survey_step step_by
  step_spoiled h i m = ap₂ (λ (b v : Bool). step_by b v (may_count left t e) left t e) h i ∙ ap (λ (c : Bool). step_by false false c left t e) m

  pub count_left : may_count left t e ≡ true → is_left left e.id ≡ true
  unfolding may_count
  count_left m = (both_parts (may_wait t.setup e) (is_left left e.id) (both_parts (not t.ended) (both (may_wait t.setup e) (is_left left e.id)) m).1).1

-- one record more waits at most
pub len_next : (left : List ℕ) (t : Survey) (e : Entry) (i : ℕ) → t.len ≤ i → (survey_step left t e).0.len ≤ i + 1
unfolding survey_step step_by counted ended spoiled
len_next left t e i l = go t.broken (eqb e.id 0) (may_count left t e)
  where
    go : (b v c : Bool) → (step_by b v c left t e).0.len ≤ i + 1
    go true v c = omega arith
    go false true c = omega arith
    go false false true = omega arith
    go false false false = omega arith
