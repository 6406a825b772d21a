use mathlib.Core.Path.{◌≡◌, ap, ◌∙◌}
use mathlib.Core.List.{[], ◌∷◌, ◌++◌}
use native.Mathlib.Omega.{arith}
use Prim.Native.Nat.{ℕ, ◌<◌}
use Rattle.requests.specs.Devices.{capacity, counter_count}
use Rattle.plans.specs.Reach.{left_by, left_of}
use Rattle.search.specs.Rows.{rows_from}
use Rattle.plans.proofs.ReachHolds.{reach}
use Rattle.plans.proofs.PlanLengthHolds.{plan_length}
use Rattle.planner.proofs.Searching.{searched_none, searched_unreached}
use Rattle.planner.proofs.select.plan_with.Goals as goal

pub returns-then-usable-count : goal.returns-then-usable-count
returns-then-usable-count c =
    let a = c.args in
    record { searched = searched_none a.setup a.rows.now a.count a.request (omega (arith, c.requires.usable_value.0)) c.requires.usable_value.2; left_value_2 = tt }

pub left_by-left_then-requires : goal.left_by-left_then-requires
unfolding capacity
left_by-left_then-requires c =
    let few : c.args.count < 8 = let u = plan_length.usable_at_most c.args.setup in
    let d = plan_length.device_at_most c.args.setup.device in
    omega (arith, c.requires.usable_value.0) in
    let few = reach.few c.args.setup.device in omega (arith, c.requires.usable_value.3)

pub returns-then-none_left : goal.returns-then-none_left
returns-then-none_left c =
    let left-then : let a = c.args in c.left_by-left_then.result ≡ left_by (counter_count a.setup.device) a.request a.left = c.left_by-left_then.ensures ∙ ap (λ (n : ℕ). left_by n c.args.request c.args.left) c.requires.usable_value.3 in
    let a = c.args in
    let s = a.setup in
    let l = c.none_left.ensures c.if-none_left.true in
    let left : a.left ≡ left_of s (rows_from a.rows.now 0 a.count) = c.requires.left_value l.1 in
    let gone : left_of s (rows_from a.rows.now 0 a.count ++ (a.request ∷ [])) ≡ 0 = rw (reach.grows, ← left, ← left-then) l.0 in
    record { searched = searched_unreached s a.rows.now a.count a.request l.1 gone c.requires.usable_value.2; left_value_2 = tt }

pub plan_behind-found-requires : goal.plan_behind-found-requires
unfolding capacity
plan_behind-found-requires c =
    let few : c.args.count < 8 = let u = plan_length.usable_at_most c.args.setup in
    let d = plan_length.device_at_most c.args.setup.device in
    omega (arith, c.requires.usable_value.0) in
    record { count_bound = (few, c.requires.usable_value.2); code_value = c.requires.code_value }

pub returns-then-found-eq0 : goal.returns-then-found-eq0
returns-then-found-eq0 c = record { searched = rw c.if-found-eq0.true at c.plan_behind-found.ensures; left_value_2 = tt }

pub returns : goal.returns
returns c =
    let left-then : let a = c.args in c.left_by-left_then.result ≡ left_by (counter_count a.setup.device) a.request a.left = c.left_by-left_then.ensures ∙ ap (λ (n : ℕ). left_by n c.args.request c.args.left) c.requires.usable_value.3 in
    record { searched = c.plan_behind-found.ensures; left_value_2 = (c.if-found-eq0.false, left-then) }
