use Rattle.std.proofs.Common.{sym, ap, ◌∙◌}
use mathlib.Core.Bool.{false≢true}
use borrow.Author.Tests.{le-ltb, lt-leb}
use Rattle.requests.specs.Checks.{too_wide}
use Rattle.requests.specs.Devices.{all_counters}
use Rattle.requests.specs.declared.CounterSet.{CounterSet}
use Rattle.requests.specs.declared.Listing.{Listing}
use Rattle.plans.proofs.PlanTestHolds.{plan_test}
use Rattle.lent_planner.proofs.ListedEvents.{event_formed}
use Rattle.lent_planner.proofs.rules.fits_at_once.Goals as goal
use Rattle.lent_planner.proofs.rules.fits_at_once.Goals.{then-allowed-all_counters, else-allowed-all_counters}

pub returns-then-counter_alone : goal.returns-then-counter_alone
unfolding too_wide
returns-then-counter_alone c h =
    let s = c.args.setup in
    let is = c.in-Event.is in
    let pair = ap (λ (l : Listing). l.pair) (sym c.look_up.ensures) ∙ h in
    let all = ap (λ (x : CounterSet). x.0) c.all_counters.ensures in
    elim c.if-allowed-all_counters.branch [
      | then-allowed-all_counters w ↦
          let wide = le-ltb (all_counters s.device) _ (rw all at w.if-allowed-all_counters.true) in
          let alone = w.counter_alone.ensures (sym w.value-is ∙ c.if-counter_alone.true) in
          (rw is (event_formed s _ _ _ pair wide), rw is (plan_test.planned s _ alone))
      | else-allowed-all_counters w ↦ absurd (false≢true (sym (lt-leb _ _ w.if-allowed-all_counters.false) ∙ sym w.value-is ∙ c.if-counter_alone.true))
    ]
