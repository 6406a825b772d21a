use Rattle.std.proofs.Common.{◌≡◌, ◌+◌, length, drop, arith, rules, sym, ap, ◌∙◌}
use lib.ListN.{drop_of_length-le}
use Rattle.requests.proofs.Windows.{length_mapped}
use Rattle.lent_planner.specs.Changes.{past_all_lem, ahead}
use Rattle.lent_planner.proofs.Drops.{drop_next}
use Rattle.lent_planner.proofs.Change.ahead.Goals as goal

pub loop-at-preserved : goal.loop-at-preserved
unfolding past_all_lem
loop-at-preserved c =
    let places = c.args.self.now.at in
    let length-8 : length places ≡ 8 = search (length_mapped, rules) in
    let i = c.loop-at.at-index in
    record {
      near = omega arith;
      same =
          ap (past_all_lem (drop (i + 1) places)) c.past-k.ensures.value
          ∙ ap (λ l. past_all_lem l c.loop-at.k) (sym (drop_next 0 places i (omega arith)))
          ∙ c.loop-at.invariant.same;
    }

pub returns : goal.returns
unfolding ahead past_all_lem
returns c =
    let places = c.args.self.now.at in
    let length-8 : length places ≡ 8 = search (length_mapped, rules) in
    record {
      value = ap (λ l. past_all_lem l c.loop-at.k) (sym (drop_of_length-le places (omega arith))) ∙ c.loop-at.invariant.same;
      upper_bound = omega arith;
    }
