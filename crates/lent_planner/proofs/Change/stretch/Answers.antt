use Rattle.std.proofs.Common.{◌≡◌, ◌+◌, length, drop, arith, rules, sym, ap, ap₂, ◌∙◌}
use lib.ListN.{drop_of_length-le}
use Rattle.requests.proofs.Windows.{length_mapped}
use Rattle.lent_planner.specs.Changes.{clear_all, stretch, nowhere}
use Rattle.lent_planner.proofs.Drops.{drop_next}
use Rattle.lent_planner.proofs.Change.stretch.Goals as goal

pub loop-at-preserved : goal.loop-at-preserved
unfolding clear_all
loop-at-preserved c =
    let places = c.args.self.now.at in
    let length-8 : length places ≡ 8 = search (length_mapped, rules) in
    let i = c.loop-at.at-index in
    record {
      near = omega arith;
      few = omega arith;
      same =
          ap₂ (clear_all (drop (i + 1) places)) c.past-k.ensures.value c.clear-room.ensures.value
          ∙ ap (λ l. clear_all l c.loop-at.k c.loop-at.room) (sym (drop_next 0 places i (omega arith)))
          ∙ c.loop-at.invariant.same;
    }

pub returns-clause-value : goal.returns-clause-value
unfolding stretch clear_all nowhere
returns-clause-value c =
    let places = c.args.self.now.at in
    let length-8 : length places ≡ 8 = search (length_mapped, rules) in
    ap (λ l. clear_all l c.loop-at.k c.loop-at.room) (sym (drop_of_length-le places (omega arith))) ∙ c.loop-at.invariant.same
