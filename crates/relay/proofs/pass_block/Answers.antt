-- What a turn's call of `feed` adds, and at the end the whole block is answered and its replies are counted.
use Rattle.std.proofs.Common.{◌≡◌, ℕ, ◌+◌, ◌%◌, ◌^◌, false, true, List, length, sym, ap, ◌∙◌, arith, length-take-le, take_all, rules}
use mathlib.Core.Bool.{false≢true}
use Rattle.streams.specs.Stream.{feed_text}
use Rattle.descriptors.specs.Writes.{is_complete}
use Rattle.descriptors.specs.declared.Next.TheVariants.{Complete}
use Rattle.descriptors.proofs.Reported.{known, complete_is}
use Rattle.relay.proofs.Passes.{passed_none, part_passed}
use Rattle.relay.proofs.pass_block.Goals as goal

pub loop-taken-init : goal.loop-taken-init
loop-taken-init g c = record { passed = passed_none _ _ _; roomy = c.requires }

pub overflow_add-taken : goal.overflow_add-taken
overflow_add-taken g c =
    let p = part_passed (length c.loop-taken.out) c.loop-taken.invariant.passed c.loop-taken-test.true c.loop-taken.invariant.roomy c.feed-fed.ensures.answer in
    record { fits = omega (arith, p.within) }

pub slice_bounds-send-end : goal.slice_bounds-send-end
slice_bounds-send-end g c =
    let p = part_passed (length c.loop-taken.out) c.loop-taken.invariant.passed c.loop-taken-test.true c.loop-taken.invariant.roomy c.feed-fed.ensures.answer in
    omega (arith, p.held)

pub slice_bounds-send-end-in-loop-taken : goal.slice_bounds-send-end-in-loop-taken
slice_bounds-send-end-in-loop-taken g c =
    let p = part_passed (length c.loop-taken.out) c.loop-taken.invariant.passed c.loop-taken-test.true c.loop-taken.invariant.roomy c.feed-fed.ensures.answer in
    sym (length-take-le c.feed-fed.result.written c.feed-fed.new.out (omega (arith, p.held)))

pub returns-then-not-is_complete : goal.returns-then-not-is_complete
returns-then-not-is_complete g c =
    let p = part_passed (length c.loop-taken.out) c.loop-taken.invariant.passed c.loop-taken-test.true c.loop-taken.invariant.roomy c.feed-fed.ensures.answer in
    let other : is_complete c.send-written.result.next ≡ false = search rules in
    let no : c.send-written.result.next ≡ Complete → ⊥ = λ e. false≢true (sym other ∙ ap is_complete e) in
    record { state = p.state; all = λ e. absurd (no e); replies = λ e. absurd (no e) }

pub loop-taken-smaller : goal.loop-taken-smaller
loop-taken-smaller g c =
    let p = part_passed (length c.loop-taken.out) c.loop-taken.invariant.passed c.loop-taken-test.true c.loop-taken.invariant.roomy c.feed-fed.ensures.answer in
    omega (arith, p.within, p.some)

pub loop-taken-preserved : goal.loop-taken-preserved
loop-taken-preserved g c =
    let p = part_passed (length c.loop-taken.out) c.loop-taken.invariant.passed c.loop-taken-test.true c.loop-taken.invariant.roomy c.feed-fed.ensures.answer in
    let complete : is_complete c.send-written.result.next ≡ true = search rules in
    let full : c.send-written.result.next ≡ Complete = complete_is c.send-written.result.next complete in
    let written : c.send-written.result.done ≡ c.feed-fed.result.written =
    (known c.send-written.ensures).complete full ∙ length-take-le c.feed-fed.result.written c.feed-fed.new.out (omega (arith, p.held)) in
    let total : c.wrapping_add_usize-sent.result ≡ (c.loop-taken.sent + c.feed-fed.result.written) % 2 ^ 64 =
    c.wrapping_add_usize-sent.ensures.value ∙ ap (λ (d : ℕ). (c.loop-taken.sent + d) % 2 ^ 64) written in
    record {
      passed = record { within = p.within; state = p.state; count = p.count _ total };
      roomy = omega (arith, c.loop-taken.invariant.roomy);
    }

pub returns : goal.returns
returns g c =
    let so = c.loop-taken.invariant.passed in
    record {
      state = so.state;
      all = λ e. omega (arith, so.within);
      replies =
          λ e. so.count
          ∙ ap (λ (t : List ℕ). length (feed_text (record { site = c.args.site.now; house = c.args.house.now }) c.args.state t) % 2 ^ 64)
          (take_all c.loop-taken.taken c.args.block.now (omega arith));
    }
