-- Each block is one more, up to the one that a write broke off.
use Rattle.std.proofs.Common.{◌≡◌, ℕ, ◌+◌, ◌%◌, ◌^◌, ◌≤◌, false, true, length, take, sym, ap, ◌∙◌, arith, length-take-le, rules}
use mathlib.Core.Bool.{false≢true}
use Rattle.descriptors.specs.Writes.{is_complete}
use Rattle.descriptors.specs.declared.Next.TheVariants.{Complete}
use Rattle.descriptors.proofs.Reported.{complete_is}
use Rattle.descriptors.proofs.CallAnswers.{bytes_within}
use Rattle.relay.proofs.Relays.{relayed_none, relaying, broken_off, one_more}
use Rattle.relay.proofs.answer_blocks.Goals as goal

pub loop-init : goal.loop-init
loop-init g c = record { relayed = relayed_none _ _ c.start-feed.ensures; roomy = c.requires }

pub returns-then-not-is_complete : goal.returns-then-not-is_complete
returns-then-not-is_complete g c =
    let other : is_complete c.pass_block-passed.result.next ≡ false = search rules in
    let no : c.pass_block-passed.result.next ≡ Complete → ⊥ = λ e. false≢true (sym other ∙ ap is_complete e) in
    rw c.run_of.ensures (broken_off c.loop.invariant.relayed c.pass_block-passed.ensures no _ _ _)

pub loop-preserved : goal.loop-preserved
loop-preserved g c =
    let complete : is_complete c.pass_block-passed.result.next ≡ true = search rules in
    let full : c.pass_block-passed.result.next ≡ Complete = complete_is c.pass_block-passed.result.next complete in
    let within : c.bytes_read-n.result ≤ length c.read_some-last.new.block =
    rw c.bytes_read-n.ensures (bytes_within c.read_some-last.new.block c.read_some-last.result c.read_some-last.ensures) in
    let all : length (take c.bytes_read-n.result c.read_some-last.new.block) ≡ c.bytes_read-n.result =
    length-take-le c.bytes_read-n.result c.read_some-last.new.block within in
    let total : c.wrapping_add_usize-received.result ≡ (c.loop.received + length (take c.bytes_read-n.result c.read_some-last.new.block)) % 2 ^ 64 =
    c.wrapping_add_usize-received.ensures.value ∙ ap (λ (k : ℕ). (c.loop.received + k) % 2 ^ 64) (sym all) in
    record {
      relayed = one_more c.loop.invariant.relayed c.pass_block-passed.ensures full _ _ total c.wrapping_add_usize-sent.ensures.value;
      roomy = omega (arith, c.loop.invariant.roomy);
    }

pub returns : goal.returns
returns g c = rw c.run_of-2.ensures (relaying c.loop.invariant.relayed _)
