use mathlib.Core.Path.{sym, ap, ◌∙◌}
use mathlib.Core.Logic.{inl, inr}
use Rattle.search.specs.Beside.{is_anywhere}
use Rattle.search.proofs.FreeBeside.{event_alone, packet_alone, offcore_alone}
use Rattle.search.proofs.extend.counter_alone.Goals as goal

pub returns-then-runs_anywhere : goal.returns-then-runs_anywhere
returns-then-runs_anywhere c =
    λ h.
    let anywhere = sym (c.runs_anywhere.ensures ∙ ap is_anywhere c.rule_of.ensures) ∙ c.if-runs_anywhere.true in
    rw c.in-Event.is (event_alone c.args.setup _ _ _ anywhere (c.any_usable.ensures h))

pub returns-in-Packet : goal.returns-in-Packet
returns-in-Packet c =
    λ h.
    elim c.in-Packet.is [
      | inl p ↦ rw p.2 (packet_alone c.args.setup _ _ _ (c.any_usable-in-Packet.ensures h))
      | inr p ↦ rw p.1 (offcore_alone c.args.setup _ _ (c.any_usable-in-Packet.ensures h))
    ]
