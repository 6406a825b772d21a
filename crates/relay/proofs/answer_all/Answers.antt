-- The blocks are one text; the end adds its reply where their writing was complete.
use Rattle.std.proofs.Common.{◌≡◌, true, rules}
use Rattle.descriptors.specs.Writes.{is_complete}
use Rattle.descriptors.specs.declared.Next.TheVariants.{Complete}
use Rattle.descriptors.proofs.Reported.{complete_is}
use Rattle.relay.proofs.Passes.{array_holds}
use Rattle.relay.proofs.Relays.{relayed}
use Rattle.relay.proofs.answer_all.Goals as goal

pub send_first-written-requires : goal.send_first-written-requires
send_first-written-requires g c = rw c.end-reply.ensures (array_holds _)

pub returns : goal.returns
returns g c =
    let complete : is_complete c.answer_blocks-run.result.next ≡ true = search rules in
    let full : c.answer_blocks-run.result.next ≡ Complete = complete_is c.answer_blocks-run.result.next complete in
    relayed c.answer_blocks-run.ensures full c.end-reply.result c.send_first-written.result _ _ c.end-reply.ensures c.send_first-written.ensures c.wrapping_add_usize.ensures.value c.last_of.ensures
