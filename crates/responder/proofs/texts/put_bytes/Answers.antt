use Rattle.responder.proofs.Putting.{copied}
use Rattle.responder.proofs.texts.put_bytes.Goals as goal

pub returns : goal.returns
returns c = rw c.copy_from_slice.ensures.after (copied c.args.out.now c.args.at c.args.bytes.now c.requires)
