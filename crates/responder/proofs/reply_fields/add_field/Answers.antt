use mathlib.Core.Path.{sym}
use Rattle.requests.specs.Faults.{answer_field}
use Rattle.responder.proofs.AskedReplies.{line_zero}
use Rattle.responder.proofs.reply_fields.add_field.Goals as goal

pub returns-in-Ok : goal.returns-in-Ok
unfolding answer_field
returns-in-Ok c = rw c.in-Ok.is (sym (line_zero _))
