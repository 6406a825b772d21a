use native.Mathlib.Omega.{arith}
use Rattle.grammar.specs.Text.{bytes, tab, newline, line_of}
use Rattle.answers.specs.Replies.{answer_text}
use Rattle.responder.proofs.Putting.{then}
use Rattle.responder.proofs.LineTexts.{field_end}
use Rattle.responder.proofs.answer_lines.put_answer.Goals as goal

pub put_field-end-requires : goal.put_field-end-requires
put_field-end-requires c = omega (arith, field_end _ c.put_field-number_end.ensures)

pub put_byte-requires : goal.put_byte-requires
put_byte-requires c = omega (arith, field_end _ c.put_field-end.ensures, field_end _ c.put_field-number_end.ensures)

pub returns-in-Err : goal.returns-in-Err
unfolding answer_text line_of bytes tab newline
returns-in-Err c =
    rw (c.in-Err.is, ← c.number_of.ensures)
    (then c.put_bytes-verb_end.ensures (then c.put_field-number_end.ensures (then c.put_field-end.ensures c.put_byte.ensures)))
