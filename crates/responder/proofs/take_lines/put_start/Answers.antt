use native.Mathlib.Omega.{arith}
use Rattle.grammar.specs.Text.{bytes, tab}
use Rattle.responder.specs.Texts.{take_start}
use Rattle.responder.proofs.Putting.{then}
use Rattle.responder.proofs.LineTexts.{number_end}
use Rattle.responder.proofs.take_lines.put_start.Goals as goal

pub put_byte-next-requires : goal.put_byte-next-requires
put_byte-next-requires c = omega (arith, number_end _ c.put_decimal-id_end.ensures)

pub put_decimal-counter_end-requires : goal.put_decimal-counter_end-requires
put_decimal-counter_end-requires c = omega (arith, number_end _ c.put_decimal-id_end.ensures)

pub put_byte-requires : goal.put_byte-requires
put_byte-requires c = omega (arith, number_end _ c.put_decimal-id_end.ensures, number_end _ c.put_decimal-counter_end.ensures)

pub returns : goal.returns
unfolding take_start bytes tab
returns c =
    then c.put_bytes-verb_end.ensures (then c.put_decimal-id_end.ensures (then c.put_byte-next.ensures (then c.put_decimal-counter_end.ensures c.put_byte.ensures)))
