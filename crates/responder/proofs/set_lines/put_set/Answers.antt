use native.Mathlib.Omega.{arith}
use mathlib.Core.List.{append-nil}
use Rattle.grammar.specs.Text.{bytes, tab, newline, line_of}
use Rattle.answers.specs.Replies.{set_lines}
use Rattle.responder.proofs.Putting.{then}
use Rattle.responder.proofs.LineTexts.{hex_end}
use Rattle.responder.proofs.set_lines.put_set.Goals as goal

pub put_byte-next-requires : goal.put_byte-next-requires
put_byte-next-requires c = omega (arith, hex_end 4 _ c.put_hex-address_end.ensures)

pub put_value-value_end-requires : goal.put_value-value_end-requires
put_value-value_end-requires c = omega (arith, hex_end 4 _ c.put_hex-address_end.ensures)

pub put_byte-requires : goal.put_byte-requires
put_byte-requires c = omega (arith, hex_end 4 _ c.put_hex-address_end.ensures, hex_end 16 _ c.put_value-value_end.ensures)

pub returns : goal.returns
unfolding set_lines line_of bytes tab newline
returns c =
    rw append-nil
    (then c.put_bytes-verb_end.ensures (then c.put_hex-address_end.ensures (then c.put_byte-next.ensures (then c.put_value-value_end.ensures c.put_byte.ensures))))
