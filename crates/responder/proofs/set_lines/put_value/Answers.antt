use native.Mathlib.Omega.{arith}
use Rattle.grammar.specs.Text.{bytes}
use Rattle.responder.proofs.Putting.{then}
use Rattle.responder.proofs.Numerals.{hex_zeros}
use Rattle.responder.proofs.set_lines.put_value.Goals as goal

pub returns-then-value-lt4294967296 : goal.returns-then-value-lt4294967296
unfolding bytes
returns-then-value-lt4294967296 c =
    let n = c.args.value in
    rw (hex_zeros 8 n (omega arith)) (then c.put_bytes-half.ensures c.put_hex.ensures)
