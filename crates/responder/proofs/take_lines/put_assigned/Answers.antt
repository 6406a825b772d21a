use native.Mathlib.Omega.{arith}
use Rattle.grammar.specs.Text.{bytes, newline}
use Rattle.responder.proofs.Putting.{then}
use Rattle.responder.proofs.LineTexts.{number_end, start_end, take_counter_lem, take_rsp, take_pair}
use Rattle.responder.proofs.take_lines.put_assigned.Goals as goal

pub put_bytes-requires : goal.put_bytes-requires
put_bytes-requires c = omega (arith, start_end _ _ c.put_start-register.ensures)

pub put_decimal-end-requires : goal.put_decimal-end-requires
put_decimal-end-requires c = omega (arith, start_end _ _ c.put_start-register-in-WithRsp.ensures)

pub put_byte-requires : goal.put_byte-requires
put_byte-requires c = omega (arith, start_end _ _ c.put_start-register-in-WithRsp.ensures, number_end _ c.put_decimal-end.ensures)

pub put_bytes-line-requires : goal.put_bytes-line-requires
put_bytes-line-requires c = omega (arith, start_end _ _ c.put_start-register-in-Pair.ensures)

pub put_start-last-requires : goal.put_start-last-requires
put_start-last-requires c = omega (arith, start_end _ _ c.put_start-register-in-Pair.ensures)

pub put_bytes-requires-in-Pair : goal.put_bytes-requires-in-Pair
put_bytes-requires-in-Pair c = omega (arith, start_end _ _ c.put_start-register-in-Pair.ensures, start_end _ _ c.put_start-last.ensures)

pub returns-in-Counter : goal.returns-in-Counter
unfolding bytes newline
returns-in-Counter c = rw (take_counter_lem c.args.assigned _ c.in-Counter.is) (then c.put_start-register.ensures c.put_bytes.ensures)

pub returns-in-WithRsp : goal.returns-in-WithRsp
unfolding newline
returns-in-WithRsp c =
    rw (take_rsp c.args.assigned _ _ c.in-WithRsp.is) (then c.put_start-register-in-WithRsp.ensures (then c.put_decimal-end.ensures c.put_byte.ensures))

pub returns-in-Pair : goal.returns-in-Pair
unfolding bytes newline
returns-in-Pair c =
    rw (take_pair c.args.assigned _ _ c.in-Pair.is) (then c.put_start-register-in-Pair.ensures (then c.put_bytes-line.ensures (then c.put_start-last.ensures c.put_bytes-in-Pair.ensures)))
