use native.Mathlib.Omega.{arith}
use Rattle.std.proofs.lemmas.Result.{err_from_is_err_and}
use Rattle.scanner.proofs.NumberLines.{latency_line_lem, latency_fits_lem}
use Rattle.scanner.proofs.verbs.latency_line.Goals as goal

pub overflow_cast-request : goal.overflow_cast-request
overflow_cast-request c = let fits = latency_fits_lem _ _ _ (rw c.in_ok-id.was at (latency_line_lem c.numbers_of.ensures)) in omega arith

pub returns-in_err-id : goal.returns-in_err-id
returns-in_err-id c =
    let p = err_from_is_err_and c.from_residual.result c.from_residual.ensures.1 in
    rw (p.1, p.2, latency_line_lem c.numbers_of.ensures, c.in_err-id.was)

pub returns : goal.returns
returns c = rw (latency_line_lem c.numbers_of.ensures, c.in_ok-id.was)
