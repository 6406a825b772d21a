use native.Mathlib.Omega.{arith}
use Rattle.std.proofs.lemmas.Result.{err_from_is_err_and}
use Rattle.scanner.proofs.NumberLines.{event_line_lem, event_fits}
use Rattle.scanner.proofs.verbs.event_line.Goals as goal

pub overflow_cast-request : goal.overflow_cast-request
overflow_cast-request c = let fits = event_fits _ _ _ (rw c.in_ok-id.was at (event_line_lem c.numbers_of.ensures)) in omega arith

pub overflow_cast-request-2 : goal.overflow_cast-request-2
overflow_cast-request-2 c = let fits = event_fits _ _ _ (rw c.in_ok-id.was at (event_line_lem c.numbers_of.ensures)) in omega arith

pub returns-in_err-id : goal.returns-in_err-id
returns-in_err-id c =
    let p = err_from_is_err_and c.from_residual.result c.from_residual.ensures.1 in
    rw (p.1, p.2, event_line_lem c.numbers_of.ensures, c.in_err-id.was)

pub returns : goal.returns
returns c = rw (event_line_lem c.numbers_of.ensures, c.in_ok-id.was)
