use Rattle.std.proofs.lemmas.Result.{err_from_is_err_and}
use Rattle.scanner.proofs.NumberLines.{packet_line_lem}
use Rattle.scanner.proofs.verbs.packet_line.Goals as goal

pub returns-in_err-id : goal.returns-in_err-id
returns-in_err-id c =
    let p = err_from_is_err_and c.from_residual.result c.from_residual.ensures.1 in
    rw (p.1, p.2, packet_line_lem c.numbers_of.ensures, c.in_err-id.was)

pub returns : goal.returns
returns c = rw (packet_line_lem c.numbers_of.ensures, c.in_ok-id.was)
