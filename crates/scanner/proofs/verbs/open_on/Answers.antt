use Rattle.std.proofs.lemmas.Result.{err_from_is_err_and}
use Rattle.scanner.proofs.NumberLines.{open_box, open_other}
use Rattle.scanner.proofs.verbs.open_on.Goals as goal

pub returns-in_err-usable : goal.returns-in_err-usable
returns-in_err-usable c =
    let p = err_from_is_err_and c.from_residual.result c.from_residual.ensures.1 in
    rw (p.1, p.2, c.in-C.is, open_box c.in-C.field-0 c.numbers_of.ensures, c.in_err-usable.was)

pub returns-in-C : goal.returns-in-C
returns-in-C c = rw (c.open_as-record.ensures, c.in-C.is, open_box c.in-C.field-0 c.numbers_of.ensures, c.in_ok-usable.was)

pub returns-in_err-usable-2 : goal.returns-in_err-usable-2
returns-in_err-usable-2 c =
    let p = err_from_is_err_and c.from_residual-in_err-usable-2.result c.from_residual-in_err-usable-2.ensures.1 in
    rw (p.1, p.2, open_other c.args.device c.in_default.not-C c.numbers_of-2.ensures, c.in_err-usable-2.was)

pub returns : goal.returns
returns c = rw (c.open_as-record-2.ensures, open_other c.args.device c.in_default.not-C c.numbers_of-2.ensures, c.in_ok-usable-2.was)
