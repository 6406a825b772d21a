use Rattle.std.proofs.lemmas.Result.{err_from_is_err_and}
use mathlib.Core.Path.{◌≡◌, sym, ◌∙◌}
use Prim.Native.Nat.{◌+◌}
use native.Mathlib.Omega.{arith}
use lib.ListN.{length, length-map, get_or-map}
use Rattle.std.specs.Prelude.{map}
use Rattle.scanner.specs.declared.Format.TheVariants.{Decimal}
use Rattle.scanner.specs.Formats.{code_of}
use Rattle.scanner.proofs.NumberLines.{at_fault, format_at, none_read, number_next, number_bad, numbers_whole, numbers_part}
use Rattle.scanner.proofs.verbs.numbers_of.Goals as goal

pub loop-i-init : goal.loop-i-init
loop-i-init g c =
    let fs = c.args.formats.now in
    let size : length (map code_of fs) ≡ g.row.N = omega (arith, length-map fs code_of) in
    none_read _ _ _ _ _ size (omega arith)

pub number_at-requires : goal.number_at-requires
number_at-requires g c = (omega arith, format_at c.args.formats.now c.requires.2 c.loop-i.i _ (omega arith))

pub returns-in_err-values : goal.returns-in_err-values
returns-in_err-values g c =
    let fs = c.args.formats.now in
    let i = c.loop-i.i in
    let p = err_from_is_err_and c.from_residual.result c.from_residual.ensures.1 in
    let fault = at_fault c.number_at.result (c.args.first + i) c.in_err-values.field-0.0 (sym c.ok_or.ensures.value ∙ c.in_err-values.was) in
    rw (p.1, p.2, fault.1)
    (number_bad c.loop-i.invariant (omega (arith, length-map fs code_of)) (rw (get_or-map code_of fs i Decimal) (sym c.number_at.ensures ∙ fault.0)))

pub loop-i-preserved : goal.loop-i-preserved
loop-i-preserved g c =
    let fs = c.args.formats.now in
    let i = c.loop-i.i in
    number_next c.loop-i.invariant (omega (arith, length-map fs code_of)) (rw (get_or-map code_of fs i Decimal, ← c.number_at.ensures) (grind arith))

pub returns-then-is_whole : goal.returns-then-is_whole
returns-then-is_whole g c =
    let fs = c.args.formats.now in
    let size : length (map code_of fs) ≡ g.row.N = omega (arith, length-map fs code_of) in
    numbers_whole c.loop-i.invariant (omega arith) (rw size (sym c.is_whole.ensures ∙ c.if-is_whole.true))

pub returns : goal.returns
returns g c =
    let fs = c.args.formats.now in
    let size : length (map code_of fs) ≡ g.row.N = omega (arith, length-map fs code_of) in
    rw (← size) (numbers_part c.loop-i.invariant (omega arith) (rw size (sym c.is_whole.ensures ∙ c.if-is_whole.false)))
