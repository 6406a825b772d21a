use mathlib.Core.Path.{sym}
use native.Mathlib.Omega.{arith}
use lib.Seq.{length-take-le}
use Rattle.scanner.proofs.FieldParts.{FirstPart, NextPart, first_part, next_part}
use Rattle.scanner.proofs.fields.Fields.field.Goals as goal

pub slice_bounds-result-end-then-k-eq0 : goal.slice_bounds-result-end-then-k-eq0
slice_bounds-result-end-then-k-eq0 c =
    let first : FirstPart c.args.self.now.text.now c.args.self.now.ends c.args.k = first_part c.args.self.now.parted c.args.k c.requires c.if-self-k.false c.if-k-eq0.true in
    sym (length-take-le _ _ first.0)

pub returns-then-k-eq0 : goal.returns-then-k-eq0
returns-then-k-eq0 c =
    let first : FirstPart c.args.self.now.text.now c.args.self.now.ends c.args.k = first_part c.args.self.now.parted c.args.k c.requires c.if-self-k.false c.if-k-eq0.true in
    first.1

pub overflow_add-begin : goal.overflow_add-begin
overflow_add-begin c =
    let next : NextPart c.args.self.now.text.now c.args.self.now.ends c.args.k = next_part c.args.self.now.parted c.args.k c.requires c.if-self-k.false c.if-k-eq0.false in
    let n = next in omega (arith, n.ordered, n.within, c.well_formed)

pub slice_bounds-result-count : goal.slice_bounds-result-count
slice_bounds-result-count c =
    let next : NextPart c.args.self.now.text.now c.args.self.now.ends c.args.k = next_part c.args.self.now.parted c.args.k c.requires c.if-self-k.false c.if-k-eq0.false in
    next.ordered

pub slice_bounds-result-start : goal.slice_bounds-result-start
slice_bounds-result-start c =
    let next : NextPart c.args.self.now.text.now c.args.self.now.ends c.args.k = next_part c.args.self.now.parted c.args.k c.requires c.if-self-k.false c.if-k-eq0.false in
    let n = next in omega (arith, n.ordered, n.within)

pub slice_bounds-result-end-2 : goal.slice_bounds-result-end-2
slice_bounds-result-end-2 c =
    let next : NextPart c.args.self.now.text.now c.args.self.now.ends c.args.k = next_part c.args.self.now.parted c.args.k c.requires c.if-self-k.false c.if-k-eq0.false in
    next.within

pub returns : goal.returns
returns c =
    let next : NextPart c.args.self.now.text.now c.args.self.now.ends c.args.k = next_part c.args.self.now.parted c.args.k c.requires c.if-self-k.false c.if-k-eq0.false in
    next.part
