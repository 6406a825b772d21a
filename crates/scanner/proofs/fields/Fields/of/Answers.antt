use native.Mathlib.Omega.{arith}
use Rattle.scanner.proofs.FieldLoops.{seen_other, seen_set, seen_full, seen_all}
use Rattle.scanner.proofs.fields.Fields.of.Goals as goal
use Rattle.scanner.proofs.fields.Fields.of.Goals.{then-b-eq9, then-tabs-lt-MOST_FIELDS, else-tabs-lt-MOST_FIELDS, else-b-eq9}

pub loop-i-preserved : goal.loop-i-preserved
loop-i-preserved c =
    let v = c.loop-i.invariant in
    let h = c.loop-i-test.true in
    elim c.if-b-eq9.branch [
      | then-b-eq9 w ↦
          rw (w.ends-is, w.tabs-is)
          (elim w.if-tabs-lt-MOST_FIELDS.branch [
            | then-tabs-lt-MOST_FIELDS u ↦ rw u.ends-is (seen_set v h w.if-b-eq9.true u.if-tabs-lt-MOST_FIELDS.true)
            | else-tabs-lt-MOST_FIELDS u ↦ rw u.ends-is (seen_full v h w.if-b-eq9.true u.if-tabs-lt-MOST_FIELDS.false)
          ])
      | else-b-eq9 w ↦ rw (w.ends-is, w.tabs-is) (seen_other v h w.if-b-eq9.false)
    ]

pub invariant_of-result : goal.invariant_of-result
invariant_of-result c = record { parted = seen_all c.loop-i.invariant (omega arith) }
