use mathlib.Core.Path.{◌≡◌, refl}
use mathlib.Core.Bool.{true, false}
use native.Mathlib.Nat.{sub-zero}
use borrow.Author.Tests.{tests}
use Rattle.std.proofs.Common.{rules}
use Rattle.std.proofs.lemmas.Iterator.{YieldsList-from_range, cases_from_any}
use Rattle.search.proofs.RuledRows.{lone_at, lone_any}
use Rattle.search.proofs.ruled.any_lone.Goals as goal

pub returns : goal.returns
returns c =
    let a = c.args in
    lone_any a.device a.rows.now a.count _
    (cases_from_any _ _ _ (λ i. lone_at a.device a.rows.now i ≡ true) (λ i. lone_at a.device a.rows.now i ≡ false) c.any.ensures.ran
    (YieldsList-from_range 0 a.count a.count refl (sub-zero a.count)) (λ x q k. search (rules, tests)) (λ x q k. search (rules, tests)))
