-- A request is well-formed exactly when none of the rows 7, 8, 10, 9, 11 applies to it. Assumes nothing.
use mathlib.Core.Path.{◌≡◌, ◌∙◌}
use mathlib.Core.Logic.{◌↔◌}
use mathlib.Core.Bool.{Bool, true, false}
use mathlib.Mathlib.Data.Bool.Basic.{eq-false_of_not-eq-true}
use Rattle.requests.specs.Checks.{request_rows, request_refusal, Formed}
use Rattle.requests.specs.RefusedRequests.{KindNotOn, NotListed, OutOfRange, Incomplete, Conflicting}
use Rattle.requests.specs.declared.Device.{Device}
use Rattle.requests.specs.declared.Setup.{Setup}
use Rattle.requests.specs.declared.Request.{Request}
use Rattle.requests.proofs.Tests.{both_ways}
use Rattle.requests.proofs.ExactRows.{refused_requests}
use Rattle.requests.proofs.FirstHolding.{skips, passed, ends}

-- no row applies
pub record Passes (d : Device) (r : Request) : Type 0 where
  pub kind : ¬ KindNotOn d r
  pub listed : ¬ NotListed d r
  pub in_range : ¬ OutOfRange d r
  pub complete : ¬ Incomplete d r
  pub consistent : ¬ Conflicting d r

-- a test that is exact fails exactly where its row does not apply
fails : {b : Bool} {P : Type 0} → (b ≡ true) ↔ P → b ≡ false → ¬ P
fails exact e h = both_ways (exact.1 h) e

not_holds : {b : Bool} {P : Type 0} → (b ≡ true) ↔ P → ¬ P → b ≡ false
not_holds exact n = eq-false_of_not-eq-true (λ e. n (exact.0 e))

-- a well-formed request passes
pub passes : (s : Setup) (r : Request) → Formed s r → Passes s.device r
unfolding request_refusal request_rows
passes s r none =
    let after-kind = passed _ _ none in
    let after-listed = passed _ _ after-kind.1 in
    let after-range = passed _ _ after-listed.1 in
    let after-complete = passed _ _ after-range.1 in
    let after-consistent = passed _ _ after-complete.1 in
    record {
      kind = fails (refused_requests.seven s.device r) after-kind.0;
      listed = fails (refused_requests.eight s.device r) after-listed.0;
      in_range = fails (refused_requests.ten s.device r) after-range.0;
      complete = fails (refused_requests.nine s.device r) after-complete.0;
      consistent = fails (refused_requests.eleven s.device r) after-consistent.0;
    }

-- a request that passes is well-formed
pub formed_by : (s : Setup) (r : Request) → Passes s.device r → Formed s r
unfolding request_refusal request_rows
formed_by s r p =
    skips _ _ (not_holds (refused_requests.seven s.device r) p.kind)
    ∙ skips _ _ (not_holds (refused_requests.eight s.device r) p.listed)
    ∙ skips _ _ (not_holds (refused_requests.ten s.device r) p.in_range)
    ∙ skips _ _ (not_holds (refused_requests.nine s.device r) p.complete)
    ∙ skips _ _ (not_holds (refused_requests.eleven s.device r) p.consistent)
    ∙ ends
