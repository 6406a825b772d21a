-- Well-formed requests, as the checks have them and as the paragraphs describe them: `well-formed-requests` carries one into the other.
use Rattle.std.specs.Prelude.{Option, None, Some}
use mathlib.Core.Path.{◌≡◌, refl, sym, ◌∙◌}
use mathlib.Core.Bool.{true, true≢false}
use mathlib.Core.List.{List}
use Rattle.requests.specs.declared.Setup.{Setup}
use Rattle.requests.specs.declared.Request.{Request}
use Rattle.requests.specs.declared.Refusal.{Refusal}
use Rattle.requests.specs.Checks.{request_refusal, formed, Formed}
use Rattle.requests.specs.WellFormedRequests.{Described}
use Rattle.requests.proofs.WellFormed.{well_formed_requests}
use Rattle.plans.specs.Lists.{All}
use Rattle.plans.proofs.Sets.{all_imp}

module _ (s : Setup) where
  pub describe_all : {rs : List Request} → All (Formed s) rs → All (Described s) rs
  describe_all h = all_imp (well_formed_requests.described s) h

  pub form_all : {rs : List Request} → All (Described s) rs → All (Formed s) rs
  form_all h = all_imp (well_formed_requests.formed s) h

  -- the test that the reader asks
  pub described_passes : (r : Request) → Described s r → formed s r ≡ true
  unfolding formed
  described_passes r h = rw (well_formed_requests.formed s r h)

  pub passes_described : (r : Request) → formed s r ≡ true → Described s r
  unfolding formed
  passes_described r h = go (request_refusal s r) refl
    where
      go : (o : Option Refusal) → request_refusal s r ≡ o → Described s r
      go None e = well_formed_requests.described s r e
      go (Some x) e = absurd (true≢false (sym h ∙ rw e))
