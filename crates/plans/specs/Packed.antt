-- Plans packed into one number: six bits for each place, the first place lowest, below a bit 1. No plan is 0.
use Rattle.std.specs.Prelude.{List, [], ◌∷◌, ℕ, ◌+◌, ◌*◌, ◌/◌, ◌%◌, ◌^◌, Option, None, Some}
use Rattle.requests.specs.declared.Request.{Request}
use Rattle.plans.specs.declared.Place.{Place}
use Rattle.plans.specs.Places.{first, second}
use Rattle.plans.specs.Search.{place_of}

-- the number of a plan
unfoldable pub code_of : List Place → ℕ
code_of [] = 1
code_of (p ∷ ps) = code_of ps * 64 + first p * 8 + second p

-- the number of what the search finds
unfoldable pub packed : Option (List Place) → ℕ
packed None = 0
packed (Some ps) = code_of ps

-- the place of the request r whose number in the plan is i
unfoldable pub place_at_lem : ℕ → ℕ → Request → Place
place_at_lem code i r = place_of r (code / 2 ^ (6 * i) / 8 % 8) (code / 2 ^ (6 * i) % 8)

-- the places of requests that are numbered from i on
unfoldable pub places_from : ℕ → ℕ → List Request → List Place
places_from code i [] = []
places_from code i (r ∷ rs) = place_at_lem code i r ∷ places_from code (i + 1) rs
