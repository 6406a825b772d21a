-- What is to be told of a placed request names the counters and registers of its place: "the first counts RSP0 .. the second counts RSP1".
use Rattle.std.specs.Prelude.{◌≡◌, map, ℕ}
use Rattle.requests.specs.declared.Request.{Request}
use Rattle.plans.specs.declared.Place.{Place}
use Rattle.plans.specs.Places.{counted_of}
use Rattle.plans.specs.Legal.{Allowed}
use Rattle.layouts.specs.Told.{Told, told_of}

-- one definition of a place's counters and registers serves the plan and the reader
abbrev pub ToldPlaces : Type 0
ToldPlaces = (r : Request) (p : Place) → Allowed r p → map (λ (x : ℕ × Told). (x.0, x.1.register)) (told_of r p) ≡ counted_of p
