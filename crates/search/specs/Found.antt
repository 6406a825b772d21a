-- The answer of `first_plan`: a plan, if there is one, as the place of each request in an array.
use Rattle.std.specs.Prelude.{List, ◌++◌, ◌-◌, length, replicate, Option, Some, None}
use Rattle.requests.specs.Devices.{capacity}
use Rattle.plans.specs.declared.Place.{Place}
use Rattle.plans.specs.declared.Place.TheVariants.{Counter}

-- what stands past the last place
unfoldable pub nothing : Place
nothing = Counter 0

-- places in their array
unfoldable pub given : List Place → List Place
given ps = ps ++ replicate (capacity - length ps) nothing

-- the answer
unfoldable pub found_of : Option (List Place) → Option (List Place)
found_of None = None
found_of (Some ps) = Some (given ps)
