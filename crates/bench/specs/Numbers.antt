-- An answer of the planner as a number, for a caller in another language.
use Rattle.std.specs.Prelude.{ℕ, ◌+◌, ◌*◌, ◌%◌, get_or, List, Option, None, Some}
use Rattle.requests.specs.declared.Device.TheVariants.{G}
use Rattle.requests.specs.declared.Setup.{Setup}
use Rattle.plans.specs.declared.Place.{Place}
use Rattle.plans.specs.Places.{first, second}
use Rattle.search.specs.Rows.{set_of}
use Rattle.search.specs.Found.{nothing}

-- device G with the usable set of a number, its fixed counters off, where nothing is asked
abbrev pub setup_for : ℕ → Setup
setup_for usable = record { device = G; usable = set_of usable; fixed = 0; overflow = record { freeze = 0; core = None } }

-- the two numbers of a place, as digits to the base 8
unfoldable pub digits_of : Place → ℕ
digits_of p = first p % 8 * 8 + second p % 8

-- 0 where there is no plan, and otherwise one more than the digits of request i's place
unfoldable pub place_number : Option (List Place) → ℕ → ℕ
place_number None i = 0
place_number (Some ps) i = digits_of (get_or ps i nothing) + 1
