-- The three answers of the reader: 3, a reading, or 15. Assumes nothing.
use Rattle.std.specs.Prelude.{None, Some, Err}
use mathlib.Core.Path.{◌≡◌}
use mathlib.Core.Bool.{true, false}
use Rattle.requests.specs.declared.Opening.{Opening}
use Rattle.requests.specs.declared.Setup.{Setup}
use Rattle.requests.specs.declared.Refusal.TheVariants.{BadOpening, NotLeftByPlan}
use Rattle.requests.specs.Devices.{setup_of}
use Rattle.layouts.specs.Read.{accepts, reading_of, read_of}
use Rattle.layouts.specs.declared.RegisterValues.{RegisterValues}

pub read_unopened : (o : Opening) (v : RegisterValues) → setup_of o ≡ None → read_of o v ≡ Err BadOpening
unfolding read_of
read_unopened o v e = rw (e, read_of)

module _ (o : Opening) (s : Setup) (v : RegisterValues) (opened : setup_of o ≡ Some s) where
  pub read_accepted : accepts s v ≡ true → read_of o v ≡ reading_of s v
  unfolding read_of
  read_accepted h = rw (opened, read_of, h)

  pub read_not_left : accepts s v ≡ false → read_of o v ≡ Err NotLeftByPlan
  unfolding read_of
  read_not_left h = rw (opened, read_of, h)
