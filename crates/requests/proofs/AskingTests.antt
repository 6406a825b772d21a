-- The tests of what an opening asks, both ways. Assumes nothing.
use Rattle.std.specs.Prelude.{Option, None, Some, ℕ}
use mathlib.Core.Path.{◌≡◌, refl}
use mathlib.Core.Bool.{Bool, true, false, not, true≢false, false≢true}
use native.Mathlib.Omega.{arith}
use lib.Dec.{eqb}
use borrow.Author.Tests.{eqb-true, lt-ltb, le-leb, ltb-true, leb-true}
use Rattle.requests.specs.Choice.{either}
use Rattle.requests.specs.Askings.{overflow_on, core_count, core_given, asks, core_fits, overflow_fits}
use Rattle.requests.specs.Openings.{MayAsk, NothingAsked, CoreInField, InRange}
use Rattle.requests.specs.declared.Device.{Device}
use Rattle.requests.specs.declared.Device.TheVariants.{G, S, C, B}
use Rattle.requests.specs.declared.Overflow.{Overflow}
use Rattle.requests.proofs.Tests.{both_parts, true_both, either_parts}

-- the devices whose sessions may ask
pub may_ask : (d : Device) → overflow_on d ≡ true → MayAsk d
unfolding overflow_on
may_ask G h = absurd (false≢true h)
may_ask S h = tt
may_ask (C b) h = tt
may_ask B h = absurd (false≢true h)

pub asked_on : (d : Device) → MayAsk d → overflow_on d ≡ true
unfolding overflow_on
asked_on G h = absurd h
asked_on S h = refl
asked_on (C b) h = refl
asked_on B h = absurd h

pub not_asked_on : (d : Device) → ¬ MayAsk d → overflow_on d ≡ false
not_asked_on d n = go (overflow_on d) refl
  where
    go : (b : Bool) → overflow_on d ≡ b → overflow_on d ≡ false
    go true h = absurd (n (may_ask d h))
    go false h = h

-- nothing is asked where freeze is 0 and no core is given
pub asks_nothing : (a : Overflow) → NothingAsked a → asks a ≡ false
unfolding asks core_given either
asks_nothing a h = rw (h.0, h.1)

no_core : (c : Option ℕ) → core_given c ≡ false → c ≡ None
unfolding core_given
no_core None h = refl
no_core (Some c) h = absurd (true≢false h)

pub nothing_asked : (a : Overflow) → asks a ≡ false → NothingAsked a
unfolding asks
nothing_asked a h =
    let parts = either_parts _ _ h in
    (go (eqb a.freeze 0) refl parts.0, no_core a.core parts.1)
  where
    go : (b : Bool) → eqb a.freeze 0 ≡ b → not b ≡ false → a.freeze ≡ 0
    go true e k = eqb-true a.freeze 0 e
    go false e k = absurd (true≢false k)

pub asks_some : (a : Overflow) → ¬ NothingAsked a → asks a ≡ true
asks_some a n = go (asks a) refl
  where
    go : (b : Bool) → asks a ≡ b → asks a ≡ true
    go true h = h
    go false h = absurd (n (nothing_asked a h))

-- a core that fits the field
core_in_field : (c : Option ℕ) → core_fits c ≡ true → CoreInField c
unfolding core_fits core_count
core_in_field None h = tt
core_in_field (Some c) h = omega (arith, ltb-true c 8 h)

core_fits_lem : (c : Option ℕ) → CoreInField c → core_fits c ≡ true
unfolding core_fits core_count
core_fits_lem None h = refl
core_fits_lem (Some c) h = lt-ltb c 8 (let z = h in omega arith)

-- askings in range
pub in_range : (a : Overflow) → overflow_fits a ≡ true → InRange a
unfolding overflow_fits
in_range a h =
    let parts = both_parts _ _ h in
    (leb-true a.freeze 1 parts.0, core_in_field a.core parts.1)

pub range_fits : (a : Overflow) → InRange a → overflow_fits a ≡ true
unfolding overflow_fits
range_fits a h = true_both _ _ (le-leb a.freeze 1 h.0) (core_fits_lem a.core h.1)

pub range_missed : (a : Overflow) → ¬ InRange a → overflow_fits a ≡ false
range_missed a n = go (overflow_fits a) refl
  where
    go : (b : Bool) → overflow_fits a ≡ b → overflow_fits a ≡ false
    go true h = absurd (n (in_range a h))
    go false h = h

-- where nothing is asked, all is in range
pub nothing_in_range : (a : Overflow) → NothingAsked a → InRange a
nothing_in_range a h = (rw h.0 (omega arith), rw h.1 tt)
