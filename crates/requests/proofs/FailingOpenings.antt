-- What an opening is refused for fails in that field, and under that number in no field left of it: by the device of its letter, and the tests of its
-- rows. Assumes nothing.
use Rattle.std.proofs.lemmas.Option.{none-some, same_Some}
use Rattle.std.specs.Prelude.{Option, None, Some}
use mathlib.Core.Path.{◌≡◌, refl, sym, subst, ◌∙◌}
use mathlib.Core.Bool.{Bool, true, false, not, true≢false}
use mathlib.Core.List.{[], ◌∷◌}
use Prim.Native.Nat.{ℕ, suc, ◌+◌, ◌≤◌, ◌<◌}
use native.Mathlib.Omega.{arith}
use lib.Dec.{leb, ltb}
use borrow.Author.Tests.{ltb-true, ltb-false, leb-true, leb-false}
use Rattle.requests.specs.Choice.{both, first_holding}
use Rattle.requests.specs.Askings.{core_count, overflow_not_on, core_fits}
use Rattle.requests.specs.Devices.{all_counters, all_fixed, letter_of, box_count, devices, named, device_of, usable_set, on_device}
use Rattle.requests.specs.Openings.{letter_code, most_usable, most_fixed, most_box, GivenFor}
use Rattle.requests.specs.Faults.{at, freeze_field, opening_faults, opening_fault_table, opening_fault}
use Rattle.requests.specs.FaultFields.{freeze_at, OpeningFailsAt, letter, none_usable, usable_above, fixed_above, box_above, asked_elsewhere, freeze_above, core_above}
use Rattle.requests.specs.declared.Device.{Device}
use Rattle.requests.specs.declared.Device.TheVariants.{G, S, C, B}
use Rattle.requests.specs.declared.Opening.{Opening}
use Rattle.requests.specs.declared.Refusal.TheVariants.{BadOpening, KindNotOnDevice, OutOfRange}
use Rattle.requests.specs.declared.Fault.{Fault}
use Rattle.requests.proofs.Tests.{both_parts}
use Rattle.requests.proofs.DeviceNumbers.{numbers}
use Rattle.requests.proofs.Openings.{letter_named, letter_is}
use Rattle.requests.proofs.OpeningsTaken.{kind_row, openings}

-- the opening fails in the field of the fault, and in no field left of it
pub record OpeningLeftmost (o : Opening) (f : Fault) : Type 0 where
  pub fails : OpeningFailsAt o f.refusal f.field
  pub first : (k : ℕ) → k < f.field → ¬ OpeningFailsAt o f.refusal k

found : {o : Opening} (g f : Fault) → Some g ≡ Some f → OpeningLeftmost o g → OpeningLeftmost o f
found {o} g f e l = rw (sym (same_Some g f e)) l

-- ---- devices of one letter

-- the freeze stands where the line has it
freeze_is : (d : Device) → freeze_field d ≡ freeze_at d
unfolding freeze_field box_count
freeze_is G = refl
freeze_is S = refl
freeze_is (C b) = refl
freeze_is B = refl

-- they have the same bounds and the same line
record Alike (d e : Device) : Type 0 where
  usable : most_usable d ≡ most_usable e
  fixed : most_fixed d ≡ most_fixed e
  box : most_box d ≡ most_box e
  freeze : freeze_at d ≡ freeze_at e

itself : (d : Device) → Alike d d
itself d = record { usable = refl; fixed = refl; box = refl; freeze = refl }

alike : (n box : ℕ) (d e : Device) → device_of n box ≡ Some d → n ≡ letter_code e → Alike d e
unfolding device_of named devices letter_of
alike n box d G h l = subst (λ (x : Device). Alike x G) (same_Some G d (rw l at h)) (itself G)
alike n box d S h l = subst (λ (x : Device). Alike x S) (same_Some S d (rw l at h)) (itself S)
alike n box d (C b) h l =
    subst (λ (x : Device). Alike x (C b)) (same_Some (C box) d (rw l at h)) (record { usable = refl; fixed = refl; box = refl; freeze = refl })
alike n box d B h l = subst (λ (x : Device). Alike x B) (same_Some B d (rw l at h)) (itself B)

-- the letter of no device
unknown_letter : (n box : ℕ) → device_of n box ≡ None → (d : Device) → ¬ (n ≡ letter_code d)
unfolding device_of named devices letter_of
unknown_letter n box h G l = none-some G (sym (rw l at h))
unknown_letter n box h S l = none-some S (sym (rw l at h))
unknown_letter n box h (C b) l = none-some (C box) (sym (rw l at h))
unknown_letter n box h B l = none-some B (sym (rw l at h))

-- a core that does not fit the field
pub core_wide : (c : Option ℕ) → core_fits c ≡ false → (n : ℕ) × (c ≡ Some n) × (7 < n)
unfolding core_fits core_count
core_wide None h = absurd (true≢false h)
core_wide (Some n) h = (n, refl, ltb-false n 8 h)

-- ---- an opening with the letter of a device
module _ (o : Opening) (d : Device) (on : device_of o.device o.cbox ≡ Some d) where
  lettered : o.device ≡ letter_code d
  lettered = sym (letter_is o.device o.cbox d on) ∙ openings.letters d

  same : (e : Device) → o.device ≡ letter_code e → Alike d e
  same e l = alike o.device o.cbox d e on l

  -- what each test says
  usable_out : usable_set d o.usable ≡ false → OpeningFailsAt o BadOpening 2
  unfolding usable_set both
  usable_out h = go (ltb 0 o.usable.0) refl h
    where
      go : (b : Bool) → ltb 0 o.usable.0 ≡ b → both b (leb o.usable.0 (all_counters d)) ≡ false → OpeningFailsAt o BadOpening 2
      go true p q = usable_above d lettered (rw (← (numbers d).usable_most) (leb-false _ _ q))
      go false p q = none_usable d lettered (omega (arith, ltb-false 0 o.usable.0 p))

  usable_some : usable_set d o.usable ≡ true → 1 ≤ o.usable.0
  unfolding usable_set
  usable_some h = ltb-true 0 o.usable.0 (both_parts _ _ h).0

  usable_in : usable_set d o.usable ≡ true → o.usable.0 ≤ most_usable d
  unfolding usable_set
  usable_in h = rw (← (numbers d).usable_most) (leb-true o.usable.0 (all_counters d) (both_parts _ _ h).1)

  fixed_out : leb o.fixed (all_fixed d) ≡ false → OpeningFailsAt o BadOpening 3
  fixed_out h = fixed_above d lettered (rw (← (numbers d).fixed_most) (leb-false _ _ h))

  fixed_in : leb o.fixed (all_fixed d) ≡ true → o.fixed ≤ most_fixed d
  fixed_in h = rw (← (numbers d).fixed_most) (leb-true o.fixed (all_fixed d) h)

  box_out : ltb o.cbox (box_count d) ≡ false → OpeningFailsAt o BadOpening 4
  box_out h = box_above d lettered (omega (arith, ltb-false o.cbox (box_count d) h, (numbers d).box_most))

  kind_out : overflow_not_on d o.overflow ≡ true → OpeningFailsAt o KindNotOnDevice 0
  unfolding on_device
  kind_out h = let row = (kind_row o).0 (rw (on, on_device) h) in asked_elsewhere row.0 row.1

  freeze_out : leb o.overflow.freeze 1 ≡ false → OpeningFailsAt o OutOfRange (freeze_field d)
  freeze_out h = rw (freeze_is d) (freeze_above d lettered (leb-false _ _ h))

  core_out : core_fits o.overflow.core ≡ false → OpeningFailsAt o OutOfRange (freeze_field d + 1)
  core_out h =
      let wide = core_wide o.overflow.core h in
      let place : freeze_field d + 1 ≡ suc (freeze_at d) = omega (arith, freeze_is d) in
      rw place (core_above d wide.0 lettered wide.1 wide.2)

  -- no field left of it
  usable_left : (k : ℕ) → k < 2 → ¬ OpeningFailsAt o BadOpening k
  usable_left k l (letter h) = h d lettered
  usable_left k l (none_usable e p h) = absurd (omega arith)
  usable_left k l (usable_above e p h) = absurd (omega arith)
  usable_left k l (fixed_above e p h) = absurd (omega arith)
  usable_left k l (box_above e p h) = absurd (omega arith)

  fixed_left : usable_set d o.usable ≡ true → (k : ℕ) → k < 3 → ¬ OpeningFailsAt o BadOpening k
  fixed_left u k l (letter h) = h d lettered
  fixed_left u k l (none_usable e p h) = absurd (omega (arith, usable_some u))
  fixed_left u k l (usable_above e p h) = absurd (omega (arith, usable_in u, (same e p).usable))
  fixed_left u k l (fixed_above e p h) = absurd (omega arith)
  fixed_left u k l (box_above e p h) = absurd (omega arith)

  box_left : usable_set d o.usable ≡ true → leb o.fixed (all_fixed d) ≡ true → (k : ℕ) → k < 4 → ¬ OpeningFailsAt o BadOpening k
  box_left u f k l (letter h) = h d lettered
  box_left u f k l (none_usable e p h) = absurd (omega (arith, usable_some u))
  box_left u f k l (usable_above e p h) = absurd (omega (arith, usable_in u, (same e p).usable))
  box_left u f k l (fixed_above e p h) = absurd (omega (arith, fixed_in f, (same e p).fixed))
  box_left u f k l (box_above e p h) = absurd (omega arith)

  freeze_left : (k : ℕ) → k < freeze_field d → ¬ OpeningFailsAt o OutOfRange k
  freeze_left k l (freeze_above e p h) = absurd (omega (arith, freeze_is d, (same e p).freeze))
  freeze_left k l (core_above e c p q h) = absurd (omega (arith, freeze_is d, (same e p).freeze))

  core_left : leb o.overflow.freeze 1 ≡ true → (k : ℕ) → k < freeze_field d + 1 → ¬ OpeningFailsAt o OutOfRange k
  core_left z k l (freeze_above e p h) = absurd (omega (arith, leb-true o.overflow.freeze 1 z))
  core_left z k l (core_above e c p q h) = absurd (omega (arith, freeze_is d, (same e p).freeze))

  known_fault : (f : Fault) → first_holding (opening_faults d o) ≡ Some f → OpeningLeftmost o f
  unfolding opening_faults first_holding
  known_fault f e =
      go (usable_set d o.usable) (leb o.fixed (all_fixed d)) (ltb o.cbox (box_count d)) (overflow_not_on d o.overflow) (leb o.overflow.freeze 1) (core_fits o.overflow.core) refl refl refl refl refl refl e
    where
      go : (u x b k z c : Bool) → usable_set d o.usable ≡ u → leb o.fixed (all_fixed d) ≡ x → ltb o.cbox (box_count d) ≡ b → overflow_not_on d o.overflow ≡ k
          → leb o.overflow.freeze 1 ≡ z → core_fits o.overflow.core ≡ c
          → first_holding ((not u, at BadOpening 2) ∷ (not x, at BadOpening 3) ∷ (not b, at BadOpening 4) ∷ (k, at KindNotOnDevice 0) ∷ (not z, at OutOfRange (freeze_field d)) ∷ (not c, at OutOfRange (freeze_field d + 1)) ∷ []) ≡ Some f
          → OpeningLeftmost o f
      go false x b k z c eu ex eb ek ez ec e = found (at BadOpening 2) f e (record { fails = usable_out eu; first = usable_left })
      go true false b k z c eu ex eb ek ez ec e = found (at BadOpening 3) f e (record { fails = fixed_out ex; first = fixed_left eu })
      go true true false k z c eu ex eb ek ez ec e = found (at BadOpening 4) f e (record { fails = box_out eb; first = box_left eu ex })
      go true true true true z c eu ex eb ek ez ec e = found (at KindNotOnDevice 0) f e (record { fails = kind_out ek; first = λ k l h. absurd (omega arith) })
      go true true true false false c eu ex eb ek ez ec e = found (at OutOfRange (freeze_field d)) f e (record { fails = freeze_out ez; first = freeze_left })
      go true true true false true false eu ex eb ek ez ec e = found (at OutOfRange (freeze_field d + 1)) f e (record { fails = core_out ec; first = core_left ez })
      go true true true false true true eu ex eb ek ez ec e = absurd (none-some f e)

-- ---- every opening

letter_left : (o : Opening) (k : ℕ) → k < 1 → ¬ OpeningFailsAt o BadOpening k
letter_left o k l (letter h) = absurd (omega arith)
letter_left o k l (none_usable e p h) = absurd (omega arith)
letter_left o k l (usable_above e p h) = absurd (omega arith)
letter_left o k l (fixed_above e p h) = absurd (omega arith)
letter_left o k l (box_above e p h) = absurd (omega arith)

pub opening_leftmost : (o : Opening) (f : Fault) → opening_fault o ≡ Some f → OpeningLeftmost o f
unfolding opening_fault opening_fault_table first_holding
opening_leftmost o f e = go (device_of o.device o.cbox) refl
  where
    go : (x : Option Device) → device_of o.device o.cbox ≡ x → OpeningLeftmost o f
    go None h = found (at BadOpening 1) f (rw (h, opening_fault, opening_fault_table) at e) (record { fails = letter (unknown_letter o.device o.cbox h); first = letter_left o })
    go (Some d) h = known_fault o d h f (rw (h, opening_fault, opening_fault_table) at e)

-- what fails under 3 is given for no device
given_alike : (o : Opening) (d e : Device) → GivenFor o d → o.device ≡ letter_code e → Alike d e
given_alike o d e given l = alike o.device o.cbox d e (letter_named o.device o.cbox d given.letter given.box) l

pub not_given : (o : Opening) (d : Device) → GivenFor o d → (k : ℕ) → ¬ OpeningFailsAt o BadOpening k
not_given o d given k (letter h) = h d (given.letter ∙ openings.letters d)
not_given o d given k (none_usable e l h) = absurd (omega (arith, given.at_least))
not_given o d given k (usable_above e l h) = absurd (omega (arith, given.at_most, (numbers d).usable_most, (given_alike o d e given l).usable))
not_given o d given k (fixed_above e l h) = absurd (omega (arith, given.fixed_at_most, (given_alike o d e given l).fixed))
not_given o d given k (box_above e l h) = absurd (omega (arith, given.box_at_most, (given_alike o d e given l).box))
