-- Which openings are taken, and the number of each that is refused: by the cases of the letter, and of the rows of its device.
use Rattle.std.specs.Prelude.{Option, None, Some, Result, Err}
use mathlib.Core.Path.{◌≡◌, refl, ap, sym, ◌∙◌}
use mathlib.Core.Logic.{◌⊎◌, inl, inr, ⊎_elim, ◌↔◌}
use mathlib.Core.Bool.{Bool, true, false, not, true≢false, false≢true}
use Prim.Native.Nat.{◌≤◌}
use native.Mathlib.Omega.{arith}
use lib.Dec.{leb, ltb}
use borrow.Author.Tests.{lt-ltb, le-leb, ltb-true, leb-true, not-true, not-false}
use Rattle.requests.specs.Choice.{both, first_holding}
use Rattle.requests.specs.Refusals.{number_of, answer_number}
use Rattle.requests.specs.Askings.{overflow_on, asks, asked, overflow_not_on, overflow_fits}
use Rattle.requests.specs.Devices.{all_counters, all_fixed, letter_of, box_count, box_of, devices, named, device_of, usable_set, opens, rows_where, opening_rows, on_device, setup_on, opened_on, opened_by, setup_of, opening_of, opened_answer}
use Rattle.requests.specs.Openings.{letter_code, most_fixed, most_box, MayAsk, NothingAsked, InRange, NotAsked, GivenFor, Opens, opening_number, Openings}
use Rattle.requests.specs.declared.CounterSet.{CounterSet}
use Rattle.requests.specs.declared.Device.{Device}
use Rattle.requests.specs.declared.Device.TheVariants.{G, S, C, B}
use Rattle.requests.specs.declared.Opening.{Opening}
use Rattle.requests.specs.declared.Refusal.{Refusal}
use Rattle.requests.specs.declared.Refusal.TheVariants.{BadOpening, KindNotOnDevice, OutOfRange}
use Rattle.requests.specs.declared.Setup.{Setup}
use Rattle.requests.proofs.DeviceNumbers.{numbers}
use Rattle.requests.proofs.FirstHolding.{holds, skips, passed, ends}
use Rattle.requests.proofs.Openings.{letter_named, letter_is, box_is, opened_on_lem, opened_refused, opened_some, taken_parts}
use Rattle.requests.proofs.AskingTests.{may_ask, asked_on, not_asked_on, asks_nothing, nothing_asked, asks_some, in_range, range_fits, range_missed, nothing_in_range}
use Rattle.requests.proofs.Tests.{both_ways, both_parts, true_both, both_false}

-- the test of a usable set, both ways
set_bounds : (d : Device) (u : CounterSet) → usable_set d u ≡ true → (1 ≤ u.0) × (u.0 ≤ all_counters d)
unfolding usable_set
set_bounds d u h =
    let parts = both_parts _ _ h in
    (ltb-true 0 u.0 parts.0, leb-true u.0 (all_counters d) parts.1)

set_tested : (d : Device) (u : CounterSet) → 1 ≤ u.0 → u.0 ≤ all_counters d → usable_set d u ≡ true
unfolding usable_set
set_tested d u h k = true_both _ _ (lt-ltb 0 u.0 h) (le-leb u.0 (all_counters d) k)

-- the test of the number of fixed enables, both ways
fixed_bounds : (d : Device) (o : Opening) → leb o.fixed (all_fixed d) ≡ true → o.fixed ≤ most_fixed d
fixed_bounds d o h = rw (← (numbers d).fixed_most) (leb-true o.fixed (all_fixed d) h)

fixed_tested : (d : Device) (o : Opening) → o.fixed ≤ most_fixed d → leb o.fixed (all_fixed d) ≡ true
fixed_tested d o h = le-leb o.fixed (all_fixed d) (rw (numbers d).fixed_most h)

-- the test of the box, both ways
box_bounds : (d : Device) (o : Opening) → ltb o.cbox (box_count d) ≡ true → o.cbox ≤ most_box d
box_bounds d o h = omega (arith, ltb-true o.cbox (box_count d) h, (numbers d).box_most)

box_tested : (d : Device) (o : Opening) → o.cbox ≤ most_box d → ltb o.cbox (box_count d) ≡ true
box_tested d o h = lt-ltb o.cbox (box_count d) (omega (arith, (numbers d).box_most))

-- the tests of what is given for a device, both ways
given_tested : (d : Device) (o : Opening) → GivenFor o d → opens d o ≡ true
unfolding opens
given_tested d o h =
    true_both _ _ (set_tested d o.usable h.at_least h.at_most)
    (true_both _ _ (fixed_tested d o h.fixed_at_most) (box_tested d o h.box_at_most))

given_for : (d : Device) (o : Opening) → o.device ≡ letter_of d → o.cbox ≡ box_of d → opens d o ≡ true → GivenFor o d
unfolding opens
given_for d o letter box h =
    let tests = both_parts _ _ h in
    let rest = both_parts _ _ tests.1 in
    let set = set_bounds d o.usable tests.0 in
    record {
      letter = letter;
      at_least = set.0;
      at_most = set.1;
      fixed_at_most = fixed_bounds d o rest.0;
      box = box;
      box_at_most = box_bounds d o rest.1;
    }

-- ---- the rows of an opening for a device

-- such an opening is answered by the device's rows
given_by : (d : Device) (o : Opening) → GivenFor o d → opened_by o ≡ opened_on d o (first_holding (opening_rows d o))
given_by d o h = opened_on_lem o d (letter_named o.device o.cbox d h.letter h.box)

-- what it asks is refused by no row
asked_passes : (d : Device) (o : Opening) → GivenFor o d → NothingAsked o.overflow ⊎ (MayAsk d × InRange o.overflow) → first_holding (opening_rows d o) ≡ None
unfolding rows_where opening_rows overflow_not_on both
asked_passes d o h (inl nothing) =
    skips _ _ (ap not (given_tested d o h))
    ∙ skips _ _ (rw (asks_nothing o.overflow nothing))
    ∙ skips _ _ (ap not (range_fits o.overflow (nothing_in_range o.overflow nothing)))
    ∙ ends
asked_passes d o h (inr asked) =
    skips _ _ (ap not (given_tested d o h))
    ∙ skips _ _ (ap (λ (b : Bool). both (asks o.overflow) (not b)) (asked_on d asked.0) ∙ both_false (asks o.overflow))
    ∙ skips _ _ (ap not (range_fits o.overflow asked.1))
    ∙ ends

-- and where no row refuses it, it asks nothing or what the device may be asked
passes_asked : (d : Device) (o : Opening) → first_holding (opening_rows d o) ≡ None → (opens d o ≡ true) × (NothingAsked o.overflow ⊎ (MayAsk d × InRange o.overflow))
unfolding rows_where opening_rows overflow_not_on
passes_asked d o e =
    let given = passed _ _ e in
    let kind = passed _ _ given.1 in
    let range = passed _ _ kind.1 in
    (not-false _ given.0, go (asks o.overflow) refl (overflow_on d) refl kind.0 (not-false _ range.0))
  where
    go : (a : Bool) → asks o.overflow ≡ a → (b : Bool) → overflow_on d ≡ b → overflow_not_on d o.overflow ≡ false → overflow_fits o.overflow ≡ true
        → NothingAsked o.overflow ⊎ (MayAsk d × InRange o.overflow)
    go false h b k row fits = inl (nothing_asked o.overflow h)
    go true h true k row fits = inr (may_ask d k, in_range o.overflow fits)
    go true h false k row fits = absurd (true≢false (sym (true_both _ _ h (ap not k)) ∙ row))

-- ---- the cases

taken : (o : Opening) (s : Setup) → Opens o s → setup_of o ≡ Some s
unfolding opened_on setup_on
taken o s h =
    opened_some o s (given_by s.device o h.given ∙ ap (opened_on s.device o) (asked_passes s.device o h.given h.askings) ∙ rw (h.usable, h.fixed, h.overflow))

only : (o : Opening) (s : Setup) → setup_of o ≡ Some s → Opens o s
unfolding setup_on
only o s e =
    let parts = taken_parts o s e in
    let rest = passes_asked s.device o parts.1 in
    let is : setup_on s.device o ≡ s = parts.2 in
    record {
      given = given_for s.device o (sym parts.0) (sym parts.3) rest.0;
      usable = ap (λ (t : Setup). t.usable) is;
      fixed = ap (λ (t : Setup). t.fixed) is;
      overflow = ap (λ (t : Setup). t.overflow) is;
      askings = rest.1;
    }

-- an opening that is taken has a set of the device's counters
pub usable_bounds : (o : Opening) (s : Setup) → setup_of o ≡ Some s → (1 ≤ s.usable.0) × (s.usable.0 ≤ all_counters s.device)
usable_bounds o s e =
    let h = only o s e in
    (rw (← h.usable) h.given.at_least, rw (← h.usable) h.given.at_most)

refused : (o : Opening) → ((s : Setup) → ¬ Opens o s) → setup_of o ≡ None
refused o none-opens = go (setup_of o) refl
  where
    go : (x : Option Setup) → setup_of o ≡ x → setup_of o ≡ None
    go None h = h
    go (Some s) h = absurd (none-opens s (only o s h))

-- the number of an opening that a row of the device's refuses
by_row : (o : Opening) (d : Device) → GivenFor o d → (x : Refusal) → first_holding (opening_rows d o) ≡ Some x → opening_number o ≡ Some (number_of x)
unfolding opened_on opened_answer answer_number
by_row o d h x e = ap (λ (y : Result Setup Refusal). answer_number (opened_answer y)) (given_by d o h ∙ ap (opened_on d o) e)

accepted : (o : Opening) (s : Setup) → Opens o s → opening_number o ≡ None
unfolding opened_on opened_answer answer_number
accepted o s h =
    ap (λ (y : Result Setup Refusal). answer_number (opened_answer y))
    (given_by s.device o h.given ∙ ap (opened_on s.device o) (asked_passes s.device o h.given h.askings))

seven : (o : Opening) (d : Device) → GivenFor o d → ¬ MayAsk d → ¬ NothingAsked o.overflow → opening_number o ≡ Some 7
unfolding rows_where opening_rows overflow_not_on number_of
seven o d h n a =
    by_row o d h KindNotOnDevice
    (skips _ _ (ap not (given_tested d o h)) ∙ holds _ _ (true_both _ _ (asks_some o.overflow a) (ap not (not_asked_on d n))))

ten : (o : Opening) (d : Device) → GivenFor o d → MayAsk d → ¬ InRange o.overflow → opening_number o ≡ Some 10
unfolding rows_where opening_rows overflow_not_on number_of
ten o d h m n =
    by_row o d h OutOfRange
    (skips _ _ (ap not (given_tested d o h))
    ∙ skips _ _ (ap (λ (b : Bool). both (asks o.overflow) (not b)) (asked_on d m) ∙ both_false (asks o.overflow))
    ∙ holds _ _ (ap not (range_missed o.overflow n)))

three : (o : Opening) → ((d : Device) → ¬ GivenFor o d) → opening_number o ≡ Some 3
unfolding opened_on opened_answer answer_number number_of rows_where opening_rows opens
three o no_device = go (device_of o.device o.cbox) refl
  where
    bad : opened_by o ≡ Err BadOpening → opening_number o ≡ Some 3
    bad e = ap (λ (y : Result Setup Refusal). answer_number (opened_answer y)) e

    on : (d : Device) → device_of o.device o.cbox ≡ Some d → (b : Bool) → opens d o ≡ b → opening_number o ≡ Some 3
    on d e true h =
        let box = box_is o.device o.cbox d e (both_parts _ _ (both_parts _ _ h).1).1 in
        absurd (no_device d (given_for d o (sym (letter_is o.device o.cbox d e)) (sym box) h))
    on d e false h = bad (opened_on_lem o d e ∙ ap (opened_on d o) (holds _ _ (ap not h)))

    go : (x : Option Device) → device_of o.device o.cbox ≡ x → opening_number o ≡ Some 3
    go None h = bad (opened_refused o h)
    go (Some d) h = on d h (opens d o) refl

-- ---- the rows of the table, each in its own words

pub device_row : (o : Opening) → (not (on_device o (λ d. opens d o)) ≡ true) ↔ ((d : Device) → ¬ GivenFor o d)
unfolding on_device opens
device_row o = (λ h d given. to d given (device_of o.device o.cbox) refl h, λ no_device. from no_device (device_of o.device o.cbox) refl)
  where
    to : (d : Device) → GivenFor o d → (x : Option Device) → device_of o.device o.cbox ≡ x → not (elim x [ None ↦ false | Some d ↦ opens d o ]) ≡ true → ⊥
    to d given x e h =
        let named = sym e ∙ letter_named o.device o.cbox d given.letter given.box in
        both_ways (given_tested d o given) (not-true _ (rw named at h))

    from : ((d : Device) → ¬ GivenFor o d) → (x : Option Device) → device_of o.device o.cbox ≡ x → not (elim x [ None ↦ false | Some d ↦ opens d o ]) ≡ true
    from no_device None e = refl
    from no_device (Some d) e = go (opens d o) refl
      where
        go : (b : Bool) → opens d o ≡ b → not b ≡ true
        go false h = refl
        go true h =
            let box = box_is o.device o.cbox d e (both_parts _ _ (both_parts _ _ h).1).1 in
            absurd (no_device d (given_for d o (sym (letter_is o.device o.cbox d e)) (sym box) h))

-- a device that may not be asked is named by its letter, whatever the box
named_unasked : (o : Opening) (d : Device) → o.device ≡ letter_of d → ¬ MayAsk d → device_of o.device o.cbox ≡ Some d
unfolding device_of named devices letter_of
named_unasked o G e n = rw e
named_unasked o S e n = absurd (n tt)
named_unasked o (C b) e n = absurd (n tt)
named_unasked o B e n = rw e

pub kind_row : (o : Opening) → (on_device o (λ d. overflow_not_on d o.overflow) ≡ true) ↔ (NotAsked o × (¬ NothingAsked o.overflow))
unfolding on_device overflow_not_on
kind_row o = (to (device_of o.device o.cbox) refl, from)
  where
    to : (x : Option Device) → device_of o.device o.cbox ≡ x → elim x [ None ↦ false | Some d ↦ both (asks o.overflow) (not (overflow_on d)) ] ≡ true
        → NotAsked o × (¬ NothingAsked o.overflow)
    to None e h = absurd (false≢true h)
    to (Some d) e h =
        let parts = both_parts _ _ h in (
          (d, sym (letter_is o.device o.cbox d e), λ m. both_ways (asked_on d m) (not-true _ parts.1)),
          λ n. both_ways parts.0 (asks_nothing o.overflow n),
        )

    from : NotAsked o × (¬ NothingAsked o.overflow) → elim (device_of o.device o.cbox) [ None ↦ false | Some d ↦ both (asks o.overflow) (not (overflow_on d)) ] ≡ true
    from h =
        rw (named_unasked o h.0.0 h.0.1 h.0.2)
        (true_both _ _ (asks_some o.overflow h.1) (ap not (not_asked_on h.0.0 h.0.2)))

pub range_row : (o : Opening) → (not (overflow_fits o.overflow) ≡ true) ↔ (¬ InRange o.overflow)
range_row o = (λ h r. both_ways (range_fits o.overflow r) (not-true _ h), λ n. ap not (range_missed o.overflow n))

nothing : (o : Opening) (s : Setup) → setup_of o ≡ Some s → NothingAsked o.overflow → asked s ≡ false
unfolding asked
nothing o s e n = ap (both (overflow_on s.device)) (ap asks (sym (only o s e).overflow) ∙ asks_nothing o.overflow n) ∙ both_false (overflow_on s.device)

something : (o : Opening) (s : Setup) → setup_of o ≡ Some s → ¬ NothingAsked o.overflow → asked s ≡ true
unfolding asked
something o s e n =
    let h = only o s e in
    true_both _ _ (⊎_elim (λ x. absurd (n x)) (λ x. asked_on s.device x.0) h.askings) (ap asks (sym h.overflow) ∙ asks_some o.overflow n)

given : (s : Setup)
    → ((opening_of s).device ≡ letter_of s.device) × ((opening_of s).usable ≡ s.usable) × ((opening_of s).fixed ≡ s.fixed) × ((opening_of s).cbox ≡ box_of s.device) × ((opening_of s).overflow ≡ s.overflow)
unfolding opening_of
given s = (refl, refl, refl, refl, refl)

letters : (d : Device) → letter_of d ≡ letter_code d
unfolding letter_of
letters G = refl
letters S = refl
letters (C b) = refl
letters B = refl

pub openings : Openings
openings =
    record {
      taken = taken;
      only = only;
      refused = refused;
      accepted = accepted;
      three = three;
      seven = seven;
      ten = ten;
      nothing = nothing;
      something = something;
      given = given;
      letters = letters;
      bounds = λ d. (numbers d).usable_most;
    }
