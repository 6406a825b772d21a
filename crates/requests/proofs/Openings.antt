-- What an opening opens, by the device of its letter. Assumes nothing.
use Rattle.std.proofs.lemmas.Option.{none-some, same_Some}
use Rattle.std.specs.Prelude.{Option, None, Some, Result, Ok, Err}
use mathlib.Core.Path.{◌≡◌, refl, ap, ap₂, sym, subst, ◌∙◌}
use mathlib.Core.Bool.{Bool, true, false}
use mathlib.Core.List.{List, [], ◌∷◌}
use Prim.Native.Nat.{ℕ, ◌<◌}
use native.Mathlib.Omega.{arith}
use lib.Dec.{eqb, ltb}
use lib.ListN.{length, get_or, drop}
use lib.Seq.{drop-cons}
use borrow.Author.Tests.{eqb-true, eq-eqb, ltb-true, not-false}
use Rattle.requests.specs.Choice.{first_holding}
use Rattle.requests.specs.Devices.{counter_count, letter_of, box_count, box_of, devices, named, device_of, opens, rows_where, opening_rows, on_device, opening_table, setup_on, opened_on, opened_by, opened_setup, setup_of, opening_of}
use Rattle.requests.specs.declared.Device.{Device}
use Rattle.requests.specs.declared.Device.TheVariants.{G, S, C, B}
use Rattle.requests.specs.declared.Opening.{Opening}
use Rattle.requests.specs.declared.Setup.{Setup}
use Rattle.requests.specs.declared.Refusal.{Refusal}
use Rattle.requests.specs.declared.Refusal.TheVariants.{BadOpening}
use Rattle.requests.proofs.Tests.{both_parts}
use Rattle.requests.proofs.FirstHolding.{passed}
use Rattle.requests.proofs.DeviceNumbers.{numbers}

-- a set of the device's counters fits 64 bits
pub counters_fit : (d : Device) → counter_count d < 64
counters_fit d = omega (arith, (numbers d).counters_few)

-- the letter of a device names it, with its box
pub letter_named : (n box : ℕ) (d : Device) → n ≡ letter_of d → box ≡ box_of d → device_of n box ≡ Some d
letter_named n box d e f = ap (λ (x : ℕ). device_of x box) e ∙ (numbers d).letter_names box f

-- there is a device of each of four letters
pub device_count : (box : ℕ) → length (devices box) ≡ 4
unfolding devices
device_count box = refl

-- the list names the device whose letter it is
pub this_letter : (ds : List Device) (i n : ℕ) (x : Device) → i < length ds → n ≡ letter_of (get_or ds i x) → named (drop i ds) n ≡ Some (get_or ds i x)
unfolding named
this_letter ds i n x l e = rw (drop-cons ds i x l, eq-eqb n (letter_of (get_or ds i x)) e, named)

-- what an opening with a device's letter opens
pub opened_on_lem : (o : Opening) (d : Device) → device_of o.device o.cbox ≡ Some d → opened_by o ≡ opened_on d o (first_holding (opening_rows d o))
unfolding opened_by
opened_on_lem o d e = rw (e, opened_by)

-- what an opening with another letter opens
pub opened_refused : (o : Opening) → device_of o.device o.cbox ≡ None → opened_by o ≡ Err BadOpening
unfolding opened_by
opened_refused o e = rw (e, opened_by)

-- the setup of what was opened
pub opened_some : (o : Opening) (s : Setup) → opened_by o ≡ Ok s → setup_of o ≡ Some s
unfolding setup_of opened_setup
opened_some o s e = ap opened_setup e

-- what is opened and the table of refusals agree
abbrev Agree : Result Setup Refusal → Option Refusal → Type 0
Agree (Ok s) x = x ≡ None
Agree (Err y) x = x ≡ Some y

opened_table : (o : Opening) → Agree (opened_by o) (first_holding (opening_table o))
unfolding opened_by opened_on on_device opening_table rows_where opening_rows first_holding
opened_table o = go (device_of o.device o.cbox) refl
  where
    on : (d : Device) (x : Option Refusal) → Agree (opened_on d o x) x
    on d None = refl
    on d (Some x) = refl

    go : (x : Option Device) → device_of o.device o.cbox ≡ x → Agree (opened_by o) (first_holding (opening_table o))
    go None h = rw (h, opened_by, on_device) refl
    go (Some d) h = rw (h, opened_by, on_device) (on d (first_holding (opening_rows d o)))

-- where nothing is opened, the table has the refusal
pub opened_none : (o : Opening) (x : Refusal) → opened_by o ≡ Err x → (setup_of o ≡ None) × (first_holding (opening_table o) ≡ Some x)
unfolding setup_of opened_setup
opened_none o x e = (ap opened_setup e, subst (λ (y : Result Setup Refusal). Agree y (first_holding (opening_table o))) e (opened_table o))

-- an opening is taken exactly where no row of the table refuses it
pub taken_table : (o : Opening) (s : Setup) → setup_of o ≡ Some s → first_holding (opening_table o) ≡ None
unfolding setup_of opened_setup
taken_table o s e = go (opened_by o) (opened_table o) e
  where
    go : (y : Result Setup Refusal) → Agree y (first_holding (opening_table o)) → opened_setup y ≡ Some s → first_holding (opening_table o) ≡ None
    go (Ok t) a k = a
    go (Err x) a k = absurd (none-some s k)

pub table_taken : (o : Opening) → first_holding (opening_table o) ≡ None → (s : Setup) × (setup_of o ≡ Some s)
unfolding setup_of opened_setup
table_taken o e = go (opened_by o) (opened_table o)
  where
    go : (y : Result Setup Refusal) → Agree y (first_holding (opening_table o)) → (s : Setup) × (opened_setup y ≡ Some s)
    go (Ok t) a = (t, refl)
    go (Err x) a = absurd (none-some x (sym e ∙ a))

-- the letter that names a device is its own
pub letter_is : (letter box : ℕ) (d : Device) → device_of letter box ≡ Some d → letter_of d ≡ letter
unfolding device_of named
letter_is letter box d e = go (devices box) e
  where
    here : (x : Device) (ds : List Device) → (named ds letter ≡ Some d → letter_of d ≡ letter) → (b : Bool) → eqb letter (letter_of x) ≡ b → named (x ∷ ds) letter ≡ Some d → letter_of d ≡ letter
    here x ds later true h k = ap letter_of (sym (same_Some x d (rw (h, named) at k))) ∙ sym (eqb-true letter (letter_of x) h)
    here x ds later false h k = later (rw (h, named) at k)

    go : (ds : List Device) → named ds letter ≡ Some d → letter_of d ≡ letter
    go [] k = absurd (none-some d k)
    go (x ∷ ds) k = here x ds (go ds) (eqb letter (letter_of x)) refl k

-- and its box is the one that is given, where the device has that
pub box_is : (letter box : ℕ) (d : Device) → device_of letter box ≡ Some d → ltb box (box_count d) ≡ true → box_of d ≡ box
unfolding device_of named devices box_count box_of
box_is letter box d e h = go (eqb letter (letter_of G)) refl (eqb letter (letter_of S)) refl (eqb letter (letter_of (C box))) refl (eqb letter (letter_of B)) refl
  where
    one : (x : Device) → Some x ≡ Some d → box_of x ≡ 0 → box_count x ≡ 1 → box_of d ≡ box
    one x k zero count =
        let is : x ≡ d = same_Some x d k in
        let below : box < 1 = ltb-true box 1 (ap (ltb box) (sym count ∙ ap box_count is) ∙ h) in
        ap box_of (sym is) ∙ zero ∙ omega arith

    go : (p : Bool) → eqb letter (letter_of G) ≡ p → (q : Bool) → eqb letter (letter_of S) ≡ q → (r : Bool) → eqb letter (letter_of (C box)) ≡ r → (t : Bool) → eqb letter (letter_of B) ≡ t
        → box_of d ≡ box
    go true f q g r k t l = one G (rw (f, named) at e) refl refl
    go false f true g r k t l = one S (rw (f, g, named) at e) refl refl
    go false f false g true k t l = ap box_of (sym (same_Some (C box) d (rw (f, g, k, named) at e)))
    go false f false g false k true l = one B (rw (f, g, k, l, named) at e) refl refl
    go false f false g false k false l = absurd (none-some d (rw (f, g, k, l, named) at e))

-- an opening that is taken: its letter names the device, which refuses it by no row
pub taken_parts : (o : Opening) (s : Setup) → setup_of o ≡ Some s
    → (letter_of s.device ≡ o.device) × (first_holding (opening_rows s.device o) ≡ None) × (setup_on s.device o ≡ s) × (box_of s.device ≡ o.cbox)
unfolding setup_of opened_setup opened_by opened_on rows_where opening_rows opens setup_on
taken_parts o s e = go (device_of o.device o.cbox) refl
  where
    Parts : Setup → Type 0
    Parts t = (letter_of t.device ≡ o.device) × (first_holding (opening_rows t.device o) ≡ None) × (setup_on t.device o ≡ t) × (box_of t.device ≡ o.cbox)

    opened : (d : Device) → device_of o.device o.cbox ≡ Some d → (x : Option Refusal) → first_holding (opening_rows d o) ≡ x → Parts s
    opened d h None k =
        let is : setup_on d o ≡ s = same_Some (setup_on d o) s (rw (h, k, setup_of, opened_by, opened_on) at e) in
        let has : opens d o ≡ true = not-false _ (passed _ _ k).0 in
        subst Parts is (letter_is o.device o.cbox d h, k, refl, box_is o.device o.cbox d h (both_parts _ _ (both_parts _ _ has).1).1)
    opened d h (Some x) k = absurd (none-some s (rw (h, k, setup_of, opened_by, opened_on) at e))

    go : (x : Option Device) → device_of o.device o.cbox ≡ x → Parts s
    go None h = absurd (none-some s (rw (h, setup_of, opened_by) at e))
    go (Some d) h = opened d h (first_holding (opening_rows d o)) refl

-- the setup of an opening is what it was given, as it was given
pub opening_is : (o : Opening) (s : Setup) → setup_of o ≡ Some s → opening_of s ≡ o
unfolding setup_on opening_of
opening_is o s e =
    let parts = taken_parts o s e in
    ap opening_of (sym parts.2)
    ∙ ap₂ (λ (n box : ℕ). record { device = n; usable = o.usable; fixed = o.fixed; cbox = box; overflow = o.overflow }) parts.0 parts.3
