-- The device whose letter a field is: the field is that letter alone, and the first device with it, walking through all. Assumes nothing.
use Rattle.std.proofs.lemmas.Option.{none-some}
use Rattle.std.specs.Prelude.{Option, None, Some, Ok}
use mathlib.Core.Path.{◌≡◌, refl, ap, sym, ◌∙◌}
use mathlib.Core.Bool.{Bool, true, false}
use mathlib.Core.List.{List, [], ◌∷◌}
use Prim.Native.Nat.{ℕ, suc, ◌+◌, ◌<◌, ◌≤◌}
use native.Mathlib.Numerals.{add-one}
use native.Mathlib.Omega.{arith}
use lib.Dec.{eqb}
use lib.ListN.{length, get_or, drop, drop_of_length-le}
use lib.Seq.{drop-cons}
use Rattle.requests.specs.declared.Device.{Device}
use Rattle.requests.specs.declared.Device.TheVariants.{G, S, C, B}
use Rattle.requests.specs.Choice.{pick}
use Rattle.requests.specs.Devices.{letter_of, devices, named, device_of}
use Rattle.requests.proofs.Openings.{letter_is, this_letter}
use Rattle.grammar.specs.Fields.{same_bytes_lem}
use Rattle.grammar.specs.Verbs.{with_device}
use Rattle.grammar.specs.Letters.{lettered}
use Rattle.grammar.specs.declared.Record.{Record}
use Rattle.grammar.specs.Parsed.{Parsed}
use Rattle.grammar.specs.declared.Line.{Line}
use Rattle.grammar.proofs.Outcomes.{fault_not_line}
use Rattle.grammar.proofs.WordLoops.{same_bytes}

-- the device as its letter tells it: box 0 of C
unfoldable pub by_letter : Device → Device
by_letter G = G
by_letter S = S
by_letter (C b) = C 0
by_letter B = B

-- a device's letter is read so
pub letter_reads : (d : Device) → lettered (letter_of d ∷ []) ≡ Some (by_letter d)
unfolding lettered by_letter letter_of device_of named devices
letter_reads G = refl
letter_reads S = refl
letter_reads (C b) = refl
letter_reads B = refl

-- and nothing else is
pub lettered_only : (f : List ℕ) (d : Device) → lettered f ≡ Some d → f ≡ letter_of d ∷ []
unfolding lettered
lettered_only [] d e = absurd (none-some d e)
lettered_only (letter ∷ []) d e = ap (λ (x : ℕ). x ∷ []) (sym (letter_is letter 0 d e))
lettered_only (letter ∷ b ∷ f) d e = absurd (none-some d e)

-- a device was there
pub device_only : (x : Option Device) (k : ℕ) (next : Device → Parsed) (r : Record) → with_device x k next ≡ Ok (Line.Record r)
    → (d : Device) × (x ≡ Some d) × (next d ≡ Ok (Line.Record r))
device_only (Some d) k next r e = (d, refl, e)
device_only None k next r e = absurd (fault_not_line k r e)

-- the first device of a list whose letter is the field
unfoldable pub lettered_in : List Device → List ℕ → Option Device
lettered_in ds [] = None
lettered_in ds (letter ∷ []) = named ds letter
lettered_in ds (letter ∷ b ∷ f) = None

-- among all
pub lettered_all : (f : List ℕ) → lettered_in (devices 0) f ≡ lettered f
unfolding lettered lettered_in device_of
lettered_all [] = refl
lettered_all (letter ∷ []) = refl
lettered_all (letter ∷ b ∷ f) = refl

-- the field is the letter of the device at place i
pub letter_here : (f : List ℕ) (ds : List Device) (i : ℕ) (x : Device) → i < length ds → same_bytes_lem f (letter_of (get_or ds i x) ∷ []) ≡ true
    → lettered_in (drop i ds) f ≡ Some (get_or ds i x)
unfolding lettered_in
letter_here f ds i x l e =
    ap (lettered_in (drop i ds)) (same_bytes f (letter_of (get_or ds i x) ∷ []) e) ∙ this_letter ds i (letter_of (get_or ds i x)) x l refl

-- it is not that of the first device
letter_passed : (f : List ℕ) (d : Device) (ds : List Device) → same_bytes_lem f (letter_of d ∷ []) ≡ false → lettered_in ds f ≡ lettered_in (d ∷ ds) f
unfolding lettered_in same_bytes_lem named
letter_passed [] d ds e = refl
letter_passed (letter ∷ []) d ds e = go (eqb letter (letter_of d)) refl e
  where
    go : (b : Bool) → eqb letter (letter_of d) ≡ b → pick b true false ≡ false → named ds letter ≡ named (d ∷ ds) letter
    go true p q = let z : ◌≡◌ {A = ℕ} 0 1 = cc in absurd (omega arith)
    go false p q = rw (p, named)
letter_passed (letter ∷ b ∷ f) d ds e = refl

-- nor that of the device at place i
pub letter_next : (f : List ℕ) (ds : List Device) (i : ℕ) (x : Device) → i < length ds → same_bytes_lem f (letter_of (get_or ds i x) ∷ []) ≡ false
    → lettered_in (drop (i + 1) ds) f ≡ lettered_in (drop i ds) f
letter_next f ds i x l e = rw (add-one, drop-cons ds i x l) (letter_passed f (get_or ds i x) (drop (suc i) ds) e)

-- nor of any
pub letter_none : (f : List ℕ) (ds : List Device) (i : ℕ) → length ds ≤ i → lettered_in (drop i ds) f ≡ None
unfolding lettered_in named
letter_none f ds i l = rw (drop_of_length-le ds l) (go f)
  where
    go : (f : List ℕ) → lettered_in [] f ≡ None
    go [] = refl
    go (letter ∷ []) = refl
    go (letter ∷ b ∷ f) = refl
