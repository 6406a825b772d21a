-- Places laid one after another into their array, and the answer that holds them. Assumes nothing.
use Rattle.std.specs.Prelude.{Option, Some, None}
use mathlib.Core.Path.{◌≡◌, refl, ap, sym, ◌∙◌}
use mathlib.Core.List.{List, [], ◌∷◌, ◌++◌}
use Prim.Native.Nat.{ℕ, suc, ◌+◌, ◌-◌, ◌<◌}
use native.Mathlib.Nat.{add-zero, zero-add}
use native.Mathlib.Numerals.{add-one}
use native.Mathlib.Omega.{arith}
use lib.ListN.{length, set, replicate, length-append}
use lib.Seq.{set_at, append_snoc}
use Rattle.requests.specs.declared.Setup.{Setup}
use Rattle.requests.specs.declared.Request.{Request}
use Rattle.requests.specs.Devices.{capacity}
use Rattle.plans.specs.declared.Place.{Place}
use Rattle.plans.specs.Search.{first_plan}
use Rattle.search.specs.Rows.{request_at, rows_from}
use Rattle.plans.specs.Packed.{packed, place_at_lem, places_from}
use Rattle.search.specs.Found.{nothing, given, found_of}
use Rattle.search.proofs.RequestRows.{rows_length, rows_last}
use Rattle.search.proofs.Unpacking.{none_packed, some_packed, plan_unpacked}

-- one place more
given_last : (ps : List Place) (p : Place) → length ps < 8 → set (given ps) (length ps) p ≡ given (ps ++ (p ∷ []))
unfolding given capacity
given_last ps p l =
    let past : 8 - length ps ≡ suc (8 - suc (length ps)) = omega arith in
    let longer : length (ps ++ (p ∷ [])) ≡ suc (length ps) = length-append ps (p ∷ []) ∙ omega arith in
    let rest = replicate (8 - suc (length ps)) nothing in
    rw (past, longer) (set_at ps nothing rest p (length ps) refl ∙ sym (append_snoc ps p rest))

pub places_length : (code i : ℕ) (rs : List Request) → length (places_from code i rs) ≡ length rs
unfolding places_from
places_length code i [] = refl
places_length code i (r ∷ rs) = ap suc (places_length code (i + 1) rs)

places_last : (code i : ℕ) (rs : List Request) (r : Request) → places_from code i (rs ++ (r ∷ [])) ≡ places_from code i rs ++ (place_at_lem code (i + length rs) r ∷ [])
unfolding places_from
places_last code i [] r = rw (add-zero i)
places_last code i (q ∷ rs) r =
    let s : i + 1 + length rs ≡ i + suc (length rs) = omega arith in
    ap (λ (l : List Place). place_at_lem code i q ∷ l) (rw (← s) (places_last code (i + 1) rs r))

-- the place of row i behind those of the rows in front
pub place_behind : (code : ℕ) (rows : List ℕ) (i : ℕ) (r : Request) (p : Place) → r ≡ request_at rows i → p ≡ place_at_lem code i r
    → places_from code 0 (rows_from rows 0 (i + 1)) ≡ places_from code 0 (rows_from rows 0 i) ++ (p ∷ [])
place_behind code rows i r p e f =
    let more : rows_from rows 0 (i + 1) ≡ rows_from rows 0 i ++ (r ∷ []) = rw (add-one i) (rows_last rows 0 i ∙ rw (zero-add i, e)) in
    rw more (places_last code 0 (rows_from rows 0 i) r ∙ rw (rows_length rows 0 i, zero-add i, f))

-- the place of row i is laid behind those of the rows in front
pub place_laid : (code : ℕ) (rows : List ℕ) (i : ℕ) (places : List Place) (r : Request) (p : Place) → i < 8 → r ≡ request_at rows i → p ≡ place_at_lem code i r
    → places ≡ given (places_from code 0 (rows_from rows 0 i)) → set places i p ≡ given (places_from code 0 (rows_from rows 0 (i + 1)))
place_laid code rows i places r p l e f g =
    let long : length (places_from code 0 (rows_from rows 0 i)) ≡ i = places_length code 0 (rows_from rows 0 i) ∙ rows_length rows 0 i in
    rw (g, place_behind code rows i r p e f) (rw long at (given_last (places_from code 0 (rows_from rows 0 i)) p (omega (arith, long))))

pub found_none : (x : ℕ) (o : Option (List Place)) → x ≡ packed o → x ≡ 0 → None ≡ found_of o
unfolding found_of
found_none x o e z = rw (none_packed o (sym e ∙ z))

pub found_some : (s : Setup) (rs : List Request) (x : ℕ) (places : List Place) → x ≡ packed (first_plan s rs) → (x ≡ 0 → ⊥) → places ≡ given (places_from x 0 rs)
    → Some places ≡ found_of (first_plan s rs)
unfolding found_of
found_some s rs x places e f g =
    let p = some_packed (first_plan s rs) (λ z. f (e ∙ z)) in
    let back : places_from x 0 rs ≡ p.0 = ap (λ (code : ℕ). places_from code 0 rs) e ∙ plan_unpacked s rs p.0 p.1 in
    rw (p.1, g, back)
