-- The rounds of a look-up by code: as many as the places it reads, and at most one. Assumes nothing.
use mathlib.Core.Path.{◌≡◌, refl, ap, sym, ◌∙◌}
use mathlib.Core.List.{List, Memᴰ}
use Prim.Native.Nat.{ℕ, ◌<◌, ◌≤◌}
use native.Mathlib.Decide.{dec_lt}
use native.Mathlib.Omega.{arith}
use lib.ListN.{length, get_or}
use Rattle.requests.specs.ByCode.{places_read, found_in}
use Rattle.requests.specs.Rounds.{Rounds}
use Rattle.requests.proofs.ByCode.{found_within, found_past, read_within, read_past, found_same}
use Rattle.requests.proofs.ListedByCode.{cbox_apart, cbox_listing}

module _ (table : List ℕ) (c : ℕ) where
  one : (found_in table c).rounds ≤ 1
  one = go (dec_lt c (length table))
    where
      go : Dec (c < length table) → (found_in table c).rounds ≤ 1
      go (yes within) = rw (found_within table c within) (omega arith)
      go (no none) = rw (found_past table c (omega (arith, none))) (omega arith)

  counted : (found_in table c).rounds ≡ length (places_read table c)
  counted = go (dec_lt c (length table))
    where
      go : Dec (c < length table) → (found_in table c).rounds ≡ length (places_read table c)
      go (yes within) = rw (found_within table c within, read_within table c within)
      go (no none) = rw (found_past table c (omega (arith, none)), read_past table c (omega (arith, none)))

-- the other table has the same entries at the places read
module _ (table other : List ℕ) (c : ℕ) (alike : (i : ℕ) → Memᴰ i (places_read table c) → get_or other i 0 ≡ get_or table i 0) (long : length other ≡ length table) where
  sight : found_in other c ≡ found_in table c
  sight = go (dec_lt c (length table))
    where
      go : Dec (c < length table) → found_in other c ≡ found_in table c
      go (yes within) =
          let read = alike c (rw (read_within table c within) (Memᴰ.head refl)) in
          found_within other c (omega (arith, within, long)) ∙ ap (λ (r : ℕ). record { row = r; rounds = 1 }) read ∙ sym (found_within table c within)
      go (no none) = found_past other c (omega (arith, none, long)) ∙ sym (found_past table c (omega (arith, none)))

pub rounds : Rounds
rounds =
    record {
      eight = λ table c. omega (arith, one table c);
      one = one;
      counted = counted;
      sight = sight;
      same = found_same;
      apart = cbox_apart;
      listing = cbox_listing;
    }
