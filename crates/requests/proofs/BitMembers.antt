-- Lists of bits by their members: what the tests of a word's bits say of them. Assumes nothing.
use mathlib.Core.Path.{◌≡◌, refl, sym, subst, ◌∙◌}
use mathlib.Core.Logic.{⊎_elim}
use mathlib.Core.Bool.{Bool, true, false, not, false≢true}
use mathlib.Core.List.Memᴰ
use mathlib.Core.List.{List, [], ◌∷◌, ◌++◌, Memᴰ}
use mathlib.Mathlib.Data.Bool.Basic.{eq-false_of_not-eq-true}
use Prim.Native.Nat.{ℕ, zero, suc, ◌+◌, ◌%◌, ◌^◌, ◌≤◌, ◌<◌}
use native.Mathlib.Decide.{dec_lt}
use native.Mathlib.Nat.{mod-eq_of_lt, mod-lt, lt_of_lt_of_le, zero-add, suc-add, pow-succ'}
use native.Mathlib.Omega.{arith}
use lib.Dec.{ltb}
use lib.Pow.{pow_pos, pow_mono}
use borrow.Author.Tests.{eqb-true, eq-eqb, ltb-true, ltb-false, not-false}
use Rattle.requests.specs.Choice.{both, either, every}
use Rattle.requests.specs.Bits.{bit, in_list, any_bit, only_bits, type_bits, rsp0_bits, match_bits, mask_bits}
use Rattle.requests.specs.Masks.{bits_of, type_mask, permitted_mask, match_mask, mask_mask}
use Rattle.requests.specs.RefusedRequests.{HasBit, HasNone, HasReserved}
use Rattle.requests.proofs.Tests.{both_ways, either_cases, either_left, either_right, either_parts, both_parts, every_fails}
use Rattle.requests.proofs.Words.{bit_past, low_false}
use Rattle.requests.proofs.BitLists.{reserved}
use Rattle.requests.proofs.MaskTests.{in_bits}

-- ---- members

pub in_member : (ks : List ℕ) (k : ℕ) → in_list ks k ≡ true → Memᴰ k ks
unfolding in_list
in_member [] k h = absurd (false≢true h)
in_member (j ∷ ks) k h = ⊎_elim (λ e. Memᴰ.head (sym (eqb-true j k e))) (λ t. Memᴰ.tail (in_member ks k t)) (either_cases _ _ h)

pub member_in : (ks : List ℕ) (k : ℕ) → Memᴰ k ks → in_list ks k ≡ true
unfolding in_list
member_in (j ∷ ks) k (Memᴰ.head e) = either_left _ _ (eq-eqb j k (sym e))
member_in (j ∷ ks) k (Memᴰ.tail m) = either_right _ _ (member_in ks k m)
member_in [] k x' = elim x' [ ]

-- ---- a bit of the list

pub any_has : (ks : List ℕ) (w : ℕ) → any_bit ks w ≡ true → HasBit ks w
unfolding any_bit
any_has [] w h = absurd (false≢true h)
any_has (k ∷ ks) w h = ⊎_elim (λ e. (k, Memᴰ.head refl, e)) (λ t. let f = any_has ks w t in (f.0, Memᴰ.tail f.1, f.2)) (either_cases _ _ h)

has_any : (ks : List ℕ) (k w : ℕ) → Memᴰ k ks → bit k w ≡ true → any_bit ks w ≡ true
unfolding any_bit
has_any (j ∷ ks) k w (Memᴰ.head e) h = either_left _ _ (rw (← e) h)
has_any (j ∷ ks) k w (Memᴰ.tail m) h = either_right _ _ (has_any ks k w m h)
has_any [] k w x'' h = elim x'' [ ]

pub any_of_has : (ks : List ℕ) (w : ℕ) → HasBit ks w → any_bit ks w ≡ true
any_of_has ks w h = has_any ks h.0 w h.1 h.2

pub none_has : (ks : List ℕ) (w : ℕ) → any_bit ks w ≡ false → HasNone ks w
none_has ks w e k m = eq-false_of_not-eq-true (λ h. both_ways (has_any ks k w m h) e)

pub none_of_has : (ks : List ℕ) (w : ℕ) → HasNone ks w → any_bit ks w ≡ false
none_of_has ks w none = eq-false_of_not-eq-true (λ h. let f = any_has ks w h in both_ways f.2 (none f.0 f.1))

-- one bit more that the word has not
pub none_has_more : (k : ℕ) (ks : List ℕ) (w : ℕ) → bit k w ≡ false → HasNone ks w → HasNone (k ∷ ks) w
none_has_more k ks w off none j (Memᴰ.head e) = rw e off
none_has_more k ks w off none j (Memᴰ.tail m) = none j m

-- lists joined
pub none_joined : (ks js : List ℕ) (w : ℕ) → HasNone ks w → HasNone js w → HasNone (ks ++ js) w
none_joined ks js w p q k m = ⊎_elim (p k) (q k) (Memᴰ.append_cases ks m)

pub none_apart : (ks js : List ℕ) (w : ℕ) → HasNone (ks ++ js) w → HasNone ks w × HasNone js w
none_apart ks js w none = (λ k m. none k (Memᴰ.append_left js m), λ k m. none k (Memᴰ.append_right ks m))

-- ---- a bit outside the list

-- a word of 2^n or more has a bit from n on
bit_from : (n m w : ℕ) → 2 ^ n ≤ w → w < 2 ^ (m + n) → (k : ℕ) × (n ≤ k) × (bit k w ≡ true)
bit_from n zero w l b = absurd (omega (arith, l, rw zero-add at b))
bit_from n (suc m) w l b = go (bit (m + n) w) refl (bit_from n m w l)
  where
    below : bit (m + n) w ≡ false → w < 2 ^ (m + n)
    below e =
        let same : w % 2 ^ suc (m + n) ≡ w = mod-eq_of_lt (rw (suc-add m n) at b) in
        rw (sym same ∙ low_false (m + n) w e) (mod-lt w (pow_pos (m + n)))

    go : (t : Bool) → bit (m + n) w ≡ t → (w < 2 ^ (m + n) → (k : ℕ) × (n ≤ k) × (bit k w ≡ true)) → (k : ℕ) × (n ≤ k) × (bit k w ≡ true)
    go true e lower = (m + n, omega arith, e)
    go false e lower = lower (below e)

-- a number is below the power of two of its own exponent
below_power : (w : ℕ) → w < 2 ^ w
below_power zero = omega arith
below_power (suc w) = omega (arith, pow-succ' 2 w, below_power w)

-- the lists of masks have bits below 64
mask_below : (mask : ℕ) (ks : List ℕ) → bits_of mask ≡ ks → (k : ℕ) → Memᴰ k ks → k < 64
unfolding bits_of
mask_below mask ks e k m =
    let in-mask = member_in (bits_of mask) k (subst (Memᴰ k) (sym e) m) in
    ltb-true k 64 (both_parts _ _ (sym (in_bits 64 mask k) ∙ in-mask)).0

module _ (ks : List ℕ) (w : ℕ) where
  only_reserved : ((k : ℕ) → Memᴰ k ks → k < 64) → only_bits ks w ≡ false → HasReserved ks w
  unfolding only_bits both
  only_reserved small h = go (ltb w (2 ^ 64)) refl h
    where
      go : (b : Bool) → ltb w (2 ^ 64) ≡ b → both b (every 64 (λ k. either (not (bit k w)) (in_list ks k))) ≡ false → HasReserved ks w
      go false e h =
          let f = bit_from 64 w w (ltb-false w (2 ^ 64) e) (lt_of_lt_of_le (below_power w) (pow_mono (omega arith))) in
          (f.0, λ m. omega (arith, f.1, small f.0 m), f.2)
      go true e h =
          let f = every_fails 64 (λ k. either (not (bit k w)) (in_list ks k)) h in
          let parts = either_parts _ _ f.2 in
          (f.0, λ m. both_ways (member_in ks f.0 m) parts.1, not-false _ parts.0)

  pub reserved_only : HasReserved ks w → only_bits ks w ≡ false
  unfolding only_bits
  reserved_only (k, out, on) = eq-false_of_not-eq-true (λ h. both_ways on (off h (dec_lt k 64)))
    where
      off : only_bits ks w ≡ true → Dec (k < 64) → bit k w ≡ false
      off h (yes l) = reserved ks k w l (eq-false_of_not-eq-true (λ i. out (in_member ks k i))) h
      off h (no g) = bit_past k w (ltb-true w (2 ^ 64) (both_parts _ _ h).0) (omega arith)

-- reserved bits of an offcore word, of a type, and of the packet filters
pub permitted_reserved : (w : ℕ) → only_bits rsp0_bits w ≡ false → HasReserved rsp0_bits w
permitted_reserved w h = only_reserved rsp0_bits w (mask_below _ rsp0_bits permitted_mask) h

pub types_reserved : (t : ℕ) → only_bits type_bits t ≡ false → HasReserved type_bits t
types_reserved t h = only_reserved type_bits t (mask_below _ type_bits type_mask) h

pub match_reserved : (x : ℕ) → only_bits match_bits x ≡ false → HasReserved match_bits x
match_reserved x h = only_reserved match_bits x (mask_below _ match_bits match_mask) h

pub mask_reserved : (y : ℕ) → only_bits mask_bits y ≡ false → HasReserved mask_bits y
mask_reserved y h = only_reserved mask_bits y (mask_below _ mask_bits mask_mask) h
