-- The words of the RSP registers: of offcore requests, and of latency requests. Assumes nothing.
--     types-below                    request types alone are below 2^16
--     offcore-clean                  an offcore word has no reserved bit
--     first-clean, first-outstanding   nor has a latency word of RSP0, and it has bit 38
--     second-described               the latency word of RSP1 is an offcore word
use mathlib.Core.Path.{◌≡◌, refl, sym, ap, ◌∙◌}
use mathlib.Core.Logic.{inl, inr, ⊎_elim}
use mathlib.Core.Bool.{true, false, not}
use mathlib.Core.List.{List, [], ◌∷◌, ◌++◌, Memᴰ}
use Prim.Native.Nat.{ℕ, suc, ◌+◌, ◌^◌, ◌≤◌, ◌<◌}
use native.Mathlib.Nat.{pow-succ'}
use native.Mathlib.Decide.{ℕ_discrete, dec_lt}
use native.Mathlib.Omega.{arith}
use borrow.Author.Tests.{ne_eqb, ltb-true, not-true}
use lib.Dec.{ltb}
use lib.Pow.{pow_mono}
use Rattle.requests.specs.Choice.{both, either, every}
use Rattle.requests.specs.declared.CounterSet.{CounterSet}
use Rattle.requests.specs.declared.Device.TheVariants.{G}
use Rattle.requests.specs.declared.Setup.{Setup}
use Rattle.requests.specs.declared.Request.TheVariants.{Offcore}
use Rattle.requests.specs.Bits.{bit, in_list, any_bit, only_bits, type_bits, any_response, answer_bits, outstanding, rsp0_bits, rsp1_bits, latency_word}
use Rattle.requests.specs.WellFormedRequests.{CountersOf, Described, offcore}
use Rattle.requests.proofs.Tests.{both_ways, every_at, either_false, either_cases, either_left, either_right}
use Rattle.requests.proofs.BitLists.{in_append, reserved}
use Rattle.requests.proofs.BitMembers.{member_in, none_of_has}
use Rattle.requests.proofs.Words.{bit_more}
use Rattle.layouts.proofs.WordBits.{bit_above, below_bits, only_below, only_cases, bits_only, only_more, any_more}

-- a longer list has more
listed_left : (xs ys : List ℕ) (k : ℕ) → in_list xs k ≡ true → in_list (xs ++ ys) k ≡ true
listed_left xs ys k h = in_append xs ys k ∙ either_left _ _ h

-- a word with one more bit, above its others
only_with : (ks js : List ℕ) (j w : ℕ) → w < 2 ^ j → j < 64 → ((k : ℕ) → in_list ks k ≡ true → in_list js k ≡ true) → in_list js j ≡ true → only_bits ks w ≡ true → only_bits js (w + 2 ^ j) ≡ true
unfolding either
only_with ks js j w l b more there h =
    let room : 2 ^ suc j ≤ 2 ^ 64 = pow_mono b in
    bits_only js (w + 2 ^ j) (omega (arith, pow-succ' 2 j)) (λ k lk. elim (ℕ_discrete j k) [
      | yes e ↦ inr (sym (ap (in_list js) e) ∙ there)
      | no o ↦ rw (bit_more j k w l, ne_eqb j k o) (⊎_elim (λ e. inl (either_false (bit k w) ∙ e)) (λ e. inr (more k e)) (only_cases ks k w h lk))
    ])

-- no type bit stands from 16 on
types_low : every 64 (λ k. either (ltb k 16) (not (in_list type_bits k))) ≡ true
unfolding every both either in_list type_bits
types_low = refl

pub types_below : (t : ℕ) → only_bits type_bits t ≡ true → t < 2 ^ 16
types_below t h =
    below_bits 16 48 t (only_below type_bits t h)
    (λ k l b. reserved type_bits k t b
    (⊎_elim (λ e. absurd (omega (arith, ltb-true k 16 e))) (λ e. not-true _ e) (either_cases _ _ (every_at 64 (λ j. either (ltb j 16) (not (in_list type_bits j))) types_low k b))) h)

-- no answer stands below bit 17
answers_high : every 17 (λ k. not (in_list answer_bits k)) ≡ true
unfolding every both either in_list answer_bits
answers_high = refl

answers_above : (k : ℕ) → Memᴰ k answer_bits → 17 ≤ k
answers_above k m = elim (dec_lt k 17) [
  | yes l ↦ absurd (both_ways (member_in answer_bits k m) (not-true _ (every_at 17 (λ j. not (in_list answer_bits j)) answers_high k l)))
  | no g ↦ omega arith
]

-- ---- offcore words

pub offcore_clean : (w : ℕ) → only_bits rsp1_bits w ≡ true → only_bits rsp0_bits w ≡ true
unfolding rsp0_bits
offcore_clean w h = only_more rsp1_bits rsp0_bits w (λ k e. listed_left rsp1_bits (outstanding ∷ []) k e) h

-- ---- latency words

module _ (t : ℕ) (types : only_bits type_bits t ≡ true) where
  pub first_clean : only_bits rsp0_bits (latency_word 0 t) ≡ true
  unfolding latency_word outstanding rsp0_bits rsp1_bits type_bits any_response answer_bits in_list either
  first_clean =
      only_with type_bits rsp0_bits 38 t (omega (arith, types_below t types)) (omega arith)
      (λ k e. listed_left rsp1_bits (outstanding ∷ []) k (listed_left type_bits (any_response ∷ answer_bits) k e)) refl types

  pub first_outstanding : bit outstanding (latency_word 0 t) ≡ true
  unfolding latency_word outstanding
  first_outstanding = bit_more 38 38 t (omega (arith, types_below t types)) ∙ either_right _ _ refl

  second_clean : only_bits rsp1_bits (latency_word 1 t) ≡ true
  unfolding latency_word rsp1_bits type_bits any_response answer_bits in_list either
  second_clean =
      only_with type_bits rsp1_bits 16 t (types_below t types) (omega arith) (λ k e. listed_left type_bits (any_response ∷ answer_bits) k e) refl types

  no_answer : any_bit answer_bits (t + 2 ^ 16) ≡ false
  no_answer =
      none_of_has answer_bits (t + 2 ^ 16) (λ k m.
      let above : 2 ^ 17 ≤ 2 ^ k = pow_mono (answers_above k m) in
      bit_above k (t + 2 ^ 16) (omega (arith, types_below t types, above)))

  -- "the type and bit 16 only" is a word that add takes
  pub second_described : (s : Setup) (a : CounterSet) → s.device ≡ G → any_bit type_bits t ≡ true → CountersOf s a → Described s (Offcore (latency_word 1 t) a)
  unfolding latency_word any_response
  second_described s a g some c =
      let low = types_below t types in
      offcore g second_clean
      (any_more type_bits t (t + 2 ^ 16) (λ k e. bit_more 16 k t low ∙ either_left _ _ e) some)
      (inl (bit_more 16 16 t low ∙ either_right _ _ refl, no_answer)) c
