-- What an RSP register holds, by itself: the first word that is asked of it, or 0 (`rsp0-left`, `rsp1-left`). Assumes nothing.
use mathlib.Core.Path.{◌≡◌, refl, sym, ap, subst, ◌∙◌}
use mathlib.Core.Bool.{Bool, true, false}
use mathlib.Core.List.{List, [], ◌∷◌, Memᴰ}
use Prim.Native.Nat.{ℕ, zero, suc, ◌+◌, ◌<◌}
use native.Mathlib.Decide.{ℕ_discrete}
use native.Mathlib.Omega.{arith}
use borrow.Author.Tests.{eqb-true, eq-eqb}
use lib.Dec.{eqb}
use lib.ListN.{get_or}
use Rattle.requests.specs.declared.Device.{Device}
use Rattle.requests.specs.declared.Device.TheVariants.{G}
use Rattle.requests.specs.declared.Setup.{Setup}
use Rattle.requests.specs.declared.Request.{Request}
use Rattle.requests.specs.Askings.{overflow_on, asked}
use Rattle.requests.specs.Choice.{both, pick}
use Rattle.requests.specs.Devices.{has, counter_count}
use Rattle.requests.proofs.Tests.{both_parts}
use Rattle.plans.specs.declared.Place.{Place}
use Rattle.plans.specs.Legal.{Legal, words_of, of_all}
use Rattle.plans.specs.LegalInWords.{Nth, Asks}
use Rattle.plans.proofs.LegalInWordsHolds.{asks_word, word_asks, has_in}
use Rattle.layouts.specs.Layout.{rsp0_at, rsp1_at, enabled_on, pmi_enable, enabled, event_word, offcore_code, rsp_mask, rsp_word}
use Rattle.layouts.specs.Settings.{head_or}
use Rattle.layouts.specs.Writes.{writes, apply}
use Rattle.layouts.specs.Read.{ours, count, rsp0_fits, rsp1_fits, filters_fit, accepts}
use Rattle.layouts.specs.UnusedResponses.{NoCounterHas, UnusedResponses}
use Rattle.layouts.specs.declared.RegisterValues.{RegisterValues}
use Rattle.layouts.proofs.UsableSets.{on}
use Rattle.layouts.proofs.Counts.{find}
use Rattle.layouts.proofs.ListLaws.{all_member, one_value}
use Rattle.layouts.proofs.LeftValues.{rsp0_left, rsp1_left}
use Rattle.layouts.proofs.ExactReader.{accepted_test}

-- ---- what is left

module _ (u : Setup) (rs : List Request) (ps : List Place) (registers : ℕ → ℕ) where
  rsp_left : (i : ℕ) → i < 2 → apply (writes (on G u) rs ps) registers (0x01A6 + i) ≡ head_or 0 (of_all (words_of i) rs ps)
  unfolding rsp0_at rsp1_at
  rsp_left zero l = rsp0_left u rs ps registers
  rsp_left (suc zero) l = rsp1_left u rs ps registers
  rsp_left (suc (suc i)) l = absurd (omega arith)

  left_unused : Legal (on G u) rs ps → (i : ℕ) → i < 2 → ((n w : ℕ) (r : Request) (p : Place) → Nth r p n rs ps → ¬ Asks i r p w)
      → apply (writes (on G u) rs ps) registers (0x01A6 + i) ≡ 0
  left_unused legal i l nobody = rsp_left i l ∙ go (of_all (words_of i) rs ps) refl
    where
      go : (ws : List ℕ) → of_all (words_of i) rs ps ≡ ws → head_or 0 ws ≡ 0
      go [] e = refl
      go (w ∷ ws) e =
          let t = word_asks {i = i} {w = w} l legal.allowed (subst (λ (x : List ℕ). Memᴰ w x) (sym e) (Memᴰ.head refl)) in
          absurd (nobody t.number w t.request t.place t.nth t.asks)

  left_used : Legal (on G u) rs ps → (i : ℕ) → i < 2 → (n w : ℕ) (r : Request) (p : Place) → Nth r p n rs ps → Asks i r p w
      → apply (writes (on G u) rs ps) registers (0x01A6 + i) ≡ w
  left_used legal i l n w r p at h = rsp_left i l ∙ sym (all_member (one_value 0 (of_all (words_of i) rs ps) (legal.one_word i l)) (asks_word i at h))

-- ---- what is accepted

-- the control words, in numbers
pub first_word : (u : Setup) → rsp_word (on G u) 0 ≡ 0x4301B7
unfolding rsp_word event_word enabled enabled_on pmi_enable asked overflow_on both offcore_code rsp_mask
first_word u = refl

pub second_word : (u : Setup) → rsp_word (on G u) 1 ≡ 0x4302B7
unfolding rsp_word event_word enabled enabled_on pmi_enable asked overflow_on both offcore_code rsp_mask
second_word u = refl

module _ (u : Setup) (v : RegisterValues) where
  -- a word that no usable counter has is counted nowhere
  none_counts : (w : ℕ) → (w ≡ 0 → ⊥) → NoCounterHas (on G u) v w → count (counter_count G) (ours (on G u) v) w ≡ 0
  unfolding counter_count ours
  none_counts w word-there nobody = elim (ℕ_discrete (count 4 (ours (on G u) v) w) 0) [
    | yes e ↦ e
    | no o ↦ let f = find 4 w (ours (on G u) v) (let y = o in omega arith) in absurd (go f.counter f.below (has u.usable f.counter) refl f.there)
  ]
    where
      go : (k : ℕ) → k < 4 → (b : Bool) → has u.usable k ≡ b → pick b (get_or v.control k 0) 0 ≡ w → ⊥
      go k l true h e = nobody k l (has_in u.usable k h) e
      go k l false h e = word-there (sym e)

  pick_nobody : (n : ℕ) (a b : Bool) → pick (eqb n 0) a b ≡ true → n ≡ 0 → a ≡ true
  pick_nobody n a b h e = rw (eq-eqb n 0 e) at h

  filters_accepted : (s : Setup) → accepts s v ≡ true → filters_fit s (ours s v) v.filters ≡ true
  unfolding accepts
  filters_accepted s h = (both_parts _ _ (both_parts _ _ (both_parts _ _ h).1).1).0

  first_zero : accepts (on G u) v ≡ true → NoCounterHas (on G u) v 0x4301B7 → v.filters.rsp0 ≡ 0
  unfolding filters_fit rsp0_fits
  first_zero h nobody =
      let t = both_parts _ _ (filters_accepted (on G u) h) in
      eqb-true _ _ (pick_nobody _ _ _ t.1 (ap (count (counter_count G) (ours (on G u) v)) (first_word u) ∙ none_counts 0x4301B7 (λ e. omega arith) nobody))

  second_zero : accepts (on G u) v ≡ true → NoCounterHas (on G u) v 0x4302B7 → v.filters.rsp1 ≡ 0
  unfolding filters_fit rsp1_fits
  second_zero h nobody =
      let t = both_parts _ _ (filters_accepted (on G u) h) in
      eqb-true _ _ (pick_nobody _ _ _ t.0 (ap (count (counter_count G) (ours (on G u) v)) (second_word u) ∙ none_counts 0x4302B7 (λ e. omega arith) nobody))

-- on G: with its own device a setup is itself
on_g_lem : (P : Setup → Type 0) (s : Setup) → s.device ≡ G → P (on G s) → P s
on_g_lem P s g h = subst (λ (d : Device). P (on d s)) (sym g) h

pub unused_responses : UnusedResponses
unused_responses = record {
  unused = λ s rs ps g legal registers i l nobody.
      on_g_lem (λ s. Legal s rs ps → apply (writes s rs ps) registers (0x01A6 + i) ≡ 0) s g (λ h. left_unused s rs ps registers h i l nobody) legal;
  used = λ s rs ps g legal registers i l n w r p at asks.
      on_g_lem (λ s. Legal s rs ps → apply (writes s rs ps) registers (0x01A6 + i) ≡ w) s g (λ h. left_used s rs ps registers h i l n w r p at asks) legal;
  read_first = λ o s v h nobody.
      on_g_lem (λ s. accepts s v ≡ true → NoCounterHas s v 0x4301B7 → v.filters.rsp0 ≡ 0) s h.1 (first_zero s v) (accepted_test o s v h.0 h.2) nobody;
  read_second = λ o s v h nobody.
      on_g_lem (λ s. accepts s v ≡ true → NoCounterHas s v 0x4302B7 → v.filters.rsp1 ≡ 0) s h.1 (second_zero s v) (accepted_test o s v h.0 h.2) nobody;
}
