-- The values of B that the reader accepts, by its test: where C0/01 and CD/02 stand, and what IA32_PEBS_ENABLE holds. Assumes nothing.
--     plan-read                     the value is that of the plan which left the values
--     read-pdir, read-stores, read-neither   by the control values that are looked at
use mathlib.Core.Path.{◌≡◌, refl, sym, ap, ap₂, subst, ◌∙◌}
use mathlib.Core.Logic.{◌≢◌, ⊎_elim}
use mathlib.Core.Bool.{Bool, true, false, true≢false, false≢true}
use Prim.Native.Nat.{ℕ, zero, suc, ◌+◌, ◌*◌, ◌^◌, ◌<◌}
use native.Mathlib.Omega.{arith}
use borrow.Author.Tests.{eqb-true}
use lib.Dec.{eqb}
use lib.ListN.{get_or}
use Rattle.requests.specs.Choice.{both, either, pick}
use Rattle.requests.specs.declared.Device.TheVariants.{B}
use Rattle.requests.specs.declared.Setup.{Setup}
use Rattle.requests.specs.Askings.{overflow_on, asked}
use Rattle.requests.specs.Bits.{bit}
use Rattle.requests.specs.Devices.{has, counter_count, all_counters}
use Rattle.requests.specs.EventRules.{rule_on_b, has_rules, rule_of}
use Rattle.requests.proofs.Tests.{both_parts, either_cases, every_at}
use Rattle.plans.specs.Legal.{Usable}
use Rattle.layouts.specs.Layout.{pebs_on, precise_store, enabled, enabled_on, event_word, code_of, mask_of, is_event}
use Rattle.layouts.specs.Writes.{pebs_enable}
use Rattle.layouts.specs.Read.{ours, filter_word, control_fits, pebs_fits, others_off, may_run, rule_fits, accepts}
use Rattle.layouts.specs.ExactReader.{LeavesValues}
use Rattle.layouts.specs.PreciseEvents.{Enables}
use Rattle.layouts.specs.declared.RegisterValues.{RegisterValues}
use Rattle.layouts.proofs.UsableSets.{on}
use Rattle.layouts.proofs.FormedRequests.{describe_all}
use Rattle.layouts.proofs.PlanWords.{pebs_left}
use Rattle.layouts.proofs.FoundPlans.{word_cases}
use Rattle.layouts.proofs.PreciseValues.{pdir_off, stores_off, enables}

-- the set 15 has every counter of B
pub in_fifteen : (u : Setup) (k : ℕ) → u.usable.0 ≡ 15 → k < 4 → has u.usable k ≡ true
unfolding has bit
in_fifteen u zero e l = rw e
in_fifteen u (suc zero) e l = rw e
in_fifteen u (suc (suc zero)) e l = rw e
in_fifteen u (suc (suc (suc zero))) e l = rw e
in_fifteen u (suc (suc (suc (suc k)))) e l = absurd (omega arith)

-- a control value that fits and is not 0 is the word of its event
bare_word : (u : Setup) (w : ℕ) → control_fits (on B u) w ≡ true → w ≢ 0 → w ≡ 0x430000 + 0x100 * mask_of w + code_of w
unfolding filter_word event_word enabled enabled_on asked overflow_on both mask_of
bare_word u w fits some = ⊎_elim (λ h. absurd (false≢true h)) (λ h. eqb-true _ _ (both_parts _ _ h).0) (word_cases (on B u) w fits some)

pub plan_read : (u : Setup) (v : RegisterValues) (plan : LeavesValues (on B u) v) → Enables plan.requests v.pebs
unfolding pebs_on
plan_read u v plan =
    subst (Enables plan.requests) (sym (plan.shown.pebs ∙ pebs_left (on B u) plan.requests plan.places plan.before))
    (enables u plan.requests plan.places plan.legal (describe_all (on B u) plan.formed))

-- values that pass the test
module _ (u : Setup) (v : RegisterValues) (test : accepts (on B u) v ≡ true) where
  abbrev s : Setup
  s = on B u

  abbrev f : ℕ → ℕ
  f = ours (on B u) v

  -- each control value fits, and keeps its rule; so does the value of the register
  record Passed : Type 0 where
    pub fits : (k : ℕ) → k < 4 → control_fits (on B u) (ours (on B u) v k) ≡ true
    pub rule : (k : ℕ) → k < 4 → rule_fits (on B u) (ours (on B u) v) k ≡ true
    pub value : v.pebs ≡ pebs_enable (ours (on B u) v)

  passed : Passed
  unfolding accepts counter_count pebs_fits pebs_on either
  passed =
      let words = both_parts _ _ test in
      let registers = both_parts _ _ (both_parts _ _ words.1).1 in
      let precise = both_parts _ _ (both_parts _ _ registers.1).1 in
      record {
        fits = every_at 4 (λ k. control_fits s (f k)) words.0;
        rule = every_at 4 (rule_fits s f) precise.1;
        value = eqb-true _ _ precise.0;
      }

  -- the value of a usable counter is looked at, and of no other
  looked_at : (k : ℕ) → Usable s k → get_or v.control k 0 ≡ f k
  unfolding ours
  looked_at k us = rw us.1

  ours_usable : (k : ℕ) → k < 4 → f k ≢ 0 → Usable s k
  unfolding ours counter_count
  ours_usable k l on = go (has u.usable k) refl
    where
      go : (b : Bool) → has u.usable k ≡ b → Usable (record { device = B; usable = u.usable; fixed = u.fixed; overflow = u.overflow }) k
      go true h = (l, h)
      go false h = absurd (on (rw h))

  -- a control value that has the event is its word
  event_word_lem : (c m k : ℕ) → k < 4 → is_event c m (f k) ≡ true → is_event c m 0 ≡ false → f k ≡ 0x430000 + 0x100 * m + c
  unfolding is_event
  event_word_lem c m k l h off =
      let parts = both_parts _ _ h in
      bare_word u (f k) (passed.fits k l) (λ z. true≢false (sym h ∙ ap (is_event c m) z ∙ off))
      ∙ ap₂ (λ (x y : ℕ). 0x430000 + 0x100 * y + x) (eqb-true _ _ parts.0) (eqb-true _ _ parts.1)

  -- C0/01 in counter k
  module _ (k : ℕ) (l : k < 4) (word : f k ≡ 0x4301C0) where
    pdir_rule : both (eqb k 1) (both (eqb u.usable.0 15) (others_off (on B u) f k)) ≡ true
    unfolding rule_fits may_run rule_of has_rules rule_on_b code_of mask_of all_counters counter_count both
    pdir_rule = sym (ap (λ (w : ℕ). may_run (on B u) f k (rule_of B (code_of w) (mask_of w))) word) ∙ passed.rule k l

    there : k ≡ 1
    there = eqb-true k 1 (both_parts _ _ pdir_rule).0

    all_usable : u.usable.0 ≡ 15
    all_usable = eqb-true _ _ (both_parts _ _ (both_parts _ _ pdir_rule).1).0

    others : (j : ℕ) → j < 4 → j ≢ 1 → f j ≡ 0
    unfolding others_off counter_count
    others j b other =
        ⊎_elim (λ e. absurd (other (eqb-true j k e ∙ there))) (λ z. eqb-true _ _ z)
        (either_cases _ _ (every_at 4 (λ i. either (eqb i k) (eqb (f i) 0)) (both_parts _ _ (both_parts _ _ pdir_rule).1).1 j b))

    pdir_value : v.pebs ≡ 2
    unfolding pebs_enable is_event code_of mask_of both
    pdir_value = passed.value ∙ ap₂ (λ (x y : ℕ). pick (is_event 0xC0 0x01 x) (2 ^ 1) 0 + pick (is_event 0xCD 0x02 y) (2 ^ 3 + 2 ^ precise_store) 0) (ap f (sym there) ∙ word) (others 3 (omega arith) (λ e. omega arith))

  -- CD/02 in counter k
  module _ (k : ℕ) (l : k < 4) (word : f k ≡ 0x4302CD) where
    stores_there : k ≡ 3
    unfolding rule_fits may_run rule_of has_rules rule_on_b code_of mask_of both
    stores_there = eqb-true k 3 (sym (ap (λ (w : ℕ). may_run (on B u) f k (rule_of B (code_of w) (mask_of w))) word) ∙ passed.rule k l)

    -- beside it there is no C0/01
    no_pdir : (b : Bool) → is_event 0xC0 0x01 (f 1) ≡ b → b ≡ false
    no_pdir true h =
        let off = others 1 (omega arith) (event_word_lem 0xC0 0x01 1 (omega arith) h pdir_off) 3 (omega arith) (λ e. omega arith) in
        let z : ◌≡◌ {A = ℕ} 0x4302CD 0 = sym word ∙ ap f stores_there ∙ off in absurd (omega arith)
    no_pdir false h = refl

    stores_value : v.pebs ≡ 0x8000000000000008
    unfolding pebs_enable precise_store is_event code_of mask_of both
    stores_value =
        passed.value
        ∙ ap₂ (λ (b : Bool) (y : ℕ). pick b (2 ^ 1) 0 + pick (is_event 0xCD 0x02 y) (2 ^ 3 + 2 ^ 63) 0) (no_pdir (is_event 0xC0 0x01 (f 1)) refl) (ap f (sym stores_there) ∙ word)

  -- neither of them
  module _ (none : (k : ℕ) → Usable s k → (get_or v.control k 0 ≢ 0x4301C0) × (get_or v.control k 0 ≢ 0x4302CD)) where
    no_event : (c m k : ℕ) → k < 4 → is_event c m 0 ≡ false → (Usable s k → get_or v.control k 0 ≢ 0x430000 + 0x100 * m + c) → (b : Bool) → is_event c m (f k) ≡ b → b ≡ false
    no_event c m k l off other true h =
        let word = event_word_lem c m k l h off in
        let us = ours_usable k l (λ z. true≢false (sym h ∙ ap (is_event c m) z ∙ off)) in
        absurd (other us (looked_at k us ∙ word))
    no_event c m k l off other false h = refl

    neither_value : v.pebs ≡ 0
    unfolding pebs_enable
    neither_value =
        passed.value
        ∙ ap₂ (λ (a b : Bool). pick a (2 ^ 1) 0 + pick b (2 ^ 3 + 2 ^ precise_store) 0)
        (no_event 0xC0 0x01 1 (omega arith) pdir_off (λ us. (none 1 us).0) (is_event 0xC0 0x01 (f 1)) refl)
        (no_event 0xCD 0x02 3 (omega arith) stores_off (λ us. (none 3 us).1) (is_event 0xCD 0x02 (f 3)) refl)

  -- what the statement says of them
  pub read_pdir : (k : ℕ) → Usable s k → get_or v.control k 0 ≡ 0x4301C0
      → (k ≡ 1) × (u.usable.0 ≡ 15) × ((j : ℕ) → j < 4 → j ≢ 1 → get_or v.control j 0 ≡ 0) × (v.pebs ≡ 2)
  unfolding counter_count
  read_pdir k us e =
      let word = sym (looked_at k us) ∙ e in
      let all = all_usable k us.0 word in
      (there k us.0 word, all, λ j b other. looked_at j (b, in_fifteen u j all b) ∙ others k us.0 word j b other, pdir_value k us.0 word)

  pub read_stores : (k : ℕ) → Usable s k → get_or v.control k 0 ≡ 0x4302CD → (k ≡ 3) × (v.pebs ≡ 0x8000000000000008)
  unfolding counter_count
  read_stores k us e = let word = sym (looked_at k us) ∙ e in (stores_there k us.0 word, stores_value k us.0 word)

  pub read_neither : ((k : ℕ) → Usable s k → (get_or v.control k 0 ≢ 0x4301C0) × (get_or v.control k 0 ≢ 0x4302CD)) → v.pebs ≡ 0
  read_neither none = neither_value none
