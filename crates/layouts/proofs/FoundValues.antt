-- Values that pass the reader's test are left by the writes of a plan: FoundPlans has the plan, and ValuesBefore registers from which its writes leave the values.
--     built-leaves    a plan with the words that are looked at leaves the values
--     accepted-left   so do values that pass the test
use mathlib.Core.Path.{◌≡◌, refl, sym, ap, subst, ◌∙◌, fun_ext}
use mathlib.Core.Logic.{◌⊎◌, inl, inr, ⊎_elim}
use mathlib.Core.Bool.{Bool, true, false, not}
use mathlib.Core.List.{List, [], ◌∷◌, flat_map}
use Prim.Native.Nat.{ℕ, zero, suc, ◌+◌, ◌%◌, ◌^◌, ◌<◌}
use native.Mathlib.Decide.{ℕ_discrete}
use native.Mathlib.Omega.{arith}
use borrow.Author.Tests.{eqb-true, eq-eqb, ne_eqb, leb-true}
use lib.Dec.{eqb}
use lib.ListN.{length, get_or}
use Rattle.requests.specs.Choice.{either, every, pick}
use Rattle.requests.specs.Askings.{asked}
use Rattle.requests.specs.declared.Device.{Device}
use Rattle.requests.specs.declared.Device.TheVariants.{G, S, C, B}
use Rattle.requests.specs.declared.Setup.{Setup}
use Rattle.requests.specs.declared.Request.TheVariants.{Packet, Offcore, Latency}
use Rattle.requests.specs.Bits.{in_list, outstanding, latency_word}
use Rattle.requests.specs.Devices.{has, counter_count}
use Rattle.requests.specs.Checks.{formed}
use Rattle.requests.specs.WellFormedRequests.{Described}
use Rattle.requests.proofs.Tests.{both_parts, every_at, either_cases}
use Rattle.plans.specs.Lists.{All, cons}
use Rattle.plans.specs.Legal.{Usable, Legal, words_of, packets_of, of_all, counters}
use Rattle.plans.proofs.Sets.{all_imp}
use Rattle.layouts.specs.Layout.{ubox_at, pebs_at, pebs_on, mm_enable, rsp_word, packet_word}
use Rattle.layouts.specs.Settings.{word_at, set_from, head_or, nonempty}
use Rattle.layouts.specs.Writes.{last_global, pebs_enable, writes, apply}
use Rattle.layouts.specs.Read.{ours, no_counter, count, control_fits, rsp0_fits, rsp1_fits, latency_fits, filters_fit, ubox_fits, pebs_fits, rule_fits, accepts, filter_word, packets_fit}
use Rattle.layouts.specs.ExactReader.{FiltersShow, LeavesValues}
use Rattle.layouts.specs.declared.RegisterValues.{RegisterValues}
use Rattle.layouts.proofs.CounterSets.{set_same}
use Rattle.layouts.proofs.Counts.{hits}
use Rattle.layouts.proofs.UsableSets.{on, Within, usable_counter}
use Rattle.layouts.proofs.ControlWords.{word_some, plan_words}
use Rattle.layouts.proofs.FormedRequests.{form_all, passes_described}
use Rattle.layouts.proofs.PlanWords.{uses_in, used_word, count_uses, control_left, global_left, pebs_left, ubox_left, ubox_stays}
use Rattle.layouts.proofs.PlanFilters.{enabled_by, rsp_hits, packet_hits, rsp_some, packet_some}
use Rattle.layouts.proofs.LeftValues.{rsp0_left, rsp1_left, mm_cfg_left, match_left, mask_left, kept, zero_fits}
use Rattle.layouts.proofs.BuiltPlans.{Built}
use Rattle.layouts.proofs.RuledWords.{rules_of}
use Rattle.layouts.proofs.ValuesBefore.{before, before_control, before_ubox, before_pebs, before_match, before_mask}
use Rattle.layouts.proofs.FoundPlans.{Words, plain_g, plain_s, plain_bare, paired}

-- ---- a plan that is found leaves the values

-- the first word of a register that has the word of all its users, and 0 where it is unused
head_is : (v : ℕ) (ws : List ℕ) → All (λ (w : ℕ). w ≡ v) ws → (length ws ≡ 0 → v ≡ 0) → head_or 0 ws ≡ v
head_is v [] h e = sym (e refl)
head_is v (w ∷ ws) (cons h hs) e = h

-- the values that are neither control nor filter values pass the test
record OthersFit (s : Setup) (v : RegisterValues) : Type 0 where
  pub global : v.global ≡ last_global s (set_from (counter_count s.device) 0 (λ k. not (eqb (ours s v k) 0)))
  pub ubox : ubox_fits s v.ubox ≡ true
  pub pebs : pebs_fits s.device (ours s v) v.pebs ≡ true
  pub rules : every (counter_count s.device) (rule_fits s (ours s v)) ≡ true

module _ (s : Setup) (v : RegisterValues) (a b : ℕ) (q : ℕ × ℕ) (built : Built s a b q (ours s v)) (fit : OthersFit s v) where
  abbrev us : List (ℕ × ℕ)
  us = uses_in s built.requests built.places

  built_legal : Legal s built.requests built.places
  built_legal =
      let rules = rules_of s.device s a b q (ours s v) built fit.rules in
      record {
        differ = built.differ;
        usable_only = built.usable_only;
        allowed = built.allowed;
        one_word = one_word;
        one_packet = (q, built.packet);
        ruled = rules.ruled;
        alone = rules.alone;
        quiet = rules.quiet;
      }
    where
      one_word : (i : ℕ) → i < 2 → (value : ℕ) × All (λ (w : ℕ). w ≡ value) (of_all (words_of i) built.requests built.places)
      one_word zero l = (a, built.rsp0)
      one_word (suc zero) l = (b, built.rsp1)
      one_word (suc (suc i)) l = absurd (omega arith)

  built_words : word_at us ≡ ours s v
  built_words = fun_ext built.words

  built_used : (k : ℕ) → in_list (counters built.places) k ≡ not (eqb (ours s v k) 0)
  built_used k =
      used_word s built.requests built.places built_legal (all_imp (λ u w. word_some s u.1 w) (plan_words s built.described built.allowed)) k
      ∙ ap (λ (w : ℕ). not (eqb w 0)) (built.words k)

  built_count : (w : ℕ) → (w ≡ 0 → ⊥) → count (counter_count s.device) (ours s v) w ≡ hits w us
  built_count w n = ap (λ (f : ℕ → ℕ). count (counter_count s.device) f w) (sym built_words) ∙ count_uses s built.requests built.places built_legal w n

  built_leaves : FiltersShow s.device v.filters (apply (writes s built.requests built.places) (before s.device v)) → LeavesValues s v
  unfolding ours ubox_fits pebs_fits either
  built_leaves shown =
      record {
        requests = built.requests;
        places = built.places;
        before = before s.device v;
        formed = form_all s built.described;
        legal = built_legal;
        shown = record {
          control = λ k l. sym (control_left s built.requests built.places (before s.device v) k l
              ∙ rw (built_used k, built.words k, before_control s.device v k l) (looked_at k (has s.usable k)));
          filters = shown;
          global = fit.global
              ∙ ap (last_global s) (set_same (counter_count s.device) 0 (λ k. not (eqb (ours s v k) 0)) (in_list (counters built.places)) (λ k l. sym (built_used (0 + k))))
              ∙ sym (global_left s built.requests built.places (before s.device v));
          ubox = ubox_shown (asked s) refl;
          pebs = sym (pebs_left s built.requests built.places (before s.device v) ∙ pebs_shown (pebs_on s.device) refl);
        };
      }
    where
      ubox_shown : (b : Bool) → asked s ≡ b → v.ubox ≡ apply (writes s built.requests built.places) (before s.device v) ubox_at
      ubox_shown true h = eqb-true _ _ (rw h at fit.ubox) ∙ sym (ubox_left s built.requests built.places (before s.device v) h)
      ubox_shown false h = sym (ubox_stays s built.requests built.places (before s.device v) h ∙ before_ubox s.device v)

      pebs_shown : (b : Bool) → pebs_on s.device ≡ b → pick b (pebs_enable (word_at us)) (before s.device v pebs_at) ≡ v.pebs
      pebs_shown true h = ap pebs_enable built_words ∙ sym (eqb-true _ _ (rw h at fit.pebs))
      pebs_shown false h = before_pebs s.device v

      looked_at : (k : ℕ) (h : Bool) → pick (not (eqb (pick h (get_or v.control k 0) 0) 0)) (pick h (get_or v.control k 0) 0) (pick h 0 (get_or v.control k 0)) ≡ get_or v.control k 0
      looked_at k true = kept (get_or v.control k 0)
      looked_at k false = refl

module _ (u : Setup) (v : RegisterValues) where
  -- an RSP register without a counter is 0
  abbrev ZeroUnused : ℕ → ℕ → Type 0
  ZeroUnused i w = count (counter_count G) (ours (on G u) v) (rsp_word (on G u) i) ≡ 0 → w ≡ 0

  leaves_g : Built (on G u) v.filters.rsp0 v.filters.rsp1 (0, 0) (ours (on G u) v) → ZeroUnused 0 v.filters.rsp0 → ZeroUnused 1 v.filters.rsp1 → OthersFit (on G u) v → LeavesValues (on G u) v
  leaves_g built zero0 zero1 fit =
      let s = on G u in
      let w0 = v.filters.rsp0 in
      let w1 = v.filters.rsp1 in
      let on0 = built_count s v w0 w1 (0, 0) built fit (rsp_word (on G u) 0) (rsp_some u 0) ∙ rsp_hits u 0 (omega arith) built.described built.allowed in
      let on1 = built_count s v w0 w1 (0, 0) built fit (rsp_word (on G u) 1) (rsp_some u 1) ∙ rsp_hits u 1 (omega arith) built.described built.allowed in
      built_leaves s v w0 w1 (0, 0) built fit (
        sym (rsp0_left u built.requests built.places (before G v) ∙ head_is w0 (of_all (words_of 0) built.requests built.places) built.rsp0 (λ z. zero0 (on0 ∙ z))),
        sym (rsp1_left u built.requests built.places (before G v) ∙ head_is w1 (of_all (words_of 1) built.requests built.places) built.rsp1 (λ z. zero1 (on1 ∙ z))),
      )

  -- the words of the match/mask register, where a packet request asks for them or nobody does
  packet_words : (asked : List (ℕ × ℕ)) (x y : ℕ) → All (λ (p : ℕ × ℕ). p ≡ (x, y)) asked
      → (x ≡ pick (nonempty asked) (head_or (0, 0) asked).0 x) × (y ≡ pick (nonempty asked) (head_or (0, 0) asked).1 y)
  packet_words [] x y h = (refl, refl)
  packet_words (p ∷ ps) x y (cons h hs) = (sym (ap (λ (r : ℕ × ℕ). r.0) h), sym (ap (λ (r : ℕ × ℕ). r.1) h))

  leaves_s : Built (on S u) 0 0 (v.filters.match_word, v.filters.mask_word) (ours (on S u) v)
      → v.filters.mm_cfg ≡ pick (eqb (count (counter_count S) (ours (on S u) v) (packet_word (on S u))) 0) 0 (2 ^ mm_enable) → OthersFit (on S u) v → LeavesValues (on S u) v
  leaves_s built m fit =
      let s = on S u in
      let x = v.filters.match_word in
      let y = v.filters.mask_word in
      let asked = flat_map packets_of built.requests in
      let packets = built_count s v 0 0 (x, y) built fit (packet_word (on S u)) (packet_some u) ∙ packet_hits u built.described built.allowed in
      let held = packet_words asked x y built.packet in
      built_leaves s v 0 0 (x, y) built fit (
        m ∙ ap (λ (n : ℕ). pick (eqb n 0) 0 (2 ^ mm_enable)) packets ∙ sym (enabled_by asked) ∙ sym (mm_cfg_left u built.requests built.places (before S v)),
        sym (match_left u built.requests built.places (before S v) ∙ rw (before_match v) (sym held.0)),
        sym (mask_left u built.requests built.places (before S v) ∙ rw (before_mask v) (sym held.1)),
      )

-- ---- from the test to a plan

pick_zero : (n : ℕ) (a b : Bool) → pick (eqb n 0) a b ≡ true → n ≡ 0 → a ≡ true
pick_zero n a b t e = rw (eq-eqb n 0 e) at t

pick_cases : (n : ℕ) (a b : Bool) → pick (eqb n 0) a b ≡ true → (n ≡ 0) ⊎ (b ≡ true)
pick_cases n a b t = elim (ℕ_discrete n 0) [ yes e ↦ inl e | no o ↦ inr (rw (ne_eqb n 0 o) at t) ]

-- the control values that are looked at, where each fits
ours_words : (s : Setup) (v : RegisterValues) → Within s → every (counter_count s.device) (λ k. control_fits s (ours s v k)) ≡ true → Words s (ours s v)
unfolding ours
ours_words s v within t = record { fits = λ k. fit k (has s.usable k) refl; usable = λ k. placed k (has s.usable k) refl }
  where
    fit : (k : ℕ) (b : Bool) → has s.usable k ≡ b → control_fits s (pick b (get_or v.control k 0) 0) ≡ true
    fit k true h = rw h at (every_at (counter_count s.device) (λ j. control_fits s (pick (has s.usable j) (get_or v.control j 0) 0)) t k (usable_counter s k within h))
    fit k false h = zero_fits s

    placed : (k : ℕ) (b : Bool) → has s.usable k ≡ b → (pick b (get_or v.control k 0) 0 ≡ 0) ⊎ Usable s k
    placed k true h = inr (usable_counter s k within h, h)
    placed k false h = inl refl

module _ (u : Setup) (v : RegisterValues) where
  found_g : Within (on G u) → Words (on G u) (ours (on G u) v) → filters_fit (on G u) (ours (on G u) v) v.filters ≡ true → OthersFit (on G u) v → LeavesValues (on G u) v
  unfolding filters_fit rsp0_fits rsp1_fits latency_fits
  found_g within w t fit =
      let s = on G u in
      let f = ours (on G u) v in
      let w0 = v.filters.rsp0 in
      let w1 = v.filters.rsp1 in
      let n0 = count (counter_count G) f (rsp_word (on G u) 0) in
      let n1 = count (counter_count G) f (rsp_word (on G u) 1) in
      let parts = both_parts _ _ t in
      let zero1 : n1 ≡ 0 → w1 ≡ 0 = λ z. eqb-true w1 0 (pick_zero n1 (eqb w1 0) (formed s (Offcore w1 no_counter)) parts.0 z) in
      let zero0 : n0 ≡ 0 → w0 ≡ 0 = λ z. eqb-true w0 0 (pick_zero n0 (eqb w0 0) _ parts.1 z) in
      let second : (n1 ≡ 0) ⊎ Described s (Offcore w1 no_counter) =
      ⊎_elim (λ z. inl z) (λ h. inr (passes_described s (Offcore w1 no_counter) h)) (pick_cases n1 (eqb w1 0) (formed s (Offcore w1 no_counter)) parts.0) in
      ⊎_elim
      (λ z. leaves_g u v (plain_g u within w0 w1 (0, 0) f w (inl z) second) zero0 zero1 fit)
      (λ h. ⊎_elim
      (λ offcore. leaves_g u v (plain_g u within w0 w1 (0, 0) f w (inr (passes_described s (Offcore w0 no_counter) offcore)) second) zero0 zero1 fit)
      (λ latency.
      let types = w0 % 2 ^ outstanding in
      let first_part = both_parts _ _ latency in
      let types-part = both_parts _ _ first_part.1 in
      let second-part = both_parts _ _ types-part.1 in
      let built = paired u within types (passes_described s (Latency types no_counter no_counter) types-part.0) (0, 0) n0 f w refl (leb-true n0 n1 second-part.1) in
      let held0 : latency_word 0 types ≡ w0 = sym (eqb-true w0 (latency_word 0 types) first_part.0) in
      let held1 : latency_word 1 types ≡ w1 = sym (eqb-true w1 (latency_word 1 types) second-part.0) in
      leaves_g u v
      (subst (λ (x : ℕ). Built s x w1 (0, 0) f) held0 (subst (λ (y : ℕ). Built s (latency_word 0 types) y (0, 0) f) held1 built)) zero0 zero1 fit)
      (either_cases _ _ h))
      (pick_cases n0 (eqb w0 0) _ parts.1)

  found_s : Within (on S u) → Words (on S u) (ours (on S u) v) → filters_fit (on S u) (ours (on S u) v) v.filters ≡ true → OthersFit (on S u) v → LeavesValues (on S u) v
  unfolding filters_fit packets_fit
  found_s within w t fit =
      let s = on S u in
      let n = count (counter_count S) (ours (on S u) v) (packet_word (on S u)) in
      let x = v.filters.match_word in
      let y = v.filters.mask_word in
      let c = v.filters.mm_cfg in
      let filtered : (n ≡ 0) ⊎ Described s (Packet x y no_counter) =
      ⊎_elim (λ z. inl z) (λ h. inr (passes_described s (Packet x y no_counter) (both_parts _ _ h).1)) (pick_cases n (eqb c 0) _ t) in
      let set : c ≡ pick (eqb n 0) 0 (2 ^ mm_enable) =
      elim (ℕ_discrete n 0) [
        | yes z ↦ rw (eq-eqb n 0 z) (eqb-true c 0 (pick_zero n (eqb c 0) _ t z))
        | no o ↦ rw (ne_eqb n 0 o) (eqb-true c (2 ^ mm_enable) (both_parts _ _ (rw (ne_eqb n 0 o) at t)).0)
      ] in
      leaves_s u v (plain_s u within 0 0 (x, y) (ours (on S u) v) w filtered) set fit

  found : (d : Device) → Within (on d u) → Words (on d u) (ours (on d u) v) → filters_fit (on d u) (ours (on d u) v) v.filters ≡ true → OthersFit (on d u) v → LeavesValues (on d u) v
  unfolding filter_word
  found G within w t fit = found_g within w t fit
  found S within w t fit = found_s within w t fit
  found (C b) within w t fit = built_leaves (on (C b) u) v 0 0 (0, 0) (plain_bare u (C b) (λ x. refl) within 0 0 (0, 0) (ours (on (C b) u) v) w) fit tt
  found B within w t fit = built_leaves (on B u) v 0 0 (0, 0) (plain_bare u B (λ x. refl) within 0 0 (0, 0) (ours (on B u) v) w) fit tt

pub accepted_left : (s : Setup) (v : RegisterValues) → Within s → accepts s v ≡ true → LeavesValues s v
unfolding accepts
accepted_left s v within h =
    let words = both_parts _ _ h in
    let rest = both_parts _ _ words.1 in
    let registers = both_parts _ _ rest.1 in
    let last = both_parts _ _ registers.1 in
    let precise = both_parts _ _ last.1 in
    found s v s.device within (ours_words s v within words.0) registers.0
    (record { global = eqb-true v.global (last_global s (set_from (counter_count s.device) 0 (λ k. not (eqb (ours s v k) 0)))) rest.0; ubox = last.0; pebs = precise.0; rules = precise.1 })
