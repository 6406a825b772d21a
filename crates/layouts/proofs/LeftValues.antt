-- The values that a legal plan of well-formed requests leaves are accepted and told as that plan, by the laws of its words (PlanWords, PlanFilters, PlanTold).
--     ours-left     the control values that are looked at are the plan's words
--     left-accepted, left-told
use mathlib.Core.Path.{◌≡◌, refl, sym, ap, ◌∙◌, fun_ext}
use mathlib.Core.Bool.{Bool, true, false, not}
use mathlib.Core.List.Memᴰ
use mathlib.Core.List.{List, [], ◌∷◌, flat_map}
use Prim.Native.Nat.{ℕ, zero, suc, ◌+◌, ◌^◌, ◌<◌}
use native.Mathlib.Omega.{arith}
use borrow.Author.Tests.{eqb-true, eq-eqb}
use lib.Dec.{eqb}
use lib.ListN.{get_or}
use Rattle.requests.specs.Choice.{either, pick}
use Rattle.requests.specs.declared.Device.{Device}
use Rattle.requests.specs.declared.Device.TheVariants.{G, S, C, B}
use Rattle.requests.specs.declared.Setup.{Setup}
use Rattle.requests.specs.declared.Request.{Request}
use Rattle.requests.specs.declared.Request.TheVariants.{Event}
use Rattle.requests.specs.Askings.{asked}
use Rattle.requests.specs.Bits.{in_list}
use Rattle.requests.specs.Devices.{has, counter_count, capacity}
use Rattle.requests.specs.WellFormedRequests.{Described, event}
use Rattle.requests.proofs.Tests.{either_true, true_both, either_left, either_right, every_true}
use Rattle.plans.specs.declared.Place.{Place}
use Rattle.plans.specs.Lists.{All, nil, OneValue}
use Rattle.plans.specs.Legal.{Legal, words_of, packets_of, of_all, counters}
use Rattle.plans.proofs.Sets.{all_imp}
use Rattle.layouts.specs.Layout.{filters_at, rsp0_at, rsp1_at, mm_cfg_at, match_at, mask_at, pebs_on, mm_enable, event_word, rsp_word, packet_word}
use Rattle.layouts.specs.Settings.{word_at, set_from, head_of, head_or, nonempty, settings_of}
use Rattle.layouts.specs.Writes.{last_global, ubox_value, offcore_writes, packet_writes, filter_writes, pebs_enable, writes, apply}
use Rattle.layouts.specs.Read.{ours, no_counter, filter_word, control_fits, ubox_fits, pebs_fits, accepts, tell, reading_of}
use Rattle.layouts.specs.Told.{not_ours, told, told_by, told_of, told_at, told_plan}
use Rattle.layouts.specs.ExactReader.{FiltersShow, LeavesValues}
use Rattle.layouts.specs.declared.FilterValues.{FilterValues}
use Rattle.layouts.specs.declared.RegisterValues.{RegisterValues}
use Rattle.layouts.specs.declared.CounterState.TheVariants.{NotOurs}
use Rattle.layouts.proofs.ListLaws.{one_value, map_tabulate, tabulate_same}
use Rattle.layouts.proofs.CounterSets.{set_same}
use Rattle.layouts.proofs.RegistersAfter.{after}
use Rattle.layouts.proofs.UsableSets.{on, Within, usable_counter}
use Rattle.layouts.proofs.ControlWords.{ControlWord, listed_event, rsp_event, packet_event, listed, word_parts, word_some, plan_words, word_at_lem}
use Rattle.layouts.proofs.AskedWords.{none_within}
use Rattle.layouts.proofs.FormedRequests.{describe_all, described_passes}
use Rattle.layouts.proofs.PlanWords.{uses_in, used_word, unused_word, control_left, global_left, filter_left, pebs_left, ubox_left}
use Rattle.layouts.proofs.PlanFilters.{devices_differ, c_not_g, c_not_s, b_not_g, b_not_s, LeftFilters, filters_fit_lem}
use Rattle.layouts.proofs.RuledWords.{rules_kept}
use Rattle.layouts.proofs.PlanTold.{Holds, tell_plan}

-- ---- filter values

-- what the writes of the match/mask register leave in it
mm_cfg_after : (asked : List (ℕ × ℕ)) (z : ℕ) → after (packet_writes (head_of asked)) mm_cfg_at z ≡ pick (nonempty asked) (2 ^ mm_enable) 0
unfolding after packet_writes mm_cfg_at match_at mask_at
mm_cfg_after [] z = refl
mm_cfg_after (p ∷ asked) z = refl

match_after : (asked : List (ℕ × ℕ)) (z : ℕ) → after (packet_writes (head_of asked)) match_at z ≡ pick (nonempty asked) (head_or (0, 0) asked).0 z
unfolding after packet_writes mm_cfg_at match_at mask_at
match_after [] z = refl
match_after (p ∷ asked) z = refl

mask_after : (asked : List (ℕ × ℕ)) (z : ℕ) → after (packet_writes (head_of asked)) mask_at z ≡ pick (nonempty asked) (head_or (0, 0) asked).1 z
unfolding after packet_writes mm_cfg_at match_at mask_at
mask_after [] z = refl
mask_after (p ∷ asked) z = refl

-- the filter registers after the writes of a plan
module _ (u : Setup) (rs : List Request) (ps : List Place) (registers : ℕ → ℕ) where
  abbrev left : Device → ℕ → ℕ
  left d = apply (writes (on d u) rs ps) registers

  abbrev packets : List (ℕ × ℕ)
  packets = flat_map packets_of rs

  pub rsp0_left : left G rsp0_at ≡ head_or 0 (of_all (words_of 0) rs ps)
  unfolding after filter_writes offcore_writes settings_of filters_at rsp0_at rsp1_at
  rsp0_left = filter_left (on G u) rs ps registers rsp0_at (Memᴰ.head refl)

  pub rsp1_left : left G rsp1_at ≡ head_or 0 (of_all (words_of 1) rs ps)
  unfolding after filter_writes offcore_writes settings_of filters_at rsp0_at rsp1_at
  rsp1_left = filter_left (on G u) rs ps registers rsp1_at (Memᴰ.tail (Memᴰ.head refl))

  pub mm_cfg_left : left S mm_cfg_at ≡ pick (nonempty packets) (2 ^ mm_enable) 0
  unfolding filter_writes settings_of filters_at
  mm_cfg_left = filter_left (on S u) rs ps registers mm_cfg_at (Memᴰ.head refl) ∙ mm_cfg_after packets (registers mm_cfg_at)

  pub match_left : left S match_at ≡ pick (nonempty packets) (head_or (0, 0) packets).0 (registers match_at)
  unfolding filter_writes settings_of filters_at
  match_left =
      filter_left (on S u) rs ps registers match_at (Memᴰ.tail (Memᴰ.head refl))
      ∙ match_after packets (registers match_at)

  pub mask_left : left S mask_at ≡ pick (nonempty packets) (head_or (0, 0) packets).1 (registers mask_at)
  unfolding filter_writes settings_of filters_at
  mask_left =
      filter_left (on S u) rs ps registers mask_at (Memᴰ.tail (Memᴰ.tail (Memᴰ.head refl)))
      ∙ mask_after packets (registers mask_at)

pair_path : (p : ℕ × ℕ) (x y : ℕ) → x ≡ p.0 → y ≡ p.1 → p ≡ (x, y)
pair_path p x y e q = λ i. (sym e i, sym q i)

-- all packet requests ask for the words that are left
packets_held : (asked : List (ℕ × ℕ)) (x y a b : ℕ) → OneValue asked → x ≡ pick (nonempty asked) (head_or (0, 0) asked).0 a → y ≡ pick (nonempty asked) (head_or (0, 0) asked).1 b
    → All (λ (p : ℕ × ℕ). p ≡ (x, y)) asked
packets_held [] x y a b o e q = nil
packets_held (p ∷ ps) x y a b o e q = all_imp (λ r h. h ∙ pair_path p x y e q) (one_value (0, 0) (p ∷ ps) o)

filters_left : (d : Device) (u : Setup) (rs : List Request) (ps : List Place) (registers : ℕ → ℕ) (v : FilterValues)
    → Legal (on d u) rs ps → FiltersShow d v (apply (writes (on d u) rs ps) registers) → LeftFilters d rs ps v × Holds d rs ps v
filters_left G u rs ps registers v legal shown =
    let first = shown.0 ∙ rsp0_left u rs ps registers in
    let second = shown.1 ∙ rsp1_left u rs ps registers in (
      (first, second),
      (
        rw first (one_value 0 (of_all (words_of 0) rs ps) (legal.one_word 0 (omega arith))),
        rw second (one_value 0 (of_all (words_of 1) rs ps) (legal.one_word 1 (omega arith))),
      ),
    )
filters_left S u rs ps registers v legal shown =
    let held = packets_held (flat_map packets_of rs) v.match_word v.mask_word (registers match_at) (registers mask_at) legal.one_packet
    (shown.1 ∙ match_left u rs ps registers) (shown.2 ∙ mask_left u rs ps registers) in
    ((shown.0 ∙ mm_cfg_left u rs ps registers, held), held)
filters_left (C b) u rs ps registers v legal shown = (tt, tt)
filters_left B u rs ps registers v legal shown = (tt, tt)

-- ---- control values

-- a word where it is not 0, and otherwise 0
pub kept : (w : ℕ) → pick (not (eqb w 0)) w 0 ≡ w
kept w = go (eqb w 0) refl
  where
    go : (b : Bool) → eqb w 0 ≡ b → pick (not b) w 0 ≡ w
    go true e = sym (eqb-true w 0 e)
    go false e = refl

-- the control words of filter events are known as such
rsp_filter : (d : Device) (u : Setup) (i : ℕ) → d ≡ G → i < 2 → filter_word (on d u) (rsp_word (on d u) i) ≡ true
unfolding filter_word either
rsp_filter G u zero g l = rw (eq-eqb (rsp_word (on G u) 0) (rsp_word (on G u) 0) refl)
rsp_filter G u (suc zero) g l = rw (eq-eqb (rsp_word (on G u) 1) (rsp_word (on G u) 1) refl) (either_true (eqb (rsp_word (on G u) 1) (rsp_word (on G u) 0)))
rsp_filter G u (suc (suc i)) g l = absurd (omega arith)
rsp_filter S u i g l = absurd (devices_differ (sym g))
rsp_filter (C b) u i g l = absurd (c_not_g b g)
rsp_filter B u i g l = absurd (b_not_g g)

packet_filter : (d : Device) (u : Setup) → d ≡ S → filter_word (on d u) (packet_word (on d u)) ≡ true
unfolding filter_word
packet_filter G u g = absurd (devices_differ g)
packet_filter S u g = eq-eqb (packet_word (on S u)) (packet_word (on S u)) refl
packet_filter (C b) u g = absurd (c_not_s b g)
packet_filter B u g = absurd (b_not_s g)

control_fits_lem : (s : Setup) (w : ℕ) → ControlWord s w → control_fits s w ≡ true
unfolding control_fits
control_fits_lem s w (listed_event c m h e) =
    let l = listed s.device c m h in
    let p = word_parts s c m l.code l.mask in
    rw (e, p.code, p.mask)
    (either_right _ _ (either_right _ _
    (true_both _ _ (eq-eqb (event_word s c m) (event_word s c m) refl) (described_passes s (Event c m no_counter) (event h (none_within s))))))
control_fits_lem s w (rsp_event i g l e) = either_right _ _ (either_left _ _ (rw e (rsp_filter s.device s i g l)))
control_fits_lem s w (packet_event g e) = either_right _ _ (either_left _ _ (rw e (packet_filter s.device s g)))

pub zero_fits : (s : Setup) → control_fits s 0 ≡ true
unfolding control_fits either
zero_fits s = refl

-- ---- the reading

module _ (s : Setup) (v : RegisterValues) (within : Within s) (plan : LeavesValues s v) where
  abbrev d : Device
  d = s.device

  abbrev us : List (ℕ × ℕ)
  us = uses_in s plan.requests plan.places

  plan_described : All (Described s) plan.requests
  plan_described = describe_all s plan.formed

  words : All (λ (u : ℕ × ℕ). ControlWord s u.1) us
  words = plan_words s plan_described plan.legal.allowed

  used : (k : ℕ) → in_list (counters plan.places) k ≡ not (eqb (word_at us k) 0)
  used = used_word s plan.requests plan.places plan.legal (all_imp (λ u w. word_some s u.1 w) words)

  ours_left : ours s v ≡ word_at us
  unfolding ours
  ours_left = fun_ext (λ k. go k (has s.usable k) refl)
    where
      go : (k : ℕ) (b : Bool) → has s.usable k ≡ b → pick b (get_or v.control k 0) 0 ≡ word_at us k
      go k true h =
          let l = usable_counter s k within h in
          plan.shown.control k l
          ∙ control_left s plan.requests plan.places plan.before k l
          ∙ rw (used k, h) (kept (word_at us k))
      go k false h = sym (unused_word s plan.requests plan.places plan.legal k h)

  filters : LeftFilters d plan.requests plan.places v.filters × Holds d plan.requests plan.places v.filters
  filters = filters_left d s plan.requests plan.places plan.before v.filters plan.legal plan.shown.filters

  global : v.global ≡ last_global s (set_from (counter_count d) 0 (λ k. not (eqb (word_at us k) 0)))
  global =
      plan.shown.global
      ∙ global_left s plan.requests plan.places plan.before
      ∙ ap (last_global s) (set_same (counter_count d) 0 (in_list (counters plan.places)) (λ k. not (eqb (word_at us k) 0)) (λ k l. used (0 + k)))

  -- the U-Box holds its last value where something is asked
  ubox : ubox_fits s v.ubox ≡ true
  unfolding ubox_fits either
  ubox = go (asked s) refl
    where
      go : (b : Bool) → asked s ≡ b → either (not b) (eqb v.ubox (ubox_value s)) ≡ true
      go true h = eq-eqb _ _ (plan.shown.ubox ∙ ubox_left s plan.requests plan.places plan.before h)
      go false h = refl

  -- and IA32_PEBS_ENABLE its value where the device has it
  pebs : pebs_fits s.device (word_at us) v.pebs ≡ true
  unfolding pebs_fits either
  pebs = go (pebs_on s.device) refl
    where
      go : (b : Bool) → pebs_on s.device ≡ b → either (not b) (eqb v.pebs (pebs_enable (word_at us))) ≡ true
      go true h = eq-eqb _ _ (plan.shown.pebs ∙ pebs_left s plan.requests plan.places plan.before ∙ rw h)
      go false h = refl

  pub left_accepted : accepts s v ≡ true
  unfolding accepts
  left_accepted =
      rw ours_left
      (true_both _ _ (every_true (counter_count d) (λ k. control_fits s (word_at us k))
      (λ k l. word_at_lem (λ w. control_fits s w ≡ true) us k (zero_fits s) (all_imp (λ u w. control_fits_lem s u.1 w) words)))
      (true_both _ _ (eq-eqb _ _ global)
      (true_both _ _ (filters_fit_lem d s plan.requests plan.places v.filters plan_described plan.legal filters.0)
      (true_both _ _ ubox (true_both _ _ pebs (rules_kept d s plan.requests plan.places plan_described plan.legal))))))

  pub left_told : told_by (reading_of s v) ≡ told_plan s plan.requests plan.places
  unfolding told_by reading_of told_plan told
  left_told =
      map_tabulate told capacity (λ k. pick (has s.usable k) (tell s v.filters (ours s v k)) NotOurs)
      ∙ tabulate_same capacity (λ k. told (pick (has s.usable k) (tell s v.filters (ours s v k)) NotOurs))
      (λ k. pick (has s.usable k) (told_at (of_all told_of plan.requests plan.places) k) not_ours) (λ k l. go k (has s.usable k))
    where
      go : (k : ℕ) (b : Bool) → told (pick b (tell s v.filters (ours s v k)) NotOurs) ≡ pick b (told_at (of_all told_of plan.requests plan.places) k) not_ours
      go k true =
          ap (λ (f : ℕ → ℕ). told (tell s v.filters (f k))) ours_left
          ∙ tell_plan d s plan.requests plan.places v.filters k plan_described plan.legal.allowed filters.1
      go k false = refl
