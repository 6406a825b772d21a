-- When a write to each kind of register is made at rest (`AtRest`). Assumes nothing.
--     global-rests, control-rests, count-rests, filter-rests, precise-rests   by what the writes before it have left
use mathlib.Core.Path.{◌≡◌, refl, sym, subst}
use mathlib.Core.Logic.{◌≢◌, ⊎_elim}
use mathlib.Core.Bool.{true}
use mathlib.Core.List.{List, [], ◌∷◌, Memᴰ}
use Prim.Native.Nat.{ℕ, ◌<◌}
use Rattle.requests.specs.declared.Device.{Device}
use Rattle.requests.specs.declared.Device.TheVariants.{G, S, C, B}
use Rattle.requests.specs.declared.Setup.{Setup}
use Rattle.requests.specs.declared.Request.{Request}
use Rattle.requests.specs.Bits.{bit}
use Rattle.requests.specs.Devices.{counter_count}
use Rattle.plans.specs.Legal.{Usable}
use Rattle.layouts.specs.Layout.{layout_of, control_at, counter_at_lem, filters_at, mm_cfg_at, match_at, mask_at, pebs_at}
use Rattle.layouts.specs.Writes.{Write}
use Rattle.layouts.specs.RestWhileWritten.{LastWritten, Disabled, Cleared, Quiet, Prepares, filter, count, Selects, Matching, AtRest}
use Rattle.layouts.proofs.ListLaws.{all_member}
use Rattle.layouts.proofs.DeviceFacts.{in_room, apart}
use Rattle.layouts.proofs.WriteByWrite.{last_member}
use Rattle.layouts.proofs.PlanFilters.{devices_differ, c_not_s, b_not_s}

-- MATCH and MASK are filter registers of S
match_filter : (d : Device) (a : ℕ) → d ≡ S → Memᴰ a (match_at ∷ mask_at ∷ []) → Memᴰ a (filters_at d)
unfolding filters_at
match_filter G a g m = absurd (devices_differ g)
match_filter S a g m = mathlib.Core.List.Memᴰ.tail m
match_filter (C b) a g m = absurd (c_not_s b g)
match_filter B a g m = absurd (b_not_s g)

mm_cfg_filter : (d : Device) → d ≡ S → Memᴰ mm_cfg_at (filters_at d)
unfolding filters_at
mm_cfg_filter G g = absurd (devices_differ g)
mm_cfg_filter S g = mathlib.Core.List.Memᴰ.head refl
mm_cfg_filter (C b) g = absurd (c_not_s b g)
mm_cfg_filter B g = absurd (b_not_s g)

module _ (s : Setup) (rs : List Request) (b : List Write) where
  abbrev d : Device
  d = s.device

  abbrev global : ℕ
  global = (layout_of s.device).global

  mm_cfg_among : (a : ℕ) → s.device ≡ S → a ≡ mm_cfg_at → Memᴰ a (filters_at s.device)
  mm_cfg_among a g e = subst (λ (x : ℕ). Memᴰ x (filters_at s.device)) (sym e) (mm_cfg_filter s.device g)

  pub global_rests : (v : ℕ) → ((k : ℕ) → Usable s k → bit k v ≡ true → LastWritten b (counter_at_lem d k) 0) → AtRest s rs b (global, v)
  global_rests v zeroed =
      let no_filter : Memᴰ global (filters_at d) → ⊥ = λ m. all_member (apart d).filter_global m refl in
      let not-selects : (k : ℕ) → Selects s k (global, v) → ⊥ = λ k e. (apart d).global_control k (in_room d k e.0.0) e.1 in
      record {
        disabled = λ other. absurd (other refl);
        cleared = λ w. absurd (⊎_elim (λ p. not_prepares p) (λ e. not-selects e.0 e.1) w);
        prepared = λ p. absurd (not_prepares p);
        event_alone = λ k e. absurd (not-selects k e);
        event_zeroed = λ k e. absurd (not-selects k e);
        start_zeroed = λ e. zeroed;
        match_off = λ g m. absurd (no_filter (match_filter d global g m));
        match_set = λ g e. absurd (no_filter (mm_cfg_among global g e));
      }
    where
      not_prepares : Prepares s (global, v) → ⊥
      not_prepares (filter m) = all_member (apart d).filter_global m refl
      not_prepares (count k u e) = (apart d).global_counter k (in_room d k u.0) e

  module _ (disabled : Disabled s b) where
    pub control_rests : (k v : ℕ) → k < counter_count d → (v ≢ 0 → Cleared s b × LastWritten b (control_at d k) 0 × LastWritten b (counter_at_lem d k) 0)
        → AtRest s rs b (control_at d k, v)
    control_rests k v l zeroed =
        let no_filter : Memᴰ (control_at d k) (filters_at d) → ⊥ = λ m. all_member ((apart d).filter_control k (in_room d k l)) m refl in
        record {
          disabled = λ other. disabled;
          cleared = λ w. ⊎_elim (λ p. absurd (not_prepares p)) (λ e. (zeroed e.1.2).0) w;
          prepared = λ p. absurd (not_prepares p);
          event_alone = λ j e. subst (λ (x : ℕ). LastWritten b (control_at d x) 0) ((apart d).control_control k j e.1) (zeroed e.2).1;
          event_zeroed = λ j e. subst (λ (x : ℕ). LastWritten b (counter_at_lem d x) 0) ((apart d).control_control k j e.1) (zeroed e.2).2;
          start_zeroed = λ e. absurd ((apart d).global_control k (in_room d k l) (sym e));
          match_off = λ g m. absurd (no_filter (match_filter d (control_at d k) g m));
          match_set = λ g e. absurd (no_filter (mm_cfg_among (control_at d k) g e));
        }
      where
        not_prepares : Prepares s (control_at d k, v) → ⊥
        not_prepares (filter m) = all_member ((apart d).filter_control k (in_room d k l)) m refl
        not_prepares (count j u e) = (apart d).counter_control j k (in_room d j u.0) (in_room d k l) (sym e)

    -- IA32_PEBS_ENABLE is neither a filter register nor a select nor a count
    pub precise_rests : (v : ℕ) → AtRest s rs b (pebs_at, v)
    precise_rests v =
        let no_filter : Memᴰ pebs_at (filters_at d) → ⊥ = λ m. all_member (apart d).pebs_filter m refl in
        let not-selects : (k : ℕ) → Selects s k (pebs_at, v) → ⊥ = λ k e. (apart d).pebs_control k (in_room d k e.0.0) e.1 in
        record {
          disabled = λ other. disabled;
          cleared = λ w. absurd (⊎_elim (λ p. not_prepares p) (λ e. not-selects e.0 e.1) w);
          prepared = λ p. absurd (not_prepares p);
          event_alone = λ k e. absurd (not-selects k e);
          event_zeroed = λ k e. absurd (not-selects k e);
          start_zeroed = λ e. absurd ((apart d).pebs_global e);
          match_off = λ g m. absurd (no_filter (match_filter d pebs_at g m));
          match_set = λ g e. absurd (no_filter (mm_cfg_among pebs_at g e));
        }
      where
        not_prepares : Prepares s (pebs_at, v) → ⊥
        not_prepares (filter m) = all_member (apart d).pebs_filter m refl
        not_prepares (count k u e) = (apart d).pebs_counter k (in_room d k u.0) e

    module _ (quiet : Quiet s b) where
      pub count_rests : (k v : ℕ) → k < counter_count d → AtRest s rs b (counter_at_lem d k, v)
      count_rests k v l =
          let no_filter : Memᴰ (counter_at_lem d k) (filters_at d) → ⊥ = λ m. all_member ((apart d).filter_counter k (in_room d k l)) m refl in
          let not-selects : (j : ℕ) → Selects s j (counter_at_lem d k, v) → ⊥ = λ j e. (apart d).counter_control k j (in_room d k l) (in_room d j e.0.0) e.1 in
          record {
            disabled = λ other. disabled;
            cleared = λ w j u. last_member (quiet j u);
            prepared = λ p. quiet;
            event_alone = λ j e. absurd (not-selects j e);
            event_zeroed = λ j e. absurd (not-selects j e);
            start_zeroed = λ e. absurd ((apart d).global_counter k (in_room d k l) (sym e));
            match_off = λ g m. absurd (no_filter (match_filter d (counter_at_lem d k) g m));
            match_set = λ g e. absurd (no_filter (mm_cfg_among (counter_at_lem d k) g e));
          }

      pub filter_rests : (a v : ℕ) → Memᴰ a (filters_at d)
          → (s.device ≡ S → Memᴰ a (match_at ∷ mask_at ∷ []) → LastWritten b mm_cfg_at 0)
          → (s.device ≡ S → a ≡ mm_cfg_at → v ≢ 0 → Matching rs b)
          → AtRest s rs b (a, v)
      filter_rests a v m match_off match_set =
          let not-selects : (j : ℕ) → Selects s j (a, v) → ⊥ = λ j e. all_member ((apart d).filter_control j (in_room d j e.0.0)) m e.1 in
          record {
            disabled = λ other. disabled;
            cleared = λ w j u. last_member (quiet j u);
            prepared = λ p. quiet;
            event_alone = λ j e. absurd (not-selects j e);
            event_zeroed = λ j e. absurd (not-selects j e);
            start_zeroed = λ e. absurd (all_member (apart d).filter_global m e);
            match_off = match_off;
            match_set = match_set;
          }
