-- The reader's answer depends on nothing that it does not look at: `NotLookedAt`. Assumes nothing.
use Rattle.layouts.specs.declared.CounterState.{CounterState}
use Rattle.std.specs.Prelude.{Some, Ok}
use mathlib.Core.Path.{◌≡◌, refl, sym, ap, ap₂, ◌∙◌, fun_ext}
use mathlib.Core.Logic.{◌⊎◌, inl, inr, ⊎_elim}
use mathlib.Core.Bool.{Bool, true, false, not}
use mathlib.Core.List.{List}
use Prim.Native.Nat.{ℕ, ◌^◌, ◌<◌}
use native.Mathlib.Decide.{ℕ_discrete}
use native.Mathlib.Omega.{arith}
use borrow.Author.Tests.{eqb-true, ne_eqb}
use lib.Dec.{eqb}
use lib.ListN.{get_or}
use Rattle.requests.specs.Choice.{both, either, every, pick}
use Rattle.requests.specs.Askings.{asked}
use Rattle.requests.specs.declared.Device.{Device}
use Rattle.requests.specs.declared.Device.TheVariants.{G, S, C, B}
use Rattle.requests.specs.declared.Opening.{Opening}
use Rattle.requests.specs.declared.Setup.{Setup}
use Rattle.requests.specs.Devices.{has, counter_count, capacity, setup_of}
use Rattle.requests.proofs.Tests.{both_parts}
use Rattle.layouts.specs.Layout.{tabulate, pebs_on, mm_enable, packet_word}
use Rattle.layouts.specs.Settings.{set_from}
use Rattle.layouts.specs.Writes.{last_global, ubox_value, pebs_enable}
use Rattle.layouts.specs.Read.{ours, count, control_fits, packets_fit, filters_fit, ubox_fits, pebs_fits, rule_fits, accepts, filter_of, tell, reading_of, read_of}
use Rattle.layouts.specs.NotLookedAt.{SameFilters, SameLookedAt, NotLookedAt}
use Rattle.layouts.specs.declared.CounterState.TheVariants.{NotOurs}
use Rattle.layouts.specs.declared.FilterValues.{FilterValues}
use Rattle.layouts.specs.declared.RegisterValues.{RegisterValues}
use Rattle.layouts.specs.Read.{Reading}
use Rattle.layouts.proofs.ListLaws.{tabulate_same}
use Rattle.layouts.proofs.Counts.{count_zero}
use Rattle.layouts.proofs.DeviceFacts.{pebs_of}
use Rattle.layouts.proofs.UsableSets.{on, usable_within, usable_counter}
use Rattle.layouts.proofs.ReaderAnswers.{read_accepted, read_not_left}

-- where MM_CFG is 0, the test asks only for that
packets_off : (s : Setup) (n : ℕ) (v : FilterValues) → v.mm_cfg ≡ 0 → packets_fit s n v ≡ eqb n 0
unfolding packets_fit mm_enable both
packets_off s n v e = rw e (go (eqb n 0))
  where
    go : (b : Bool) → pick b true false ≡ b
    go true = refl
    go false = refl

filters_fit_lem : (d : Device) (u : Setup) (f : ℕ → ℕ) (v w : FilterValues) → SameFilters d v w → filters_fit (on d u) f v ≡ filters_fit (on d u) f w
unfolding filters_fit packets_fit
filters_fit_lem G u f v w h = rw (h.0, h.1)
filters_fit_lem S u f v w h = ⊎_elim off (λ e. rw (h.0, e.0, e.1)) h.1
  where
    off : v.mm_cfg ≡ 0 → packets_fit (on S u) (count (counter_count S) f (packet_word (on S u))) v ≡ packets_fit (on S u) (count (counter_count S) f (packet_word (on S u))) w
    off z =
        let n = count (counter_count S) f (packet_word (on S u)) in
        packets_off (on S u) n v z ∙ sym (packets_off (on S u) n w (sym h.0 ∙ z))
filters_fit_lem (C b) u f v w h = refl
filters_fit_lem B u f v w h = refl

-- where MM_CFG is 0 and fits, no counter counts packets
no_packets : (u : Setup) (f : ℕ → ℕ) (v : FilterValues) → filters_fit (on S u) f v ≡ true → v.mm_cfg ≡ 0 → count (counter_count S) f (packet_word (on S u)) ≡ 0
unfolding filters_fit packets_fit mm_enable
no_packets u f v h e =
    elim (ℕ_discrete (count (counter_count S) f (packet_word (on S u))) 0) [
      | yes z ↦ z
      | no o ↦
          let enabled : v.mm_cfg ≡ 2 ^ 63 = eqb-true _ _ (both_parts _ _ (rw (ne_eqb (count (counter_count S) f (packet_word (on S u))) 0 o) at h)).0 in
          absurd (omega arith)
    ]

tell_same : (d : Device) (u : Setup) (f : ℕ → ℕ) (v w : FilterValues) (k : ℕ) → filters_fit (on d u) f v ≡ true → SameFilters d v w → k < counter_count d
    → tell (on d u) v (f k) ≡ tell (on d u) w (f k)
unfolding tell filter_of
tell_same G u f v w k a h l = rw (h.0, h.1)
tell_same S u f v w k a h l = go h.1
  where
    go : (v.mm_cfg ≡ 0) ⊎ ((v.match_word ≡ w.match_word) × (v.mask_word ≡ w.mask_word)) → tell (on S u) v (f k) ≡ tell (on S u) w (f k)
    go (inl z) = rw (ne_eqb (f k) (packet_word (on S u)) (λ e. count_zero (counter_count S) k (packet_word (on S u)) f (no_packets u f v a z) l e))
    go (inr e) = rw (e.0, e.1)
tell_same (C b) u f v w k a h l = refl
tell_same B u f v w k a h l = refl

-- the test, given the control values that are looked at
abbrev test : Setup → (ℕ → ℕ) → ℕ → Bool → Bool → Bool → Bool
test s f g filters ubox pebs =
    let n = counter_count s.device in
    both (every n (λ k. control_fits s (f k))) (both (eqb g (last_global s (set_from n 0 (λ k. not (eqb (f k) 0))))) (both filters (both ubox (both pebs (every n (rule_fits s f))))))

-- the reading, given the control values that are looked at
abbrev answer : Setup → (ℕ → ℕ) → FilterValues → Reading
answer s f v = Ok (tabulate capacity (λ k. pick (has s.usable k) (tell s v (f k)) NotOurs))

module _ (o : Opening) (s : Setup) (v w : RegisterValues) (opened : setup_of o ≡ Some s) (same : SameLookedAt s v w) where
  ours_same : ours s v ≡ ours s w
  unfolding ours
  ours_same = fun_ext (λ k. go k (has s.usable k) refl)
    where
      go : (k : ℕ) (b : Bool) → has s.usable k ≡ b → pick b (get_or v.control k 0) 0 ≡ pick b (get_or w.control k 0) 0
      go k true h = same.control k (usable_counter s k (usable_within o s opened) h, h)
      go k false h = refl

  ubox_same : ubox_fits s v.ubox ≡ ubox_fits s w.ubox
  unfolding ubox_fits either
  ubox_same = go (asked s) refl
    where
      go : (b : Bool) → asked s ≡ b → either (not b) (eqb v.ubox (ubox_value s)) ≡ either (not b) (eqb w.ubox (ubox_value s))
      go true h = rw (same.ubox h)
      go false h = refl

  pebs_same : pebs_fits s.device (ours s w) v.pebs ≡ pebs_fits s.device (ours s w) w.pebs
  unfolding pebs_fits either
  pebs_same = go (pebs_on s.device) refl
    where
      go : (b : Bool) → pebs_on s.device ≡ b → either (not b) (eqb v.pebs (pebs_enable (ours s w))) ≡ either (not b) (eqb w.pebs (pebs_enable (ours s w)))
      go true h = rw (same.pebs (pebs_of s.device h))
      go false h = refl

  accepts_same : accepts s v ≡ accepts s w
  unfolding accepts
  accepts_same =
      let d = s.device in
      ap (λ (f : ℕ → ℕ). test s f v.global (filters_fit s f v.filters) (ubox_fits s v.ubox) (pebs_fits d f v.pebs)) ours_same
      ∙ ap (λ (g : ℕ). test s (ours s w) g (filters_fit s (ours s w) v.filters) (ubox_fits s v.ubox) (pebs_fits d (ours s w) v.pebs)) same.global
      ∙ ap₂ (λ (b c : Bool). test s (ours s w) w.global b c (pebs_fits d (ours s w) v.pebs)) (filters_fit_lem d s (ours s w) v.filters w.filters same.filters) ubox_same
      ∙ ap (λ (b : Bool). test s (ours s w) w.global (filters_fit s (ours s w) w.filters) (ubox_fits s w.ubox) b) pebs_same

  reading_same : accepts s v ≡ true → reading_of s v ≡ reading_of s w
  unfolding accepts reading_of
  reading_same h =
      let fit : filters_fit s (ours s v) v.filters ≡ true = (both_parts _ _ (both_parts _ _ (both_parts _ _ h).1).1).0 in
      ap (λ (cs : List CounterState). Ok cs)
      (tabulate_same capacity (λ k. pick (has s.usable k) (tell s v.filters (ours s v k)) NotOurs)
      (λ k. pick (has s.usable k) (tell s w.filters (ours s v k)) NotOurs)
      (λ k l. go k fit (has s.usable k) refl))
      ∙ ap (λ (f : ℕ → ℕ). answer s f w.filters) ours_same
    where
      go : (k : ℕ) → filters_fit s (ours s v) v.filters ≡ true → (b : Bool) → has s.usable k ≡ b
          → pick b (tell s v.filters (ours s v k)) NotOurs ≡ pick b (tell s w.filters (ours s v k)) NotOurs
      go k fit true h = tell_same s.device s (ours s v) v.filters w.filters k fit same.filters (usable_counter s k (usable_within o s opened) h)
      go k fit false h = refl

pub not_looked_at : NotLookedAt
not_looked_at o s v w e same = go (accepts s v) refl
  where
    go : (b : Bool) → accepts s v ≡ b → read_of o v ≡ read_of o w
    go true h = read_accepted o s v e h ∙ reading_same o s v w e same h ∙ sym (read_accepted o s w e (sym (accepts_same o s v w e same) ∙ h))
    go false h = read_not_left o s v e h ∙ sym (read_not_left o s w e (sym (accepts_same o s v w e same) ∙ h))
