-- What belongs to somebody else is left alone: `OthersUntouched`, by `writes-all` and the values of the global register. Assumes nothing.
use mathlib.Core.Path.{◌≡◌, refl, sym, ap, subst, ◌∙◌}
use mathlib.Core.Bool.{true, false, not}
use mathlib.Core.List.{List, Memᴰ}
use Prim.Native.Nat.{ℕ, ◌+◌, ◌<◌}
use lib.Dec.{ltb}
use Rattle.requests.specs.Choice.{both}
use Rattle.requests.specs.declared.Device.{Device}
use Rattle.requests.specs.declared.Device.TheVariants.{G, S, C, B}
use Rattle.requests.specs.declared.Setup.{Setup}
use Rattle.requests.specs.declared.Request.{Request}
use Rattle.requests.specs.Bits.{bit}
use Rattle.requests.specs.Devices.{has, counter_count, fixed_count}
use Rattle.requests.proofs.Tests.{either_left}
use Rattle.plans.specs.declared.Place.{Place}
use Rattle.plans.specs.Legal.{Legal}
use Rattle.plans.proofs.Sets.{all_imp}
use Rattle.layouts.specs.Layout.{layout_of, filters_at, rsp0_at, rsp1_at, mm_cfg_at, match_at, mask_at, pebs_at, pebs_on}
use Rattle.layouts.specs.Settings.{settings_of}
use Rattle.layouts.specs.Writes.{first_global, last_global, precise_writes, writes, apply}
use Rattle.layouts.specs.OthersUntouched.{Ours, global, filter, control, counter, ubox, pebs, filter_addresses, OthersUntouched}
use Rattle.layouts.proofs.ListLaws.{all_member}
use Rattle.layouts.proofs.DeviceFacts.{in_room, apart, pebs_of}
use Rattle.layouts.proofs.RegistersAfter.{apply_after, after_other, filter_addresses_lem, precise_addresses, row_all, box_all, writes_all}
use Rattle.layouts.proofs.GlobalValues.{used_usable, first_bit, first_fixed, last_bit, last_fixed}

kept : (s : Setup) (rs : List Request) (ps : List Place) → Legal s rs ps
    → (registers : ℕ → ℕ) (a : ℕ) → ¬ Ours s a → apply (writes s rs ps) registers a ≡ registers a
unfolding writes precise_writes
kept s rs ps legal registers a others =
    apply_after (writes s rs ps) registers a
    ∙ after_other a (registers a)
    (all_imp (λ w o e. others (subst (Ours s) e o))
    (writes_all s (settings_of s rs ps) (λ w. Ours s w.0) (λ h. (ubox h, ubox h))
    (box_all s (settings_of s rs ps) (λ w. Ours s w.0)
    global
    (λ k l h. control (l, h))
    (all_imp (λ w m. filter m) (filter_addresses_lem s.device (settings_of s rs ps)))
    (λ k l h. counter (used_usable s rs ps legal k l h))
    (λ k l h. control (used_usable s rs ps legal k l h))
    (row_all (λ w. Ours s w.0) (pebs_on s.device) pebs_at _ (λ h. pebs (pebs_of s.device h)))
    global)))

-- what holds of both values of the global register holds of each that the list writes to it
pub global_all : (s : Setup) (rs : List Request) (ps : List Place) (P : ℕ → Type 0) → P (first_global s) → P (last_global s (settings_of s rs ps).used.0)
    → (v : ℕ) → Memᴰ ((layout_of s.device).global, v) (writes s rs ps) → P v
unfolding writes
global_all s rs ps P first last v m =
    let d = s.device in
    all_member
    (writes_all s (settings_of s rs ps) (λ w. w.0 ≡ (layout_of d).global → P w.1)
    (λ h. (λ e. absurd ((apart d).ubox_global e), λ e. absurd ((apart d).ubox_global e)))
    (box_all s (settings_of s rs ps) (λ w. w.0 ≡ (layout_of d).global → P w.1)
    (λ e. first)
    (λ j b g e. absurd ((apart d).global_control j (in_room d j b) (sym e)))
    (all_imp (λ w a e. absurd (all_member (apart d).filter_global a e)) (filter_addresses_lem d (settings_of s rs ps)))
    (λ j b g e. absurd ((apart d).global_counter j (in_room d j b) (sym e)))
    (λ j b g e. absurd ((apart d).global_control j (in_room d j b) (sym e)))
    (all_imp (λ w a e. absurd ((apart d).pebs_global (sym a ∙ e))) (precise_addresses d (settings_of s rs ps)))
    (λ e. last)))
    m refl

enabled : (s : Setup) (rs : List Request) (ps : List Place) → Legal s rs ps
    → (v k : ℕ) → Memᴰ ((layout_of s.device).global, v) (writes s rs ps) → k < counter_count s.device → has s.usable k ≡ false → bit k v ≡ true
enabled s rs ps legal v k m l h =
    let off : not (has s.usable k) ≡ true = ap not h in
    global_all s rs ps (λ x. bit k x ≡ true) (first_bit s k l ∙ off) (last_bit s rs ps legal k l ∙ either_left _ _ off) v m

fixed : (s : Setup) (rs : List Request) (ps : List Place) → Legal s rs ps
    → (v k : ℕ) → Memᴰ ((layout_of s.device).global, v) (writes s rs ps) → bit (32 + k) v ≡ both (ltb k (fixed_count s.device)) (bit k s.fixed)
fixed s rs ps legal v k m =
    global_all s rs ps (λ x. bit (32 + k) x ≡ both (ltb k (fixed_count s.device)) (bit k s.fixed)) (first_fixed s k) (last_fixed s rs ps legal k) v m

filters : (d : Device) → filters_at d ≡ filter_addresses d
unfolding filters_at rsp0_at rsp1_at mm_cfg_at match_at mask_at
filters G = refl
filters S = refl
filters (C b) = refl
filters B = refl

pub others_untouched : OthersUntouched
others_untouched = record { filters = filters; kept = kept; enabled = enabled; fixed = fixed }
