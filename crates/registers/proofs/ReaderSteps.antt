-- The reader's answer from its tests: the filter registers of each device, and the whole of the values.
use mathlib.Core.Path.{◌≡◌, refl, sym, ap, ◌∙◌}
use mathlib.Core.Bool.{Bool, true, false, not}
use Prim.Native.Nat.{ℕ}
use lib.Dec.{eqb}
use Rattle.requests.specs.declared.Device.{Device}
use Rattle.requests.specs.declared.Device.TheVariants.{G, S, C, B}
use Rattle.requests.specs.declared.Setup.{Setup}
use Rattle.requests.specs.Choice.{both, every}
use Rattle.requests.specs.Devices.{counter_count}
use Rattle.layouts.specs.Layout.{rsp_word, packet_word}
use Rattle.layouts.specs.Settings.{set_from}
use Rattle.layouts.specs.Writes.{last_global}
use Rattle.layouts.specs.Read.{ours, count, control_fits, rsp1_fits, rsp0_fits, packets_fit, filters_fit, ubox_fits, pebs_fits, rule_fits, accepts}
use Rattle.layouts.specs.declared.FilterValues.{FilterValues}
use Rattle.layouts.specs.declared.RegisterValues.{RegisterValues}
use Rattle.layouts.proofs.UsableSets.{on}

-- ---- the filter registers

module _ (f : ℕ → ℕ) (v : FilterValues) where
  pub filters_g : (d : Device) (u : Setup) (n0 n1 : ℕ) → d ≡ G → n0 ≡ count (counter_count d) f (rsp_word (on d u) 0) → n1 ≡ count (counter_count d) f (rsp_word (on d u) 1)
      → both (rsp1_fits (on d u) n1 v.rsp1) (rsp0_fits (on d u) n0 n1 v.rsp0 v.rsp1) ≡ filters_fit (on d u) f v
  unfolding filters_fit
  filters_g G u n0 n1 e e0 e1 = rw (e0, e1)
  filters_g S u n0 n1 e e0 e1 = cc
  filters_g (C b) u n0 n1 e e0 e1 = cc
  filters_g B u n0 n1 e e0 e1 = cc

  pub filters_s : (d : Device) (u : Setup) (n : ℕ) → d ≡ S → n ≡ count (counter_count d) f (packet_word (on d u))
      → packets_fit (on d u) n v ≡ filters_fit (on d u) f v
  unfolding filters_fit
  filters_s S u n e en = rw en
  filters_s G u n e en = cc
  filters_s (C b) u n e en = cc
  filters_s B u n e en = cc

-- ---- the values

-- a test, and one more where it holds
pub holding : {v a x y : Bool} → a ≡ true → a ≡ x → v ≡ y → v ≡ both x y
unfolding both
holding h e next = rw (sym e ∙ h) next

pub failing : {v a x : Bool} (y : Bool) → a ≡ false → a ≡ x → v ≡ a → v ≡ both x y
unfolding both
failing y h e last = rw (sym e ∙ h) (last ∙ h)

both_assoc : (a b c : Bool) → both (both a b) c ≡ both a (both b c)
unfolding both
both_assoc true b c = refl
both_assoc false b c = refl

-- the tests in their order, of the control words f
module _ (s : Setup) (v : RegisterValues) (f : ℕ → ℕ) where
  abbrev pub to_global : Bool
  to_global =
      both (every (counter_count s.device) (λ k. control_fits s (f k)))
      (eqb v.global (last_global s (set_from (counter_count s.device) 0 (λ k. not (eqb (f k) 0)))))

  abbrev pub to_filters : Bool
  to_filters = both to_global (filters_fit s f v.filters)

  abbrev pub to_ubox : Bool
  to_ubox = both to_filters (ubox_fits s v.ubox)

  abbrev pub to_last : Bool
  to_last = both to_ubox (both (pebs_fits s.device f v.pebs) (every (counter_count s.device) (rule_fits s f)))

-- all of them, of the control values that are looked at
pub accepts_words : (s : Setup) (v : RegisterValues) (f : ℕ → ℕ) → f ≡ ours s v → to_last s v f ≡ accepts s v
unfolding accepts
accepts_words s v f same = ap (to_last s v) same ∙ simp both_assoc
