-- Registers that hold what the writes of a plan do not change: from them its writes leave the values (FoundValues). Assumes nothing.
--     before   the registers, for values that the reader is given
use mathlib.Core.Path.{◌≡◌, refl, sym, ◌∙◌}
use mathlib.Core.Bool.{true}
use mathlib.Core.List.{Memᴰ}
use Prim.Native.Nat.{ℕ, ◌<◌}
use borrow.Author.Tests.{eq-eqb}
use lib.Dec.{eqb}
use lib.ListN.{get_or}
use Rattle.requests.specs.Choice.{pick}
use Rattle.requests.specs.declared.CounterSet.{CounterSet}
use Rattle.requests.specs.declared.Device.{Device}
use Rattle.requests.specs.declared.Device.TheVariants.{S}
use Rattle.requests.specs.Devices.{capacity, has, counter_count}
use Rattle.layouts.specs.Layout.{layout_of, control_at, filters_at, match_at, mask_at, ubox_at, pebs_at}
use Rattle.layouts.specs.Settings.{set_from}
use Rattle.layouts.specs.Writes.{rows, apply}
use Rattle.layouts.specs.declared.RegisterValues.{RegisterValues}
use Rattle.layouts.proofs.ListLaws.{all_member}
use Rattle.layouts.proofs.CounterSets.{bit_set}
use Rattle.layouts.proofs.DeviceFacts.{in_room, apart}
use Rattle.layouts.proofs.RegistersAfter.{apply_after, after_other, rows_all, rows_at}

-- every counter of the device
every_counter : Device → CounterSet
every_counter d = record { 0 = set_from (counter_count d) 0 (λ k. true) }

-- registers that hold the values of the U-Box and of IA32_PEBS_ENABLE, and the match and mask words
around : RegisterValues → ℕ → ℕ
around v a = pick (eqb ubox_at a) v.ubox (pick (eqb pebs_at a) v.pebs (pick (eqb match_at a) v.filters.match_word v.filters.mask_word))

-- and the control values
pub before : Device → RegisterValues → ℕ → ℕ
before d v = apply (rows (counter_count d) (every_counter d) (layout_of d).control (layout_of d).step v.control) (around v)

pub before_control : (d : Device) (v : RegisterValues) (k : ℕ) → k < counter_count d → before d v (control_at d k) ≡ get_or v.control k 0
unfolding before every_counter control_at has
before_control d v k l =
    let values = rows (counter_count d) (every_counter d) (layout_of d).control (layout_of d).step v.control in
    apply_after values (around v) (control_at d k)
    ∙ rows_at (every_counter d) (layout_of d).control (layout_of d).step v.control (apart d).control_control (counter_count d) k (around v (control_at d k)) l
    ∙ rw (bit_set (counter_count d) 0 k (λ j. true) l)

-- what is none of the control registers
before_other : (d : Device) (v : RegisterValues) (a : ℕ) → ((k : ℕ) → k < capacity → control_at d k ≡ a → ⊥) → before d v a ≡ around v a
unfolding before control_at
before_other d v a other =
    let values = rows (counter_count d) (every_counter d) (layout_of d).control (layout_of d).step v.control in
    apply_after values (around v) a
    ∙ after_other a (around v a) (rows_all (λ w. w.0 ≡ a → ⊥) (every_counter d) (layout_of d).control (layout_of d).step v.control (counter_count d)
    (λ k l h. other k (in_room d k l)))

before_filter : (d : Device) (v : RegisterValues) (a : ℕ) → Memᴰ a (filters_at d) → before d v a ≡ around v a
before_filter d v a m = before_other d v a (λ k l e. all_member ((apart d).filter_control k l) m (sym e))

pub before_ubox : (d : Device) (v : RegisterValues) → before d v ubox_at ≡ v.ubox
unfolding around
before_ubox d v = before_other d v ubox_at (λ k l e. (apart d).ubox_control k l (sym e)) ∙ rw (eq-eqb ubox_at ubox_at refl)

pub before_pebs : (d : Device) (v : RegisterValues) → before d v pebs_at ≡ v.pebs
unfolding around ubox_at pebs_at
before_pebs d v = before_other d v pebs_at (λ k l e. (apart d).pebs_control k l (sym e))

pub before_match : (v : RegisterValues) → before S v match_at ≡ v.filters.match_word
unfolding filters_at around ubox_at pebs_at match_at
before_match v = before_filter S v match_at (Memᴰ.tail (Memᴰ.head refl))

pub before_mask : (v : RegisterValues) → before S v mask_at ≡ v.filters.mask_word
unfolding filters_at around ubox_at pebs_at match_at mask_at
before_mask v = before_filter S v mask_at (Memᴰ.tail (Memᴰ.tail (Memᴰ.head refl)))
