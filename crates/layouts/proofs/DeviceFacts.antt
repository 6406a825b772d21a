-- What the proofs ask of a device's numbers and tables: one record a device, cited wherever one of its facts is needed. Assumes nothing.
--     facts     the facts of a device
--     apart     no two of its registers have one address
--     in-room   arrays have room for its counters
--     pebs-of   B alone has IA32_PEBS_ENABLE
--     cbox-range, cbox-row, cbox-past   the table of the C-Boxes
use mathlib.Core.Path.{◌≡◌, refl}
use mathlib.Core.Bool.{true, false, false≢true}
use mathlib.Core.List.{List, [], ◌∷◌}
use Prim.Native.Nat.{ℕ, zero, suc, ◌+◌, ◌*◌, ◌%◌, ◌^◌, ◌≤◌, ◌<◌}
use native.Mathlib.Omega.{arith}
use lib.ListN.{length, get_or, get_or-eq_default}
use Rattle.requests.specs.Choice.{both, either, every, pick}
use Rattle.requests.specs.declared.Device.{Device}
use Rattle.requests.specs.declared.Device.TheVariants.{G, S, C, B}
use Rattle.requests.specs.Bits.{bit, in_list, only_bits, rising, field}
use Rattle.requests.specs.CBoxEvents.{sink_masks, ring_masks, starved_masks, bypass_masks, cbox_events}
use Rattle.requests.specs.Catalogue.{architectural_events, precise_events, events_of}
use Rattle.requests.specs.Askings.{overflow_on}
use Rattle.requests.specs.Devices.{capacity, counter_count, fixed_count}
use Rattle.plans.specs.Lists.{All, nil, cons}
use Rattle.plans.proofs.PlanLengthHolds.{plan_length}
use Rattle.layouts.specs.Layout.{tabulate, global_bits, control_bits, enabled_on, offcore_code, cbox_globals, cbox_global, layout_of, control_at, counter_at_lem, filters_at, rsp0_at, rsp1_at, mm_cfg_at, match_at, mask_at, ubox_at, pebs_at, pebs_on}
use Rattle.layouts.specs.WriteCount.{write_limit}
use Rattle.layouts.proofs.ListedEvents.{all_below, below_mask, table}

-- the code of the device's filter events
unfoldable pub filter_code : Device → ℕ
filter_code G = offcore_code
filter_code S = 0
filter_code (C b) = 0
filter_code B = 0

-- a device's filter registers take at most this many writes
unfoldable pub filter_room : Device → ℕ
filter_room G = 2
filter_room S = 4
filter_room (C b) = 0
filter_room B = 0

-- no two registers have one address, even if the device had all the counters that arrays have room for
pub record Apart (d : Device) : Type 0 where
  pub control_control : (j k : ℕ) → control_at d j ≡ control_at d k → j ≡ k
  pub counter_counter : (j k : ℕ) → counter_at_lem d j ≡ counter_at_lem d k → j ≡ k
  pub counter_control : (j k : ℕ) → j < capacity → k < capacity → counter_at_lem d j ≡ control_at d k → ⊥
  pub global_control : (k : ℕ) → k < capacity → (layout_of d).global ≡ control_at d k → ⊥
  pub global_counter : (k : ℕ) → k < capacity → (layout_of d).global ≡ counter_at_lem d k → ⊥
  pub filter_control : (k : ℕ) → k < capacity → All (λ (a : ℕ). a ≡ control_at d k → ⊥) (filters_at d)
  pub filter_counter : (k : ℕ) → k < capacity → All (λ (a : ℕ). a ≡ counter_at_lem d k → ⊥) (filters_at d)
  pub filter_global : All (λ (a : ℕ). a ≡ (layout_of d).global → ⊥) (filters_at d)
  -- and none has that of the U-Box
  pub ubox_global : ubox_at ≡ (layout_of d).global → ⊥
  pub ubox_control : (k : ℕ) → k < capacity → ubox_at ≡ control_at d k → ⊥
  pub ubox_counter : (k : ℕ) → k < capacity → ubox_at ≡ counter_at_lem d k → ⊥
  pub ubox_filter : All (λ (a : ℕ). a ≡ ubox_at → ⊥) (filters_at d)
  -- nor that of IA32_PEBS_ENABLE
  pub pebs_global : pebs_at ≡ (layout_of d).global → ⊥
  pub pebs_control : (k : ℕ) → k < capacity → pebs_at ≡ control_at d k → ⊥
  pub pebs_counter : (k : ℕ) → k < capacity → pebs_at ≡ counter_at_lem d k → ⊥
  pub pebs_filter : All (λ (a : ℕ). a ≡ pebs_at → ⊥) (filters_at d)
  pub pebs_ubox : pebs_at ≡ ubox_at → ⊥

pub record DeviceFacts (d : Device) : Type 0 where
  -- the bits that every event word has: some of 23 to 16, and none below
  pub enabled_some : 0 < enabled_on d
  pub enabled_above : enabled_on d % 2 ^ 16 ≡ 0
  pub enabled_small : enabled_on d ≤ 0x7FFFFF
  -- a control register has them, and the 16 bits of code and unit mask
  pub enabled_permitted : only_bits (control_bits d) (enabled_on d) ≡ true
  -- pmi_en is none of them, and where something may be asked it is permitted with them
  pub pmi_off : bit 20 (enabled_on d) ≡ false
  pub pmi_on : overflow_on d ≡ true → bit 20 (enabled_on d + 2 ^ 20) ≡ true
  pub pmi_permitted : overflow_on d ≡ true → only_bits (control_bits d) (enabled_on d + 2 ^ 20) ≡ true
  pub low_permitted : every 16 (in_list (control_bits d)) ≡ true
  -- the global register has a bit for each counter, and from bit 32 on for each fixed counter
  pub enables : every (counter_count d) (in_list (global_bits d)) ≡ true
  pub fixed_enables_lem : every (fixed_count d) (λ k. in_list (global_bits d) (32 + k)) ≡ true
  -- listed codes and masks have 8 bits, and no listed code is that of a filter event
  pub events : table (filter_code d) (events_of d) ≡ true
  -- the writes of all counters, of the filter registers and of IA32_PEBS_ENABLE are within the limit
  pub filter_small : filter_room d ≤ 4
  pub write_room : 2 + 3 * counter_count d + filter_room d + pick (pebs_on d) 1 0 ≤ write_limit d false
  pub frame_room : overflow_on d ≡ true → 4 + 3 * counter_count d + filter_room d + pick (pebs_on d) 1 0 ≤ write_limit d true
  -- addresses have 16 bits, and a step is at most 2
  pub control_small : (layout_of d).control ≤ 0xFFFF
  pub counter_small : (layout_of d).counter ≤ 0xFFFF
  pub step_small : (layout_of d).step ≤ 2
  pub apart : Apart d

-- the address of a box's global control register
pub cbox_range : (b : ℕ) → (0x0D00 ≤ cbox_global b) × (cbox_global b ≤ 0x0DE0)
unfolding cbox_global cbox_globals
cbox_range zero = (omega arith, omega arith)
cbox_range (suc zero) = (omega arith, omega arith)
cbox_range (suc (suc zero)) = (omega arith, omega arith)
cbox_range (suc (suc (suc zero))) = (omega arith, omega arith)
cbox_range (suc (suc (suc (suc zero)))) = (omega arith, omega arith)
cbox_range (suc (suc (suc (suc (suc zero))))) = (omega arith, omega arith)
cbox_range (suc (suc (suc (suc (suc (suc zero)))))) = (omega arith, omega arith)
cbox_range (suc (suc (suc (suc (suc (suc (suc zero))))))) = (omega arith, omega arith)
cbox_range (suc (suc (suc (suc (suc (suc (suc (suc b)))))))) = (omega arith, omega arith)

-- a row of the table, whatever stands past it
row_any : (l : List ℕ) (i x y : ℕ) → i < length l → get_or l i x ≡ get_or l i y
row_any [] i x y l = absurd (omega arith)
row_any (a ∷ rest) zero x y l = refl
row_any (a ∷ rest) (suc i) x y l = row_any rest i x y (omega arith)

pub cbox_row : (b : ℕ) → b < 8 → get_or cbox_globals b 0 ≡ cbox_global b
unfolding cbox_global cbox_globals
cbox_row b l = row_any cbox_globals b 0 0x0D00 l

-- there are eight
pub cbox_past : (b : ℕ) → 8 ≤ b → cbox_global b ≡ 0x0D00
unfolding cbox_global cbox_globals
cbox_past b l = get_or-eq_default cbox_globals 0x0D00 l

pub facts : (d : Device) → DeviceFacts d
unfolding capacity counter_count fixed_count layout_of control_at counter_at_lem filters_at rsp0_at rsp1_at mm_cfg_at match_at mask_at ubox_at pebs_at enabled_on overflow_on control_bits global_bits field tabulate in_list bit only_bits every both either below_mask table all_below events_of architectural_events precise_events cbox_events sink_masks ring_masks starved_masks bypass_masks filter_code offcore_code filter_room pebs_on write_limit rising
facts G =
    record {
      enabled_some = omega arith;
      enabled_above = refl;
      enabled_small = omega arith;
      enabled_permitted = refl;
      pmi_off = refl;
      pmi_on = λ h. absurd (false≢true h);
      pmi_permitted = λ h. absurd (false≢true h);
      low_permitted = refl;
      enables = refl;
      fixed_enables_lem = refl;
      events = refl;
      filter_small = omega arith;
      write_room = omega arith;
      frame_room = λ h. absurd (false≢true h);
      control_small = omega arith;
      counter_small = omega arith;
      step_small = omega arith;
      apart = record {
        control_control = λ j k e. omega arith;
        counter_counter = λ j k e. omega arith;
        counter_control = λ j k a b e. omega arith;
        global_control = λ k a e. omega arith;
        global_counter = λ k a e. omega arith;
        filter_control = λ k a. cons {a = rsp0_at} (λ e. omega arith) (cons {a = rsp1_at} (λ e. omega arith) nil);
        filter_counter = λ k a. cons {a = rsp0_at} (λ e. omega arith) (cons {a = rsp1_at} (λ e. omega arith) nil);
        filter_global = cons {a = rsp0_at} (λ e. omega arith) (cons {a = rsp1_at} (λ e. omega arith) nil);
        ubox_global = λ e. omega arith;
        ubox_control = λ k l e. omega arith;
        ubox_counter = λ k l e. omega arith;
        ubox_filter = cons {a = rsp0_at} (λ e. omega arith) (cons {a = rsp1_at} (λ e. omega arith) nil);
        pebs_global = λ e. omega arith;
        pebs_control = λ k l e. omega arith;
        pebs_counter = λ k l e. omega arith;
        pebs_filter = cons {a = rsp0_at} (λ e. omega arith) (cons {a = rsp1_at} (λ e. omega arith) nil);
        pebs_ubox = λ e. omega arith;
      };
    }
facts S =
    record {
      enabled_some = omega arith;
      enabled_above = refl;
      enabled_small = omega arith;
      enabled_permitted = refl;
      pmi_off = refl;
      pmi_on = λ h. refl;
      pmi_permitted = λ h. refl;
      low_permitted = refl;
      enables = refl;
      fixed_enables_lem = refl;
      events = refl;
      filter_small = omega arith;
      write_room = omega arith;
      frame_room = λ h. omega arith;
      control_small = omega arith;
      counter_small = omega arith;
      step_small = omega arith;
      apart = record {
        control_control = λ j k e. omega arith;
        counter_counter = λ j k e. omega arith;
        counter_control = λ j k a b e. omega arith;
        global_control = λ k a e. omega arith;
        global_counter = λ k a e. omega arith;
        filter_control = λ k a. cons {a = mm_cfg_at} (λ e. omega arith) (cons {a = match_at} (λ e. omega arith) (cons {a = mask_at} (λ e. omega arith) nil));
        filter_counter = λ k a. cons {a = mm_cfg_at} (λ e. omega arith) (cons {a = match_at} (λ e. omega arith) (cons {a = mask_at} (λ e. omega arith) nil));
        filter_global = cons {a = mm_cfg_at} (λ e. omega arith) (cons {a = match_at} (λ e. omega arith) (cons {a = mask_at} (λ e. omega arith) nil));
        ubox_global = λ e. omega arith;
        ubox_control = λ k l e. omega arith;
        ubox_counter = λ k l e. omega arith;
        ubox_filter = cons {a = mm_cfg_at} (λ e. omega arith) (cons {a = match_at} (λ e. omega arith) (cons {a = mask_at} (λ e. omega arith) nil));
        pebs_global = λ e. omega arith;
        pebs_control = λ k l e. omega arith;
        pebs_counter = λ k l e. omega arith;
        pebs_filter = cons {a = mm_cfg_at} (λ e. omega arith) (cons {a = match_at} (λ e. omega arith) (cons {a = mask_at} (λ e. omega arith) nil));
        pebs_ubox = λ e. omega arith;
      };
    }
facts (C b) =
    record {
      enabled_some = omega arith;
      enabled_above = refl;
      enabled_small = omega arith;
      enabled_permitted = refl;
      pmi_off = refl;
      pmi_on = λ h. refl;
      pmi_permitted = λ h. refl;
      low_permitted = refl;
      enables = refl;
      fixed_enables_lem = refl;
      events = refl;
      filter_small = omega arith;
      write_room = omega arith;
      frame_room = λ h. omega arith;
      control_small = omega (arith, (cbox_range b).1);
      counter_small = omega (arith, (cbox_range b).1);
      step_small = omega arith;
      apart = record {
        control_control = λ j k e. omega arith;
        counter_counter = λ j k e. omega arith;
        counter_control = λ j k l m e. omega arith;
        global_control = λ k l e. omega arith;
        global_counter = λ k l e. omega arith;
        filter_control = λ k l. nil;
        filter_counter = λ k l. nil;
        filter_global = nil;
        ubox_global = λ e. omega (arith, (cbox_range b).0);
        ubox_control = λ k l e. omega (arith, (cbox_range b).0);
        ubox_counter = λ k l e. omega (arith, (cbox_range b).0);
        ubox_filter = nil;
        pebs_global = λ e. omega (arith, (cbox_range b).0);
        pebs_control = λ k l e. omega (arith, (cbox_range b).0);
        pebs_counter = λ k l e. omega (arith, (cbox_range b).0);
        pebs_filter = nil;
        pebs_ubox = λ e. omega arith;
      };
    }
facts B =
    record {
      enabled_some = omega arith;
      enabled_above = refl;
      enabled_small = omega arith;
      enabled_permitted = refl;
      pmi_off = refl;
      pmi_on = λ h. absurd (false≢true h);
      pmi_permitted = λ h. absurd (false≢true h);
      low_permitted = refl;
      enables = refl;
      fixed_enables_lem = refl;
      events = refl;
      filter_small = omega arith;
      write_room = omega arith;
      frame_room = λ h. absurd (false≢true h);
      control_small = omega arith;
      counter_small = omega arith;
      step_small = omega arith;
      apart = record {
        control_control = λ j k e. omega arith;
        counter_counter = λ j k e. omega arith;
        counter_control = λ j k l m e. omega arith;
        global_control = λ k l e. omega arith;
        global_counter = λ k l e. omega arith;
        filter_control = λ k l. nil;
        filter_counter = λ k l. nil;
        filter_global = nil;
        ubox_global = λ e. omega arith;
        ubox_control = λ k l e. omega arith;
        ubox_counter = λ k l e. omega arith;
        ubox_filter = nil;
        pebs_global = λ e. omega arith;
        pebs_control = λ k l e. omega arith;
        pebs_counter = λ k l e. omega arith;
        pebs_filter = nil;
        pebs_ubox = λ e. omega arith;
      };
    }

-- B alone has IA32_PEBS_ENABLE
pub pebs_of : (d : Device) → pebs_on d ≡ true → d ≡ B
unfolding pebs_on
pebs_of G h = absurd (false≢true h)
pebs_of S h = absurd (false≢true h)
pebs_of (C b) h = absurd (false≢true h)
pebs_of B h = refl

pub apart : (d : Device) → Apart d
apart d = (facts d).apart

-- arrays have room for the counters of a device
pub in_room : (d : Device) (k : ℕ) → k < counter_count d → k < capacity
in_room d k l = omega (arith, plan_length.device_at_most d)
