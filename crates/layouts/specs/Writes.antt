-- Document 01, 'Writes, in order', order 7's frame, and order 12's IA32_PEBS_ENABLE.
use Rattle.std.specs.Prelude.{List, [], ◌∷◌, ◌++◌, Bool, true, false, ℕ, zero, suc, ◌+◌, ◌*◌, ◌-◌, ◌%◌, ◌^◌, ltb, eqb, length, get_or, drop, replicate, Option, None, Some}
use Rattle.requests.specs.declared.CounterSet.{CounterSet}
use Rattle.requests.specs.declared.Device.{Device}
use Rattle.requests.specs.declared.Device.TheVariants.{G, S, C, B}
use Rattle.requests.specs.declared.Setup.{Setup}
use Rattle.requests.specs.declared.Request.{Request}
use Rattle.requests.specs.Choice.{pick}
use Rattle.requests.specs.Askings.{core_count, asked}
use Rattle.requests.specs.Devices.{has, counter_count, all_counters, fixed_count, capacity}
use Rattle.plans.specs.declared.Place.{Place}
use Rattle.layouts.specs.Layout.{layout_of, rsp0_at, rsp1_at, mm_cfg_at, match_at, mask_at, ubox_at, pebs_at, pebs_on, mm_enable, frz_all, en_all, core_sel, precise_store, is_event}
use Rattle.layouts.specs.Settings.{settings_of}
use Rattle.layouts.specs.declared.Settings.{Settings}

-- an address and a value
abbrev pub Write : Type 0
Write = ℕ × ℕ

-- one write, or none
abbrev pub row : Bool → ℕ → ℕ → List Write
row true address value = (address, value) ∷ []
row false address value = []

-- the writes of values to base + step * k for the counters k below n of the set, rising
unfoldable pub rows : ℕ → CounterSet → ℕ → ℕ → List ℕ → List Write
rows zero s base step values = []
rows (suc k) s base step values = rows k s base step values ++ row (has s k) (base + step * k) (get_or values k 0)

-- a 0 for each counter
unfoldable pub zeros : List ℕ
zeros = replicate capacity 0

-- the bits of unusable counters
unfoldable pub unusable : Setup → ℕ
unusable s = all_counters s.device - s.usable.0 % 2 ^ counter_count s.device

-- where the enables of the fixed counters begin: "bits 32 to 34 of 038F"
unfoldable pub fixed_at : ℕ
fixed_at = 32

-- the enables of the fixed counters, as the session was opened with them
unfoldable pub fixed_enables : Setup → ℕ
fixed_enables s = s.fixed % 2 ^ fixed_count s.device * 2 ^ fixed_at

-- the first value of the global control register: "with the bits of unusable counters", and with the fixed enables
unfoldable pub first_global : Setup → ℕ
first_global s = fixed_enables s + unusable s

-- the last one, for a set of used counters: "with unusable and used bits"
unfoldable pub last_global : Setup → ℕ → ℕ
last_global s used = first_global s + used % 2 ^ counter_count s.device

-- "01A6 then 01A7, 0 where unused"
unfoldable pub offcore_writes : ℕ → ℕ → List Write
offcore_writes w v = (rsp0_at, w) ∷ (rsp1_at, v) ∷ []

-- "if a packet request is taken, MM_CFG = 0, MATCH, MASK, MM_CFG = 2^63, otherwise MM_CFG = 0 alone"
unfoldable pub packet_writes : Option (ℕ × ℕ) → List Write
packet_writes (Some p) = (mm_cfg_at, 0) ∷ (match_at, p.0) ∷ (mask_at, p.1) ∷ (mm_cfg_at, 2 ^ mm_enable) ∷ []
packet_writes None = (mm_cfg_at, 0) ∷ []

-- the writes of the filter registers
unfoldable pub filter_writes : Device → Settings → List Write
filter_writes G t = offcore_writes t.rsp0 t.rsp1
filter_writes S t = packet_writes t.packet
filter_writes (C b) t = []
filter_writes B t = []

-- the value of IA32_PEBS_ENABLE beside the control words f: for INST_RETIRED.ALL "must use IA32_PMC1 .. and bit 1 in the IA32_PEBS_ENABLE set to 1";
-- for MEM_TRANS_RETIRED.PRECISE_STORE "Set IA32_PEBS_ENABLE[3] and IA32_PEBS_ENABLE[63]"; "0 .. when neither is taken"
unfoldable pub pebs_enable : (ℕ → ℕ) → ℕ
pebs_enable f = pick (is_event 0xC0 0x01 (f 1)) (2 ^ 1) 0 + pick (is_event 0xCD 0x02 (f 3)) (2 ^ 3 + 2 ^ precise_store) 0

-- the write of IA32_PEBS_ENABLE, where the device has it
unfoldable pub precise_writes : Device → Settings → List Write
precise_writes d t = row (pebs_on d) pebs_at (pebs_enable (λ k. get_or t.words k 0))

-- the bit of a core in pmi_core_sel
unfoldable pub core_bit : Option ℕ → ℕ
core_bit None = 0
core_bit (Some c) = pick (ltb c core_count) (2 ^ (core_sel + c)) 0

-- the last value of the U-Box: "en_all and what was asked there"
unfoldable pub ubox_value : Setup → ℕ
ubox_value s = 2 ^ en_all + pick (eqb s.overflow.freeze 0) 0 (2 ^ frz_all) + core_bit s.overflow.core

-- the list of the device's own registers: global control with its first value; control 0 for usable k; the filter registers;
-- count 0 for used k; control for used k; IA32_PEBS_ENABLE; global control with its last value
unfoldable pub box_writes : Setup → Settings → List Write
box_writes s t =
    let n = counter_count s.device in
    let l = layout_of s.device in
    ((l.global, first_global s) ∷ [])
    ++ rows n s.usable l.control l.step zeros
    ++ filter_writes s.device t
    ++ rows n t.used l.counter l.step zeros
    ++ rows n t.used l.control l.step t.words
    ++ precise_writes s.device t
    ++ ((l.global, last_global s t.used.0) ∷ [])

-- the list for register values: where something is asked it "begins with U_MSR_PMON_GLOBAL_CTL = 0 and ends with en_all and what was asked there"
unfoldable pub writes_for : Setup → Settings → List Write
writes_for s t = row (asked s) ubox_at 0 ++ box_writes s t ++ row (asked s) ubox_at (ubox_value s)

-- the write list of a plan
unfoldable pub writes : Setup → List Request → List Place → List Write
writes s rs ps = writes_for s (settings_of s rs ps)

-- "address then value"
unfoldable pub flat : List Write → List ℕ
flat [] = []
flat (w ∷ ws) = w.0 ∷ w.1 ∷ flat ws

-- what a slice then holds: "numbers past the list stay"
unfoldable pub filled : List Write → List ℕ → List ℕ
filled ws out = flat ws ++ drop (2 * length ws) out

-- registers after one write
abbrev pub store : Write → (ℕ → ℕ) → ℕ → ℕ
store w r a = pick (eqb w.0 a) w.1 (r a)

-- registers after a list of writes
unfoldable pub apply : List Write → (ℕ → ℕ) → ℕ → ℕ
apply [] r = r
apply (w ∷ ws) r = apply ws (store w r)
