-- Register tables: addresses, and the bits of each layout. G and B: SDM volume 3, documents 001 to 003. S: document 004, section 2.5, but for
-- the addresses of MM_CFG, MATCH and MASK, which our extract of 004 lacks: they are the kernel driver's (docs/DECISIONS.md, 1).
-- C: document 004, section 2.3, where our extract has GLOBAL_CTL and EVT_SEL0 of box 0; the rest is the kernel driver's.
-- U-Box, which S and C share: document 004, section 2.1, and for the places of en_all and pmi_core_sel the kernel driver.
use Rattle.std.specs.Prelude.{List, [], ◌∷◌, ◌++◌, Bool, true, false, ℕ, zero, suc, ◌+◌, ◌*◌, ◌/◌, ◌%◌, ◌^◌, eqb, get_or}
use Rattle.requests.specs.Choice.{both, pick}
use Rattle.requests.specs.declared.Device.{Device}
use Rattle.requests.specs.declared.Device.TheVariants.{G, S, C, B}
use Rattle.requests.specs.declared.Setup.{Setup}
use Rattle.requests.specs.Bits.{rsp0_bits, rsp1_bits, field, match_bits, mask_bits}
use Rattle.requests.specs.Askings.{asked}
use Rattle.requests.specs.Devices.{counter_count}
use Rattle.layouts.specs.declared.Layout.{Layout}

-- what f gives for each number below n, rising
unfoldable pub tabulate : {A : Type 0} → ℕ → (ℕ → A) → List A
tabulate zero f = []
tabulate (suc k) f = tabulate k f ++ (f k ∷ [])

-- ---- addresses

-- CBx_CR_C_MSR_PMON_GLOBAL_CTL of each C-Box
unfoldable pub cbox_globals : List ℕ
cbox_globals =
    0x0D00  -- box 0: document 004, 2.3.3
    ∷ 0x0D80  -- box 1: kernel driver, as all that follow
    ∷ 0x0D40  -- box 2
    ∷ 0x0DC0  -- box 3
    ∷ 0x0D20  -- box 4
    ∷ 0x0DA0  -- box 5
    ∷ 0x0D60  -- box 6
    ∷ 0x0DE0  -- box 7
    ∷ []

-- that of the box of a number; open takes none above 7, for which the row of box 0 stands
unfoldable pub cbox_global : ℕ → ℕ
cbox_global b = get_or cbox_globals b 0x0D00

-- G and B: IA32_PERF_GLOBAL_CTRL, IA32_PERFEVTSEL0, IA32_PMC0. S: S_MSR_PMON_GLOBAL_CTL, S_MSR_PMON_CTL0, S_MSR_PMON_CTR0.
-- C: CBx_CR_C_MSR_PMON_GLOBAL_CTL, .._EVT_SEL_0, .._CTR_0
unfoldable pub layout_of : Device → Layout
layout_of G = record { global = 0x038F; control = 0x0186; counter = 0x00C1; step = 1 }
layout_of S = record { global = 0x0C40; control = 0x0C50; counter = 0x0C51; step = 2 }
layout_of (C b) = record { global = cbox_global b; control = cbox_global b + 0x10; counter = cbox_global b + 0x11; step = 2 }
layout_of B = record { global = 0x038F; control = 0x0186; counter = 0x00C1; step = 1 }

-- the control register of counter k
unfoldable pub control_at : Device → ℕ → ℕ
control_at d k = (layout_of d).control + (layout_of d).step * k

-- its count
unfoldable pub counter_at_lem : Device → ℕ → ℕ
counter_at_lem d k = (layout_of d).counter + (layout_of d).step * k

-- MSR_OFFCORE_RSP0
unfoldable pub rsp0_at : ℕ
rsp0_at = 0x01A6

-- MSR_OFFCORE_RSP1
unfoldable pub rsp1_at : ℕ
rsp1_at = 0x01A7

-- S_MSR_MM_CFG (kernel driver)
unfoldable pub mm_cfg_at : ℕ
mm_cfg_at = 0x0E48

-- S_MSR_MATCH (kernel driver)
unfoldable pub match_at : ℕ
match_at = 0x0E49

-- S_MSR_MASK (kernel driver)
unfoldable pub mask_at : ℕ
mask_at = 0x0E4A

-- U_MSR_PMON_GLOBAL_CTL (document 004, table 2-1)
unfoldable pub ubox_at : ℕ
ubox_at = 0x0C00

-- IA32_PEBS_ENABLE, of B (order 12)
unfoldable pub pebs_at : ℕ
pebs_at = 0x03F1

-- whether the device has it
unfoldable pub pebs_on : Device → Bool
pebs_on G = false
pebs_on S = false
pebs_on (C b) = false
pebs_on B = true

-- the filter registers of the device
unfoldable pub filters_at : Device → List ℕ
filters_at G = rsp0_at ∷ rsp1_at ∷ []
filters_at S = mm_cfg_at ∷ match_at ∷ mask_at ∷ []
filters_at (C b) = []
filters_at B = []

-- ---- fields

-- what a control register has. G and B: event 7:0, unit mask 15:8, USR, OS, E, PC, INT 20:16, EN, INV, CMASK 31:22.
-- S: ev_sel 7:0, umask 15:8, reset_occ_cnt 17, edge_detect 18, pmi_en 20, enable 22, invert 23, threshold 31:24.
-- C (table 2-13): ev_sel 7:0, umask 15:8, edge_detect 18, pmi_en 20, en 22, invert 23, threshold 31:24
unfoldable pub control_bits : Device → List ℕ
control_bits G = field 7 0 ++ field 15 8 ++ field 20 16 ++ field 31 22
control_bits S = field 7 0 ++ field 15 8 ++ field 18 17 ++ field 20 20 ++ field 22 22 ++ field 23 23 ++ field 31 24
control_bits (C b) = field 7 0 ++ field 15 8 ++ field 18 18 ++ field 20 20 ++ field 22 22 ++ field 23 23 ++ field 31 24
control_bits B = field 7 0 ++ field 15 8 ++ field 20 16 ++ field 31 22

-- what the global control register has. G and B: general counters 3:0, fixed counters 34:32. S: ctr_en 3:0. C (table 2-10): ctr_en 5:0
unfoldable pub global_bits : Device → List ℕ
global_bits G = field 3 0 ++ field 34 32
global_bits S = field 3 0
global_bits (C b) = field 5 0
global_bits B = field 3 0 ++ field 34 32

-- MM_CFG: enable (004, 2.5.3.4: "reg bit 63")
unfoldable pub mm_enable : ℕ
mm_enable = 63

-- U_MSR_PMON_GLOBAL_CTL: frz_all (004, table 2-2), en_all (kernel driver)
unfoldable pub frz_all : ℕ
frz_all = 31

unfoldable pub en_all : ℕ
en_all = 28

-- pmi_core_sel: "00000001 is core 0, 10000000 core 7"; its lowest bit is the kernel driver's
unfoldable pub core_sel : ℕ
core_sel = 1

-- what a session may write of it: frz_all 31, en_all 28, pmi_core_sel 8:1; rst_all and the enable of the U-Box's own counter are never asked
unfoldable pub ubox_bits : List ℕ
ubox_bits = field 31 31 ++ field 28 28 ++ field 8 1

-- IA32_PEBS_ENABLE: the facility of precise stores (003, page 18-57); the bit of a counter is its number
unfoldable pub precise_store : ℕ
precise_store = 63

-- what a session may write of it: the bits of counters 1 and 3, and 63
unfoldable pub pebs_bits : List ℕ
pebs_bits = field 1 1 ++ field 3 3 ++ field 63 63

-- ---- control words

-- the bits that every event word of a device has. G and B: USR 16, OS 17, EN 22. S: enable 22. C: en 22
unfoldable pub enabled_on : Device → ℕ
enabled_on G = 0x430000
enabled_on S = 0x400000
enabled_on (C b) = 0x400000
enabled_on B = 0x430000

-- pmi_en of a control register (004, tables 2-13 and 2-30)
unfoldable pub pmi_enable : ℕ
pmi_enable = 20

-- the bits that every event word of a session has: "pmi_en in the counter's control register" where something is asked
unfoldable pub enabled : Setup → ℕ
enabled s = enabled_on s.device + pick (asked s) (2 ^ pmi_enable) 0

-- "The event word is 430000 + 100 × mask + code (all hex: user, OS and enable bits)", on S and C 400000 + 100 × mask + code,
-- and 500000 + .. where something is asked
unfoldable pub event_word : Setup → ℕ → ℕ → ℕ
event_word s c m = enabled s + 0x100 * m + c

-- the code in a control word
unfoldable pub code_of : ℕ → ℕ
code_of w = w % 0x100

-- the unit mask in a control word
unfoldable pub mask_of : ℕ → ℕ
mask_of w = w / 0x100 % 0x100

-- whether the control word has the event
unfoldable pub is_event : ℕ → ℕ → ℕ → Bool
is_event c m w = both (eqb (code_of w) c) (eqb (mask_of w) m)

-- the event of the RSP registers
unfoldable pub offcore_code : ℕ
offcore_code = 0xB7

-- "Event B7 with unit mask 01 uses MSR_OFFCORE_RSP0, with 02 RSP1": the unit mask of RSP register i (0, or else 1)
unfoldable pub rsp_mask : ℕ → ℕ
rsp_mask i = pick (eqb i 0) 1 2

-- the control word of a counter on RSP register i
unfoldable pub rsp_word : Setup → ℕ → ℕ
rsp_word s i = event_word s offcore_code (rsp_mask i)

-- packet: "Event code 0, unit mask 0"
unfoldable pub packet_word : Setup → ℕ
packet_word s = event_word s 0 0

-- ---- reserved bits

-- a register with the bits of its layout
abbrev pub Register : Type 0
Register = ℕ × List ℕ

-- each register with reserved bits. (Counts are zeroed.)
unfoldable pub registers_of : Device → List Register
registers_of G =
    ((layout_of G).global, global_bits G) ∷ (rsp0_at, rsp0_bits) ∷ (rsp1_at, rsp1_bits) ∷ tabulate (counter_count G) (λ k. (control_at G k, control_bits G))
registers_of S =
    ((layout_of S).global, global_bits S)
    ∷ (mm_cfg_at, mm_enable ∷ [])
    ∷ (match_at, match_bits)
    ∷ (mask_at, mask_bits)
    ∷ (ubox_at, ubox_bits)
    ∷ tabulate (counter_count S) (λ k. (control_at S k, control_bits S))
registers_of (C b) =
    ((layout_of (C b)).global, global_bits (C b)) ∷ (ubox_at, ubox_bits) ∷ tabulate (counter_count (C b)) (λ k. (control_at (C b) k, control_bits (C b)))
registers_of B = ((layout_of B).global, global_bits B) ∷ (pebs_at, pebs_bits) ∷ tabulate (counter_count B) (λ k. (control_at B k, control_bits B))
