-- The permitted bits of every register that has reserved ones, each register's together as one word: no other bit passes as published.
use Rattle.std.specs.Prelude.{◌≡◌, List, [], ◌∷◌, map, ℕ, ◌+◌}
use Rattle.requests.specs.declared.Device.{Device}
use Rattle.requests.specs.declared.Device.TheVariants.{G, S, C, B}
use Rattle.requests.specs.Bits.{in_list}
use Rattle.layouts.specs.Layout.{cbox_global, Register, registers_of}
use Rattle.layouts.specs.Settings.{set_from}

-- address and permitted bits
unfoldable pub permitted_of : Device → List (ℕ × ℕ)
permitted_of G =
    -- IA32_PERF_GLOBAL_CTRL: 3:0 and 34:32
    (0x038F, 0x000000070000000F)
    -- document 01: "The permitted bits together are 000000760001FFBF", and order 1's bit 18; on RSP1 without bit 38
    ∷ (0x01A6, 0x000000760005FFBF)
    ∷ (0x01A7, 0x000000360005FFBF)
    -- IA32_PERFEVTSELk: 31:0 "except bit 21" (000), which is AnyThread
    ∷ (0x0186, 0x00000000FFDFFFFF)
    ∷ (0x0187, 0x00000000FFDFFFFF)
    ∷ (0x0188, 0x00000000FFDFFFFF)
    ∷ (0x0189, 0x00000000FFDFFFFF)
    ∷ []
permitted_of S =
    -- 004, table 2-27: ctr_en 3:0
    (0x0C40, 0x000000000000000F)
    -- 004, 2.5.3.4: bit 63
    ∷ (0x0E48, 0x8000000000000000)
    -- 004, table 2-33, whose rows are lost: no bit is known to lie outside a field
    ∷ (0x0E49, 0xFFFFFFFFFFFFFFFF)
    -- 004, table 2-35: addr 38:1, hnid 0
    ∷ (0x0E4A, 0x0000007FFFFFFFFF)
    -- U-Box: frz_all 31 (004, table 2-2), en_all 28 (kernel driver), pmi_core_sel 8:1 (eight cores, from the kernel driver's bit on)
    ∷ (0x0C00, 0x00000000900001FE)
    -- 004, table 2-30: 31:0 without the ignored bits 16, 19 and 21
    ∷ (0x0C50, 0x00000000FFD6FFFF)
    ∷ (0x0C52, 0x00000000FFD6FFFF)
    ∷ (0x0C54, 0x00000000FFD6FFFF)
    ∷ (0x0C56, 0x00000000FFD6FFFF)
    ∷ []
permitted_of (C b) =
    -- 004, table 2-10: ctr_en 5:0
    let global = cbox_global b in
    (global, 0x000000000000003F)
    -- U-Box
    ∷ (0x0C00, 0x00000000900001FE)
    -- 004, table 2-13: 31:0 without the ignored bits 16, 17, 19 and 21
    ∷ (global + 0x10, 0x00000000FFD4FFFF)
    ∷ (global + 0x12, 0x00000000FFD4FFFF)
    ∷ (global + 0x14, 0x00000000FFD4FFFF)
    ∷ (global + 0x16, 0x00000000FFD4FFFF)
    ∷ (global + 0x18, 0x00000000FFD4FFFF)
    ∷ (global + 0x1A, 0x00000000FFD4FFFF)
    ∷ []
permitted_of B =
    -- as on G
    (0x038F, 0x000000070000000F)
    -- IA32_PEBS_ENABLE: 1 (003, 18.9.4.4), 3 and 63 (003, page 18-57)
    ∷ (0x03F1, 0x800000000000000A)
    ∷ (0x0186, 0x00000000FFDFFFFF)
    ∷ (0x0187, 0x00000000FFDFFFFF)
    ∷ (0x0188, 0x00000000FFDFFFFF)
    ∷ (0x0189, 0x00000000FFDFFFFF)
    ∷ []

-- the word that has the bits of the list
unfoldable pub bits_together : List ℕ → ℕ
bits_together ks = set_from 64 0 (in_list ks)

abbrev pub PermittedBits : Type 0
PermittedBits = (d : Device) → map (λ (r : Register). (r.0, bits_together r.1)) (registers_of d) ≡ permitted_of d
