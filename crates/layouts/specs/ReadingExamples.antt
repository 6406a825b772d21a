-- Readings of values that plans leave, those of document 01's tries A and C among them, and of values that no plan leaves. All computed.
use Rattle.std.specs.Prelude.{◌≡◌, List, [], ◌∷◌, ◌++◌, map, ℕ, ◌-◌, length, replicate, Option, None, Some}
use Rattle.requests.specs.Refusals.{answer_number}
use Rattle.requests.specs.Devices.{capacity}
use Rattle.requests.specs.Askings.{unasked}
use Rattle.requests.specs.declared.Opening.{Opening}
use Rattle.layouts.specs.Read.{Reading, answer_of, read_of}
use Rattle.layouts.specs.Told.{Told, not_ours, off, counting, told_by}
use Rattle.layouts.specs.Examples.{set}
use Rattle.layouts.specs.declared.RegisterValues.{RegisterValues}

-- values on G: control values, RSP0 and RSP1, global control
abbrev on_g : List ℕ → ℕ → ℕ → ℕ → RegisterValues
on_g control w0 w1 g =
    record { control = control ++ 0 ∷ 0 ∷ 0 ∷ 0 ∷ []; filters = record { rsp0 = w0; rsp1 = w1; mm_cfg = 0; match_word = 0; mask_word = 0 }; global = g; ubox = 0; pebs = 0 }

-- values on S: control values, MM_CFG, MATCH and MASK, global control
abbrev on_s : List ℕ → ℕ → ℕ → ℕ → ℕ → RegisterValues
on_s control c x y g =
    record { control = control ++ 0 ∷ 0 ∷ 0 ∷ 0 ∷ []; filters = record { rsp0 = 0; rsp1 = 0; mm_cfg = c; match_word = x; mask_word = y }; global = g; ubox = 0; pebs = 0 }

-- values on C: control values, global control
abbrev on_c : List ℕ → ℕ → RegisterValues
on_c control g = record { control = control ++ 0 ∷ 0 ∷ []; filters = record { rsp0 = 0; rsp1 = 0; mm_cfg = 0; match_word = 0; mask_word = 0 }; global = g; ubox = 0; pebs = 0 }

-- values on B: control values, global control, IA32_PEBS_ENABLE
abbrev on_b : List ℕ → ℕ → ℕ → RegisterValues
on_b control g p =
    record { control = control ++ 0 ∷ 0 ∷ 0 ∷ 0 ∷ []; filters = record { rsp0 = 0; rsp1 = 0; mm_cfg = 0; match_word = 0; mask_word = 0 }; global = g; ubox = 0; pebs = p }

-- an opening, with register values
pub record Given : Type 0 where
  pub opening : Opening
  pub values : RegisterValues

-- the letter of a device, a usable set and fixed enables
abbrev given : ℕ → ℕ → ℕ → RegisterValues → Given
given letter usable fixed v = record { opening = record { device = letter; usable = set usable; fixed = fixed; cbox = 0; overflow = unasked }; values = v }

-- a C-Box and a usable set
abbrev given_box : ℕ → ℕ → RegisterValues → Given
given_box box usable v = record { opening = record { device = 67; usable = set usable; fixed = 0; cbox = box; overflow = unasked }; values = v }

-- the letter of a device whose first four counters are usable, a freeze and a core; control and global values, and that of the U-Box
abbrev asked : ℕ → ℕ → Option ℕ → ℕ → ℕ → ℕ → Given
asked letter freeze core first global ubox =
    record {
      opening = record { device = letter; usable = set 15; fixed = 0; cbox = 0; overflow = record { freeze = freeze; core = core } };
      values = record {
        control = first ∷ 0 ∷ 0 ∷ 0 ∷ 0 ∷ 0 ∷ 0 ∷ 0 ∷ [];
        filters = record { rsp0 = 0; rsp1 = 0; mm_cfg = 0; match_word = 0; mask_word = 0 };
        global = global;
        ubox = ubox;
        pebs = 0;
      };
    }

-- what the reader answers
unfoldable pub reading_for : Given → Reading
reading_for e = read_of e.opening e.values

-- what is given, and what is told of the device's counters
pub record AcceptedAs : Type 0 where
  pub given : Given
  pub tells : List Told

-- values that plans leave
unfoldable pub acceptances : List AcceptedAs
acceptances =
    -- try A's values: "off, or event with its filter register and words"
    record {
      given = given 71 15 0 (on_g (0x4300C0 ∷ 0x4301B7 ∷ 0x4302B7 ∷ 0 ∷ []) 0x4000000001 0x10001 7);
      tells = counting 0xC0 0x00 None [] ∷ counting 0xB7 0x01 (Some 0) (0x4000000001 ∷ []) ∷ counting 0xB7 0x02 (Some 1) (0x10001 ∷ []) ∷ off ∷ [];
    }
    -- try C's: two counters on RSP1 and one on RSP0
    ∷ record {
      given = given 71 15 0 (on_g (0x4302B7 ∷ 0x4301B7 ∷ 0x4302B7 ∷ 0 ∷ []) 0x4000000001 0x10001 7);
      tells = counting 0xB7 0x02 (Some 1) (0x10001 ∷ []) ∷ counting 0xB7 0x01 (Some 0) (0x4000000001 ∷ []) ∷ counting 0xB7 0x02 (Some 1) (0x10001 ∷ []) ∷ off ∷ [];
    }
    -- "Equal words may share" and need not: one word in both registers, a counter on each
    ∷ record {
      given = given 71 15 0 (on_g (0x4301B7 ∷ 0x4302B7 ∷ 0 ∷ 0 ∷ []) 0x10001 0x10001 3);
      tells = counting 0xB7 0x01 (Some 0) (0x10001 ∷ []) ∷ counting 0xB7 0x02 (Some 1) (0x10001 ∷ []) ∷ off ∷ off ∷ [];
    }
    -- order 1: L2_HIT in RSP0
    ∷ record {
      given = given 71 15 0 (on_g (0x4301B7 ∷ 0 ∷ 0 ∷ 0 ∷ []) 0x40001 0 1);
      tells = counting 0xB7 0x01 (Some 0) (0x40001 ∷ []) ∷ off ∷ off ∷ off ∷ [];
    }
    -- usable 14 on S: "An unusable counter is told as not ours", and its control value is not looked at
    ∷ record {
      given = given 83 14 0 (on_s (0xFFFF ∷ 0x400000 ∷ 0x400351 ∷ 0 ∷ []) 0x8000000000000000 0x0123456789ABCDEF 0x0000007F00000000 7);
      tells = not_ours ∷ counting 0x00 0x00 None (0x0123456789ABCDEF ∷ 0x0000007F00000000 ∷ []) ∷ counting 0x51 0x03 None [] ∷ off ∷ [];
    }
    -- all off; "nor are MATCH and MASK where MM_CFG is 0"
    ∷ record { given = given 83 15 0 (on_s (0 ∷ 0 ∷ 0 ∷ 0 ∷ []) 0 0xFFFFFFFFFFFFFFFF 0xFFFFFFFFFFFFFFFF 0); tells = off ∷ off ∷ off ∷ off ∷ [] }
    -- order 2: the number that the reader is given stands in bits 34:32
    ∷ record { given = given 71 15 5 (on_g (0 ∷ 0 ∷ 0 ∷ 0 ∷ []) 0 0 0x500000000); tells = off ∷ off ∷ off ∷ off ∷ [] }
    -- order 3: six control values and no filter registers
    ∷ record {
      given = given_box 7 63 (on_c (0x40180B ∷ 0x400019 ∷ 0 ∷ 0 ∷ 0 ∷ 0x40FF28 ∷ []) 0x23);
      tells = counting 0x0B 0x18 None [] ∷ counting 0x19 0x00 None [] ∷ off ∷ off ∷ off ∷ counting 0x28 0xFF None [] ∷ [];
    }
    ∷ record { given = given_box 1 48 (on_c (0xFFFF ∷ 0 ∷ 0 ∷ 0 ∷ 0x40001F ∷ 0 ∷ []) 0x1F); tells = not_ours ∷ not_ours ∷ not_ours ∷ not_ours ∷ counting 0x1F 0x00 None [] ∷ off ∷ [] }
    -- order 7: the value of the U-Box where a freeze is asked, and any value where nothing is
    ∷ record { given = asked 83 1 None 0x500052 1 0x90000000; tells = counting 0x52 0x00 None [] ∷ off ∷ off ∷ off ∷ [] }
    ∷ record { given = asked 83 0 None 0x400052 1 0xFFFFFFFF; tells = counting 0x52 0x00 None [] ∷ off ∷ off ∷ off ∷ [] }
    ∷ record { given = asked 71 0 None 0x4300C0 1 0x90000000; tells = counting 0xC0 0x00 None [] ∷ off ∷ off ∷ off ∷ [] }
    -- order 12: C0/01 in counter 1 alone; CD/02 in counter 3, beside others and with another usable set; neither, with C0/00 in counter 1
    ∷ record { given = given 66 15 0 (on_b (0 ∷ 0x4301C0 ∷ 0 ∷ 0 ∷ []) 2 2); tells = off ∷ counting 0xC0 0x01 None [] ∷ off ∷ off ∷ [] }
    ∷ record { given = given 66 15 0 (on_b (0x43003C ∷ 0 ∷ 0 ∷ 0x4302CD ∷ []) 9 0x8000000000000008); tells = counting 0x3C 0x00 None [] ∷ off ∷ off ∷ counting 0xCD 0x02 None [] ∷ [] }
    ∷ record { given = given 66 14 2 (on_b (0x4301C0 ∷ 0 ∷ 0 ∷ 0x4302CD ∷ []) 0x200000009 0x8000000000000008); tells = not_ours ∷ off ∷ off ∷ counting 0xCD 0x02 None [] ∷ [] }
    ∷ record { given = given 66 15 0 (on_b (0 ∷ 0x4300C0 ∷ 0 ∷ 0 ∷ []) 2 0); tells = off ∷ counting 0xC0 0x00 None [] ∷ off ∷ off ∷ [] }
    ∷ []

-- what is told of an example; the counters past the device's are not ours
unfoldable pub tells_of : AcceptedAs → List Told
tells_of e = e.tells ++ replicate (capacity - length e.tells) not_ours

-- what is given, and the number that refuses it
pub record RefusedAs : Type 0 where
  pub number : ℕ
  pub given : Given

-- a number, with what is given
abbrev refused_as_lem : ℕ → Given → RefusedAs
refused_as_lem n g = record { number = n; given = g }

-- values that no plan leaves, and openings that open refuses
unfoldable pub refusals : List RefusedAs
refusals =
    -- 3: "device unknown, or usable set 0 or above 15", also where the values would be 15
    refused_as_lem 3 (given 72 15 0 (on_g (0 ∷ 0 ∷ 0 ∷ 0 ∷ []) 0 0 0))
    ∷ refused_as_lem 3 (given 71 0 0 (on_g (0 ∷ 0 ∷ 0 ∷ 0 ∷ []) 0 0 15))
    ∷ refused_as_lem 3 (given 83 16 0 (on_s (1 ∷ 0 ∷ 0 ∷ 0 ∷ []) 1 0 0 0))
    -- "at least as many counters on RSP1 as on RSP0"
    ∷ refused_as_lem 15 (given 71 15 0 (on_g (0x4301B7 ∷ 0x4301B7 ∷ 0x4302B7 ∷ 0 ∷ []) 0x4000000001 0x10001 7))
    -- "a latency word needs the matching type with bit 16 in RSP1"
    ∷ refused_as_lem 15 (given 71 15 0 (on_g (0x4301B7 ∷ 0x4302B7 ∷ 0 ∷ 0 ∷ []) 0x4000000001 0x10002 3))
    -- a type is bits 15:0, so that 41FFFF0001 is no latency word though 41FFFF0001 - 2^38 + 2^16 = 200000001
    ∷ refused_as_lem 15 (given 71 15 0 (on_g (0x4301B7 ∷ 0x4302B7 ∷ 0 ∷ 0 ∷ []) 0x41FFFF0001 0x200000001 3))
    -- "on G an unused RSP must be 0"
    ∷ refused_as_lem 15 (given 71 15 0 (on_g (0x4300C0 ∷ 0 ∷ 0 ∷ 0 ∷ []) 0 0x10001 1))
    -- bit 31 is reserved
    ∷ refused_as_lem 15 (given 71 15 0 (on_g (0x4301B7 ∷ 0 ∷ 0 ∷ 0 ∷ []) 0x80010001 0 1))
    -- order 1: L2_HIT beside bit 16, and the reserved bit 17
    ∷ refused_as_lem 15 (given 71 15 0 (on_g (0x4301B7 ∷ 0 ∷ 0 ∷ 0 ∷ []) 0x50001 0 1))
    ∷ refused_as_lem 15 (given 71 15 0 (on_g (0x4301B7 ∷ 0 ∷ 0 ∷ 0 ∷ []) 0x20001 0 1))
    -- the event word has the user, OS and enable bits
    ∷ refused_as_lem 15 (given 71 15 0 (on_g (0x4100C0 ∷ 0 ∷ 0 ∷ 0 ∷ []) 0 0 1))
    -- the global value has unusable and used bits, and no others
    ∷ refused_as_lem 15 (given 71 14 0 (on_g (0 ∷ 0x4300C0 ∷ 0 ∷ 0 ∷ []) 0 0 2))
    ∷ refused_as_lem 15 (given 71 15 0 (on_g (0x4300C0 ∷ 0 ∷ 0 ∷ 0 ∷ []) 0 0 0x100000001))
    -- order 2: the reader "accepts only that value", and "refuses it with 3 where open would"
    ∷ refused_as_lem 15 (given 71 15 5 (on_g (0 ∷ 0 ∷ 0 ∷ 0 ∷ []) 0 0 0))
    ∷ refused_as_lem 15 (given 71 15 5 (on_g (0 ∷ 0 ∷ 0 ∷ 0 ∷ []) 0 0 0x700000000))
    ∷ refused_as_lem 3 (given 71 15 8 (on_g (0 ∷ 0 ∷ 0 ∷ 0 ∷ []) 0 0 0x800000000))
    ∷ refused_as_lem 3 (given 83 15 1 (on_s (0 ∷ 0 ∷ 0 ∷ 0 ∷ []) 0 0 0 0x100000000))
    -- MM_CFG is 2^63 where a counter counts packets, and otherwise 0
    ∷ refused_as_lem 15 (given 83 15 0 (on_s (0x400351 ∷ 0 ∷ 0 ∷ 0 ∷ []) 0x8000000000000000 5 6 1))
    ∷ refused_as_lem 15 (given 83 15 0 (on_s (0x400000 ∷ 0 ∷ 0 ∷ 0 ∷ []) 0 5 6 1))
    -- order 3: a box that document 004 does not have, a set above 63, a box on S; packets are not on C, and 0B has no mask 05
    ∷ refused_as_lem 3 (given_box 8 63 (on_c (0 ∷ 0 ∷ 0 ∷ 0 ∷ 0 ∷ 0 ∷ []) 0))
    ∷ refused_as_lem 3 (given_box 0 64 (on_c (0 ∷ 0 ∷ 0 ∷ 0 ∷ 0 ∷ 0 ∷ []) 0))
    ∷ refused_as_lem 3 (record { opening = record { device = 83; usable = set 15; fixed = 0; cbox = 1; overflow = unasked }; values = on_s (0 ∷ 0 ∷ 0 ∷ 0 ∷ []) 0 0 0 0 })
    ∷ refused_as_lem 15 (given_box 0 63 (on_c (0x400000 ∷ 0 ∷ 0 ∷ 0 ∷ 0 ∷ 0 ∷ []) 1))
    ∷ refused_as_lem 15 (given_box 0 63 (on_c (0x40050B ∷ 0 ∷ 0 ∷ 0 ∷ 0 ∷ 0 ∷ []) 1))
    ∷ refused_as_lem 15 (given_box 0 63 (on_c (0 ∷ 0 ∷ 0 ∷ 0 ∷ 0 ∷ 0 ∷ []) 0x40))
    -- order 5: a bit outside the fields of the mask register
    ∷ refused_as_lem 15 (given 83 15 0 (on_s (0x400000 ∷ 0 ∷ 0 ∷ 0 ∷ []) 0x8000000000000000 0 0x8000000000 1))
    -- order 7: another value of the U-Box; pmi_en left out, and where nothing is asked; "3 where opening would refuse them"
    ∷ refused_as_lem 15 (asked 83 1 None 0x500052 1 0x10000000)
    ∷ refused_as_lem 15 (asked 83 0 (Some 2) 0x500052 1 0x10000004)
    ∷ refused_as_lem 15 (asked 83 1 None 0x400052 1 0x90000000)
    ∷ refused_as_lem 15 (asked 83 0 None 0x500052 1 0)
    ∷ refused_as_lem 3 (asked 83 2 None 0x500052 1 0x90000000)
    ∷ refused_as_lem 3 (asked 83 1 (Some 8) 0x500052 1 0x90000000)
    ∷ refused_as_lem 3 (asked 71 1 None 0x4300C0 1 0x90000000)
    -- order 12: another value beside C0/01; another event beside it; in another counter; with another usable set
    ∷ refused_as_lem 15 (given 66 15 0 (on_b (0 ∷ 0x4301C0 ∷ 0 ∷ 0 ∷ []) 2 0))
    ∷ refused_as_lem 15 (given 66 15 0 (on_b (0 ∷ 0x4301C0 ∷ 0 ∷ 0 ∷ []) 2 0xA))
    ∷ refused_as_lem 15 (given 66 15 0 (on_b (0x4300C0 ∷ 0x4301C0 ∷ 0 ∷ 0 ∷ []) 3 2))
    ∷ refused_as_lem 15 (given 66 15 0 (on_b (0x4301C0 ∷ 0 ∷ 0 ∷ 0 ∷ []) 1 2))
    ∷ refused_as_lem 15 (given 66 15 0 (on_b (0x4301C0 ∷ 0 ∷ 0 ∷ 0 ∷ []) 1 0))
    ∷ refused_as_lem 15 (given 66 14 0 (on_b (0 ∷ 0x4301C0 ∷ 0 ∷ 0 ∷ []) 3 2))
    -- CD/02 without bit 63, and in another counter; a value without either; C0/01 is not on G, and open asks nothing of B
    ∷ refused_as_lem 15 (given 66 15 0 (on_b (0 ∷ 0 ∷ 0 ∷ 0x4302CD ∷ []) 8 8))
    ∷ refused_as_lem 15 (given 66 15 0 (on_b (0 ∷ 0 ∷ 0x4302CD ∷ 0 ∷ []) 4 0))
    ∷ refused_as_lem 15 (given 66 15 0 (on_b (0 ∷ 0 ∷ 0x4302CD ∷ 0 ∷ []) 4 0x8000000000000004))
    ∷ refused_as_lem 15 (given 66 15 0 (on_b (0x43003C ∷ 0 ∷ 0 ∷ 0 ∷ []) 1 0x8000000000000000))
    ∷ refused_as_lem 15 (given 71 15 0 (on_g (0 ∷ 0x4301C0 ∷ 0 ∷ 0 ∷ []) 0 0 2))
    ∷ refused_as_lem 3 (asked 66 1 None 0x43003C 1 0x90000000)
    ∷ []

pub record ReadingExamples : Type 0 where
  -- what each reading tells
  pub told_as : map (λ (e : AcceptedAs). told_by (reading_for e.given)) acceptances ≡ map tells_of acceptances
  -- the number of each refusal
  pub numbered : map (λ (e : RefusedAs). answer_number (answer_of (reading_for e.given))) refusals ≡ map (λ (e : RefusedAs). Some e.number) refusals
