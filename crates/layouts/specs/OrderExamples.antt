-- Plans of orders 3, 7 and 12: whole write lists, computed.
use Rattle.std.specs.Prelude.{◌≡◌, List, [], ◌∷◌, map, ℕ, Option, Some}
use Rattle.requests.specs.declared.Device.{Device}
use Rattle.requests.specs.declared.Device.TheVariants.{S, C, B}
use Rattle.requests.specs.declared.Setup.{Setup}
use Rattle.requests.specs.declared.Request.TheVariants.{Event, Packet}
use Rattle.plans.specs.declared.Place.TheVariants.{Counter}
use Rattle.layouts.specs.Examples.{all, set, opened, Plan, writes_of}

-- a device with a usable set, a freeze and a core
abbrev asking : Device → ℕ → ℕ → Option ℕ → Setup
asking d usable freeze core = record { device = d; usable = set usable; fixed = 0; overflow = record { freeze = freeze; core = core } }

-- plans on C, plans that ask something, and plans on B
unfoldable pub order_plans : List Plan
order_plans =
    -- order 3: "Writes are S's without the filter registers". C-Box 7: TRANS_IRQ takes counter 1, STARVED_EGRESS with mask 18 counter 0
    record {
      setup = opened (C 7) 63 0;
      requests = Event 0x19 0x00 (set 63) ∷ Event 0x0B 0x18 (set 1) ∷ [];
      places = Counter 1 ∷ Counter 0 ∷ [];
      written =
          (0x0DE0, 0x0000000000000000)
          ∷ (0x0DF0, 0x0000000000000000)
          ∷ (0x0DF2, 0x0000000000000000)
          ∷ (0x0DF4, 0x0000000000000000)
          ∷ (0x0DF6, 0x0000000000000000)
          ∷ (0x0DF8, 0x0000000000000000)
          ∷ (0x0DFA, 0x0000000000000000)
          ∷ (0x0DF1, 0x0000000000000000)
          ∷ (0x0DF3, 0x0000000000000000)
          ∷ (0x0DF0, 0x000000000040180B)
          ∷ (0x0DF2, 0x0000000000400019)
          ∷ (0x0DE0, 0x0000000000000003)
          ∷ [];
    }
    -- C-Box 1 with usable 48: TRANS_MAF takes counter 4
    ∷ record {
      setup = opened (C 1) 48 0;
      requests = Event 0x1F 0x00 (set 63) ∷ [];
      places = Counter 4 ∷ [];
      written =
          (0x0D80, 0x000000000000000F)
          ∷ (0x0D98, 0x0000000000000000)
          ∷ (0x0D9A, 0x0000000000000000)
          ∷ (0x0D99, 0x0000000000000000)
          ∷ (0x0D98, 0x000000000040001F)
          ∷ (0x0D80, 0x000000000000001F)
          ∷ [];
    }
    -- order 7: S with freeze 1 and core 2
    ∷ record {
      setup = asking S 15 1 (Some 2);
      requests = Event 0x52 0x00 all ∷ [];
      places = Counter 0 ∷ [];
      written =
          (0x0C00, 0x0000000000000000)
          ∷ (0x0C40, 0x0000000000000000)
          ∷ (0x0C50, 0x0000000000000000)
          ∷ (0x0C52, 0x0000000000000000)
          ∷ (0x0C54, 0x0000000000000000)
          ∷ (0x0C56, 0x0000000000000000)
          ∷ (0x0E48, 0x0000000000000000)
          ∷ (0x0C51, 0x0000000000000000)
          ∷ (0x0C50, 0x0000000000500052)
          ∷ (0x0C40, 0x0000000000000001)
          ∷ (0x0C00, 0x0000000090000008)
          ∷ [];
    }
    -- S with core 0 alone: a packet on counter 1
    ∷ record {
      setup = asking S 2 0 (Some 0);
      requests = Packet 0x0123456789ABCDEF 0x0000007F00000000 all ∷ [];
      places = Counter 1 ∷ [];
      written =
          (0x0C00, 0x0000000000000000)
          ∷ (0x0C40, 0x000000000000000D)
          ∷ (0x0C52, 0x0000000000000000)
          ∷ (0x0E48, 0x0000000000000000)
          ∷ (0x0E49, 0x0123456789ABCDEF)
          ∷ (0x0E4A, 0x0000007F00000000)
          ∷ (0x0E48, 0x8000000000000000)
          ∷ (0x0C53, 0x0000000000000000)
          ∷ (0x0C52, 0x0000000000500000)
          ∷ (0x0C40, 0x000000000000000F)
          ∷ (0x0C00, 0x0000000010000002)
          ∷ [];
    }
    -- C-Box 0 with usable 1 and core 7: the empty plan
    ∷ record {
      setup = asking (C 0) 1 0 (Some 7);
      requests = [];
      places = [];
      written =
          (0x0C00, 0x0000000000000000)
          ∷ (0x0D00, 0x000000000000003E)
          ∷ (0x0D10, 0x0000000000000000)
          ∷ (0x0D00, 0x000000000000003E)
          ∷ (0x0C00, 0x0000000010000100)
          ∷ [];
    }
    -- freeze alone, and a core that open refuses: no bit of it
    ∷ record {
      setup = asking (C 7) 1 1 (Some 8);
      requests = [];
      places = [];
      written =
          (0x0C00, 0x0000000000000000)
          ∷ (0x0DE0, 0x000000000000003E)
          ∷ (0x0DF0, 0x0000000000000000)
          ∷ (0x0DE0, 0x000000000000003E)
          ∷ (0x0C00, 0x0000000090000000)
          ∷ [];
    }
    -- order 12: C0/00 takes counter 0 and CD/02 counter 3
    ∷ record {
      setup = opened B 15 0;
      requests = Event 0xC0 0x00 all ∷ Event 0xCD 0x02 (set 8) ∷ [];
      places = Counter 0 ∷ Counter 3 ∷ [];
      written =
          (0x038F, 0x0000000000000000)
          ∷ (0x0186, 0x0000000000000000)
          ∷ (0x0187, 0x0000000000000000)
          ∷ (0x0188, 0x0000000000000000)
          ∷ (0x0189, 0x0000000000000000)
          ∷ (0x00C1, 0x0000000000000000)
          ∷ (0x00C4, 0x0000000000000000)
          ∷ (0x0186, 0x00000000004300C0)
          ∷ (0x0189, 0x00000000004302CD)
          ∷ (0x03F1, 0x8000000000000008)
          ∷ (0x038F, 0x0000000000000009)
          ∷ [];
    }
    -- C0/01 takes counter 1, beside fixed enables
    ∷ record {
      setup = opened B 15 7;
      requests = Event 0xC0 0x01 all ∷ [];
      places = Counter 1 ∷ [];
      written =
          (0x038F, 0x0000000700000000)
          ∷ (0x0186, 0x0000000000000000)
          ∷ (0x0187, 0x0000000000000000)
          ∷ (0x0188, 0x0000000000000000)
          ∷ (0x0189, 0x0000000000000000)
          ∷ (0x00C2, 0x0000000000000000)
          ∷ (0x0187, 0x00000000004301C0)
          ∷ (0x03F1, 0x0000000000000002)
          ∷ (0x038F, 0x0000000700000002)
          ∷ [];
    }
    -- "0 is written there when neither is taken": in the empty plan, and beside another event of counter 1
    ∷ record {
      setup = opened B 15 0;
      requests = [];
      places = [];
      written =
          (0x038F, 0x0000000000000000)
          ∷ (0x0186, 0x0000000000000000)
          ∷ (0x0187, 0x0000000000000000)
          ∷ (0x0188, 0x0000000000000000)
          ∷ (0x0189, 0x0000000000000000)
          ∷ (0x03F1, 0x0000000000000000)
          ∷ (0x038F, 0x0000000000000000)
          ∷ [];
    }
    ∷ record {
      setup = opened B 14 0;
      requests = Event 0xC0 0x00 all ∷ [];
      places = Counter 1 ∷ [];
      written =
          (0x038F, 0x0000000000000001)
          ∷ (0x0187, 0x0000000000000000)
          ∷ (0x0188, 0x0000000000000000)
          ∷ (0x0189, 0x0000000000000000)
          ∷ (0x00C2, 0x0000000000000000)
          ∷ (0x0187, 0x00000000004300C0)
          ∷ (0x03F1, 0x0000000000000000)
          ∷ (0x038F, 0x0000000000000003)
          ∷ [];
    }
    ∷ []

pub record OrderExamples : Type 0 where
  -- each plan's write list, whole and in order
  pub written : map writes_of order_plans ≡ map (λ (p : Plan). p.written) order_plans
