-- Order 3: "Writes are S's without the filter registers." The list of any requests and places in a C-Box, beside that of the same session on S: the same writes in
-- the same order, each at its own offset from the global control register, but for the filter registers of S and for counters 4 and 5, which S does not have.
-- `CBoxAddresses` has the addresses, `RisingWrites` and `RestWhileWritten` where the writes of those two counters stand.
use Rattle.std.specs.Prelude.{◌≡◌, List, [], ◌∷◌, ℕ, ◌+◌, ◌*◌, ◌%◌, ◌<◌}
use Rattle.requests.specs.declared.Device.{Device}
use Rattle.requests.specs.declared.Device.TheVariants.{S, C}
use Rattle.requests.specs.declared.Setup.{Setup}
use Rattle.requests.specs.declared.Request.{Request}
use Rattle.plans.specs.declared.Place.{Place}
use Rattle.plans.specs.Lists.{Each}
use Rattle.layouts.specs.Layout.{layout_of}
use Rattle.layouts.specs.Writes.{Write, writes}
use Rattle.layouts.specs.PreciseEvents.{Without}

-- the session on another device
abbrev pub on_device : Device → Setup → Setup
on_device d s = record { device = d; usable = s.usable; fixed = s.fixed; overflow = s.overflow }

-- a write on S, and the same in a box whose global control register has the address g
pub data InBox (g : ℕ) : Write → Write → Type 0 where
  -- the same bits of counters 0 to 3
  global : {v w : ℕ} → v % 16 ≡ w % 16 → InBox g (0x0C40, v) (g, w)
  select : {k v : ℕ} → k < 4 → InBox g (0x0C50 + 2 * k, v) (g + 0x10 + 2 * k, v)
  count : {k v : ℕ} → k < 4 → InBox g (0x0C51 + 2 * k, v) (g + 0x11 + 2 * k, v)
  -- order 7's frame, which S and C share
  ubox : {v : ℕ} → InBox g (0x0C00, v) (0x0C00, v)

-- S_MSR_MM_CFG, MATCH and MASK
abbrev pub filters_of_s : List ℕ
filters_of_s = 0x0E48 ∷ 0x0E49 ∷ 0x0E4A ∷ []

-- the selects and counts of counters 4 and 5
abbrev pub four_and_five : ℕ → List ℕ
four_and_five g = (g + 0x18) ∷ (g + 0x19) ∷ (g + 0x1A) ∷ (g + 0x1B) ∷ []

pub record AsOnS (g : ℕ) (on_s_lem in_box : List Write) : Type 0 where
  pub theirs : List Write
  pub ours : List Write
  pub without_filters : Without filters_of_s on_s_lem theirs
  pub of_four_counters : Without (four_and_five g) in_box ours
  pub same : Each (InBox g) theirs ours

abbrev pub CBoxWrites : Type 0
CBoxWrites = (s : Setup) (b : ℕ) (rs : List Request) (ps : List Place) → AsOnS (layout_of (C b)).global (writes (on_device S s) rs ps) (writes (on_device (C b) s) rs ps)
