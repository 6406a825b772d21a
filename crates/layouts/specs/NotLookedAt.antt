-- "Control values of unusable counters are not looked at, nor are MATCH and MASK where MM_CFG is 0." Order 7: "the U-Box value, which it checks
-- only where something is asked". Order 12: of IA32_PEBS_ENABLE it is given the value, which it looks at on B.
use Rattle.std.specs.Prelude.{◌≡◌, ◌⊎◌, true, ℕ, get_or, Some}
use Rattle.requests.specs.declared.Device.{Device}
use Rattle.requests.specs.declared.Device.TheVariants.{G, S, C, B}
use Rattle.requests.specs.declared.Opening.{Opening}
use Rattle.requests.specs.declared.Setup.{Setup}
use Rattle.requests.specs.Askings.{asked}
use Rattle.requests.specs.Devices.{setup_of}
use Rattle.plans.specs.Legal.{Usable}
use Rattle.layouts.specs.Read.{read_of}
use Rattle.layouts.specs.declared.FilterValues.{FilterValues}
use Rattle.layouts.specs.declared.RegisterValues.{RegisterValues}

-- equal filter values, as far as they are looked at; those of other devices are not
abbrev pub SameFilters : Device → FilterValues → FilterValues → Type 0
SameFilters G v w = (v.rsp0 ≡ w.rsp0) × (v.rsp1 ≡ w.rsp1)
SameFilters S v w = (v.mm_cfg ≡ w.mm_cfg) × ((v.mm_cfg ≡ 0) ⊎ ((v.match_word ≡ w.match_word) × (v.mask_word ≡ w.mask_word)))
SameFilters (C b) v w = Unit {0}
SameFilters B v w = Unit {0}

-- equal values, as far as they are looked at
pub record SameLookedAt (s : Setup) (v w : RegisterValues) : Type 0 where
  pub control : (k : ℕ) → Usable s k → get_or v.control k 0 ≡ get_or w.control k 0
  pub filters : SameFilters s.device v.filters w.filters
  pub global : v.global ≡ w.global
  pub ubox : asked s ≡ true → v.ubox ≡ w.ubox
  pub pebs : s.device ≡ B → v.pebs ≡ w.pebs

-- the answer depends on nothing else
abbrev pub NotLookedAt : Type 0
NotLookedAt = (o : Opening) (s : Setup) (v w : RegisterValues) → setup_of o ≡ Some s → SameLookedAt s v w → read_of o v ≡ read_of o w
