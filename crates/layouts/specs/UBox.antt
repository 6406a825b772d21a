-- Order 7: "The write list begins with U_MSR_PMON_GLOBAL_CTL = 0 and ends with en_all and what was asked there"; "a session that asks for neither
-- keeps the old list, and only there the U-Box's enable stays with the host". The reader is given "the U-Box value, which it checks only where
-- something is asked".
use Rattle.std.specs.Prelude.{◌≡◌, ◌≢◌, List, [], ◌∷◌, ◌++◌, map, not, ℕ, ◌+◌, ◌*◌, eqb, get_or, Option, None, Some}
use Rattle.requests.specs.declared.Overflow.{Overflow}
use Rattle.requests.specs.declared.Opening.{Opening}
use Rattle.requests.specs.declared.Setup.{Setup}
use Rattle.requests.specs.declared.Request.{Request}
use Rattle.requests.specs.Choice.{both, pick}
use Rattle.requests.specs.Refusals.{answer_number}
use Rattle.requests.specs.Bits.{bit, in_list}
use Rattle.requests.specs.Askings.{unasked, asked}
use Rattle.requests.specs.Devices.{counter_count, setup_of}
use Rattle.requests.specs.Openings.{NothingAsked}
use Rattle.plans.specs.declared.Place.{Place}
use Rattle.plans.specs.Lists.{All}
use Rattle.plans.specs.Legal.{Legal, Usable}
use Rattle.layouts.specs.Layout.{tabulate, control_at}
use Rattle.layouts.specs.Writes.{Write, writes}
use Rattle.layouts.specs.Read.{answer_of, read_of}
use Rattle.layouts.specs.declared.RegisterValues.{RegisterValues}

-- the same session, with nothing asked
unfoldable pub asking_nothing : Setup → Setup
asking_nothing s = record { device = s.device; usable = s.usable; fixed = s.fixed; overflow = unasked }

-- "pmi_en in the counter's control register": a write that switches a counter on, with bit 20
unfoldable pub with_pmi : Setup → Write → Write
with_pmi s w =
    pick (both (in_list (tabulate (counter_count s.device) (control_at s.device)) w.0) (not (eqb w.1 0)))
    (w.0, w.1 + 0x100000) w

-- pmi_core_sel of a core: document 004, 2.1.1, has 00000001 for core 0 and 10000000 for core 7
unfoldable pub core_field : Option ℕ → ℕ
core_field None = 0
core_field (Some c) = get_or (0x01 ∷ 0x02 ∷ 0x04 ∷ 0x08 ∷ 0x10 ∷ 0x20 ∷ 0x40 ∷ 0x80 ∷ []) c 0

-- the last value: en_all is bit 28, frz_all bit 31, and pmi_core_sel begins at bit 1 (docs/DECISIONS.md, 51)
unfoldable pub last_value : Overflow → ℕ
last_value a = 0x10000000 + 0x80000000 * a.freeze + 2 * core_field a.core

-- of every session that open opens
pub record UBox : Type 0 where
  -- neither is asked: the U-Box is not written
  pub with_host : (o : Opening) (s : Setup) → setup_of o ≡ Some s → NothingAsked o.overflow
      → (rs : List Request) (ps : List Place) → All (λ (w : Write). w.0 ≢ 0x0C00) (writes s rs ps)
  -- something is asked: between the two writes of the U-Box stands the list of the session that asks nothing, with pmi_en
  pub framed : (o : Opening) (s : Setup) → setup_of o ≡ Some s → ¬ NothingAsked o.overflow
      → (rs : List Request) (ps : List Place) → Legal s rs ps
      → writes s rs ps ≡ (0x0C00, 0) ∷ map (with_pmi s) (writes (asking_nothing s) rs ps) ++ (0x0C00, last_value o.overflow) ∷ []
  -- the reader accepts no other value there ..
  pub read : (o : Opening) (s : Setup) (v : RegisterValues) → setup_of o ≡ Some s → ¬ NothingAsked o.overflow
      → answer_number (answer_of (read_of o v)) ≡ None → v.ubox ≡ last_value o.overflow
  -- .. and, of a usable counter that is on, no control value that has pmi_en where nothing is asked or lacks it where something is
  pub read_words : (o : Opening) (s : Setup) (v : RegisterValues) → setup_of o ≡ Some s → answer_number (answer_of (read_of o v)) ≡ None
      → (k : ℕ) → Usable s k → get_or v.control k 0 ≢ 0 → bit 20 (get_or v.control k 0) ≡ asked s
