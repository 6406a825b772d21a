-- Order 7: what a session may ask of the U-Box at opening, for the overflow of a counter.
use Rattle.std.specs.Prelude.{Bool, true, false, not, ℕ, ltb, leb, eqb, Option, None, Some}
use Rattle.requests.specs.Choice.{both, either}
use Rattle.requests.specs.declared.Device.{Device}
use Rattle.requests.specs.declared.Device.TheVariants.{G, S, C, B}
use Rattle.requests.specs.declared.Overflow.{Overflow}
use Rattle.requests.specs.declared.Setup.{Setup}

-- "A session on S or C may ask": the U-Box serves the boxes of the uncore
unfoldable pub overflow_on : Device → Bool
overflow_on G = false
overflow_on S = true
overflow_on (C b) = true
overflow_on B = false

-- how many cores pmi_core_sel has a bit for (document 004, 2.1.1: 00000001 is core 0, 10000000 core 7)
unfoldable pub core_count : ℕ
core_count = 8

-- nothing is asked
unfoldable pub unasked : Overflow
unasked = record { freeze = 0; core = None }

-- whether a core is given
unfoldable pub core_given : Option ℕ → Bool
core_given None = false
core_given (Some c) = true

-- "anything but 0 and `-`": whether something is asked
unfoldable pub asks : Overflow → Bool
asks a = either (not (eqb a.freeze 0)) (core_given a.core)

-- whether a session asks something of the U-Box
unfoldable pub asked : Setup → Bool
asked s = both (overflow_on s.device) (asks s.overflow)

-- something is asked that the device does not do
unfoldable pub overflow_not_on : Device → Overflow → Bool
overflow_not_on d a = both (asks a) (not (overflow_on d))

-- whether a core that is given fits the field
unfoldable pub core_fits : Option ℕ → Bool
core_fits None = true
core_fits (Some c) = ltb c core_count

-- "freeze 0 or 1 (else 10)", and a core that fits the field
unfoldable pub overflow_fits : Overflow → Bool
overflow_fits a = both (leb a.freeze 1) (core_fits a.core)
