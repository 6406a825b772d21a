-- How a field spells a number, as the number that tells its format.
use Rattle.std.specs.Prelude.{ℕ, ◌<◌, ◌≤◌}
use Rattle.grammar.specs.Numbers.{decimal_format, core_format}
use Rattle.scanner.specs.declared.Format.{Format}
use Rattle.scanner.specs.declared.Format.TheVariants.{Decimal, Hex, Core}

-- the number that tells the format
abbrev pub code_of : Format → ℕ
code_of Decimal = decimal_format
code_of (Hex width) = width
code_of Core = core_format

-- a hex number has 1 to 16 digits
abbrev pub IsFormat : Format → Type 0
IsFormat Decimal = Unit {0}
IsFormat (Hex width) = (0 < width) × (width ≤ 16)
IsFormat Core = Unit {0}
