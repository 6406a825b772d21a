use Prim.Native.Nat.{◌^◌, ◌≤◌, ◌<◌}
use mathlib.Core.Path.{◌≡◌}
use lib.ListN.{length, drop}
use Rattle.grammar.specs.Numbers.{number_from}
use Rattle.scanner.proofs.numbers.digits.Given as goal

abbrev pub invariant-loop-b : goal.invariant-loop-b
invariant-loop-b l = (l.b-index ≤ length l.field) × (l.value < 16 ^ l.b-index) × (number_from l.base l.value (drop l.b-index l.field) ≡ number_from l.base 0 l.field)
