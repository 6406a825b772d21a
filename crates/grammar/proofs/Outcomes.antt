-- What is no number is not one, and what has a field at fault is no record. Assumes nothing.
use Rattle.std.specs.Prelude.{Option, None, Some, Ok, Err}
use mathlib.Core.Path.{◌≡◌, refl}
use mathlib.Core.Bool.{Bool, true, false}
use Prim.Native.Nat.{ℕ}
use native.Mathlib.Omega.{arith}
use Rattle.requests.specs.Choice.{pick}
use Rattle.grammar.specs.declared.Record.{Record}
use Rattle.grammar.specs.declared.Line.{Line}

-- no number
pub bad_not_value : (n : ℕ) → None ≡ Some n → ⊥
bad_not_value n e = let z : ◌≡◌ {A = ℕ} 0 1 = cc in omega arith

-- no record
pub fault_not_line : (k : ℕ) (r : Record) → Err k ≡ Ok (Line.Record r) → ⊥
fault_not_line k r e = let z : ◌≡◌ {A = ℕ} 0 1 = cc in omega arith

-- a number that is read where a test holds
pub read_where : (t : Bool) (x : Option ℕ) (n : ℕ) → pick t x None ≡ Some n → (t ≡ true) × (x ≡ Some n)
read_where true x n e = (refl, e)
read_where false x n e = absurd (bad_not_value n e)

-- a number that is read unless a test holds
pub read_unless : (t : Bool) (x : Option ℕ) (n : ℕ) → pick t None x ≡ Some n → (t ≡ false) × (x ≡ Some n)
read_unless true x n e = absurd (bad_not_value n e)
read_unless false x n e = (refl, e)
