-- A row read field by field. Assumes nothing.
use denote.Ref.{Bor}
use Rattle.std.specs.Prelude.{Option, None, Some}
use Rattle.std.specs.Option.{MatchOption, option_copied}
use Prim.Native.Nat.{ℕ, ◌<◌}
use mathlib.Core.Path.{◌≡◌, refl}
use mathlib.Core.Bool.{true, false}
use mathlib.Core.List.{List, []}
use native.Mathlib.Omega.{arith}
use lib.ListN.{length}
use borrow.Author.Tests.{eq-eqb, ne_eqb}
use Rattle.requests.specs.declared.Device.{Device}
use Rattle.requests.specs.Choice.{both}
use Rattle.grammar.specs.Fields.{fields, field_at}
use Rattle.grammar.specs.Letters.{lettered}
use Rattle.grammar.specs.Numbers.{hex_of}
use Rattle.grammar.proofs.Hexes.{hex_only}
use Rattle.names.specs.EventNames.{is_name}
use Rattle.names.specs.Rows.{numbers_on, row_of}
use Rattle.names.specs.LookUp.{shown}
use Rattle.names.specs.declared.Row.{Row}

-- the tests from the left
module _ (t : List ℕ) where
  pub row_fields : ¬ (length (fields t) ≡ 4) → row_of t ≡ None
  unfolding row_of both
  row_fields n = rw (ne_eqb (length (fields t)) 4 n)

  module _ (four : length (fields t) ≡ 4) where
    pub row_nameless : is_name (field_at t 0) ≡ false → row_of t ≡ None
    unfolding row_of both
    row_nameless n = rw (eq-eqb (length (fields t)) 4 four, n)

    pub row_deviceless : is_name (field_at t 0) ≡ true → lettered (field_at t 1) ≡ None → row_of t ≡ None
    unfolding row_of both
    row_deviceless named d = rw (eq-eqb (length (fields t)) 4 four, named, d)

    pub row_numbers : is_name (field_at t 0) ≡ true → (device : Device) → lettered (field_at t 1) ≡ Some device → row_of t ≡ numbers_on t device
    unfolding row_of both
    row_numbers named device d = rw (eq-eqb (length (fields t)) 4 four, named, d)

-- two digits fit a byte
pub digits_fit : (f : List ℕ) (n : ℕ) → hex_of 2 f ≡ Some n → n < 256
digits_fit f n e = let h = (hex_only 2 f n e).0 in omega arith

-- an empty text is no row
pub no_text : row_of [] ≡ None
unfolding row_of fields both
no_text = refl

-- what is read of the row that was found, if any
pub row_read : {Read : Bor (List ℕ) → Type 0} (found : Option (Bor (List ℕ))) (said : Option Row) (o : Option (List ℕ)) → option_copied found ≡ o
    → MatchOption found (said ≡ None) Read → ((x : Bor (List ℕ)) → Read x → said ≡ row_of x.now) → said ≡ row_of (shown o)
row_read None said o e m k = rw (← e, m, no_text)
row_read (Some x) said o e m k = rw (← e) (k x m)
