-- A field spells a core, or `-`, exactly when it is the text of what its number stands for, and a core has at most 5 digits. Assumes nothing.
use Rattle.std.specs.Prelude.{Option, None, Some}
use mathlib.Core.Path.{◌≡◌, refl, ap}
use mathlib.Core.Bool.{Bool, true, false}
use mathlib.Core.List.{List}
use Prim.Native.Nat.{ℕ, zero, suc, ◌+◌, ◌-◌}
use native.Mathlib.Numerals.{add-one}
use native.Mathlib.Omega.{arith}
use Rattle.requests.specs.Choice.{pick, both}
use Rattle.grammar.specs.Text.{bytes, decimal_text}
use Rattle.grammar.specs.Records.{core_text, CoreFits}
use Rattle.grammar.specs.Fields.{same_bytes_lem}
use Rattle.grammar.specs.Numbers.{digit_of, number_from, decimal_of, one_more_lem, core_number_of, core_of}
use Rattle.grammar.proofs.Outcomes.{bad_not_value}
use Rattle.grammar.proofs.Decimals.{decimal_reads, decimal_only}
use Rattle.grammar.proofs.WordLoops.{same_bytes}

-- the number that stands for a core
pub core_number : Option ℕ → ℕ
core_number None = 0
core_number (Some c) = c + 1

-- it stands for that core
pub core_back : (c : Option ℕ) → core_of (core_number c) ≡ c
unfolding core_number core_of
core_back None = refl
core_back (Some c) = rw add-one

-- a number above 0 stands for the core one below it
pub core_below : (n : ℕ) → ¬ (n ≡ 0) → core_of n ≡ Some (n - 1)
unfolding core_of
core_below zero some = absurd (some refl)
core_below (suc n) some = ap Some (omega arith)

-- `-` is no decimal
decimal_not_dash : (f : List ℕ) (n : ℕ) → decimal_of f ≡ Some n → same_bytes_lem f (bytes "-") ≡ false
unfolding bytes decimal_of number_from digit_of both
decimal_not_dash f n e = go (same_bytes_lem f (bytes "-")) refl
  where
    go : (t : Bool) → same_bytes_lem f (bytes "-") ≡ t → t ≡ false
    go true p = absurd (bad_not_value n (rw (same_bytes f (bytes "-") p) at e))
    go false p = refl

-- the text of a core is read as its number
pub core_reads : (c : Option ℕ) → CoreFits c → core_number_of (core_text c) ≡ Some (core_number c)
unfolding core_number_of core_text core_number same_bytes_lem bytes
core_reads None h = refl
core_reads (Some c) h = rw (decimal_not_dash (decimal_text c) c (decimal_reads c h), decimal_reads c h)

-- what was read before one was added
more_only : (x : Option ℕ) (n : ℕ) → one_more_lem x ≡ Some n → (c : ℕ) × (x ≡ Some c) × (n ≡ suc c)
more_only (Some c) n e = (c, refl, let is : c + 1 ≡ n = cc in omega arith)
more_only None n e = absurd (bad_not_value n e)

-- and nothing else is
pub core_only : (f : List ℕ) (n : ℕ) → core_number_of f ≡ Some n → CoreFits (core_of n) × (f ≡ core_text (core_of n))
unfolding core_number_of core_text core_of
core_only f n e = go (same_bytes_lem f (bytes "-")) refl e
  where
    go : (t : Bool) → same_bytes_lem f (bytes "-") ≡ t → pick t (Some 0) (one_more_lem (decimal_of f)) ≡ Some n → CoreFits (core_of n) × (f ≡ core_text (core_of n))
    go true p q = let is : 0 ≡ n = cc in rw (← is) (tt, same_bytes f (bytes "-") p)
    go false p q =
        let (c, value, is) = more_only (decimal_of f) n q in
        let told = decimal_only f c value in
        rw is (told.0, told.1)
