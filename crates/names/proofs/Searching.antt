-- Rows tested one by one, and the row that is shown. Assumes nothing.
use Rattle.std.proofs.lemmas.Option.{none-some, same_Some}
use Rattle.std.specs.Prelude.{Option, None, Some}
use Prim.Native.Nat.{ℕ, ◌<◌}
use mathlib.Core.Path.{◌≡◌, refl, sym}
use mathlib.Core.Bool.{Bool, true, false, true≢false, cond, ◌&&◌}
use mathlib.Core.List.{List, [], ◌∷◌}
use native.Mathlib.Omega.{arith}
use lib.ListN.{length}
use denote.Ref.{Bor}
use Rattle.std.specs.List.{list_all, find}
use Rattle.std.specs.Option.{MatchOption, option_copied}
use Rattle.requests.specs.Choice.{both}
use Rattle.requests.proofs.Tests.{both_parts, true_both}
use Rattle.grammar.specs.Fields.{fields}
use Rattle.names.specs.Rows.{row_of, is_formed, has_name}
use Rattle.names.specs.Lists.{NameLists, row_texts, is_ended, all_formed, well_formed, lists_formed}
use Rattle.names.specs.LookUp.{top_row, or_else, row_named}

-- all rows tested
pub all_rows : (ts : List (List ℕ)) → list_all (λ t. is_formed (row_of t)) ts ≡ all_formed ts
unfolding all_formed both
all_rows [] = refl
all_rows (t ∷ ts) = rw (all_rows ts) (go (is_formed (row_of t)) (all_formed ts))
  where
    go : (b c : Bool) → (b && c) ≡ both b c
    go true c = refl
    go false c = refl

-- the first row of a name
pub first_named : (name : List ℕ) (ts : List (List ℕ)) → find (has_name name) ts ≡ top_row name ts
unfolding top_row
first_named name [] = refl
first_named name (t ∷ ts) = rw (first_named name ts) (go (has_name name t) (top_row name ts))
  where
    go : (b : Bool) (o : Option (List ℕ)) → cond b (Some t) o ≡ elim b [ true ↦ Some t | false ↦ o ]
    go true o = refl
    go false o = refl

-- a list that is ended or not
pub list_ended : (list : List ℕ) → is_ended list ≡ true → well_formed list ≡ all_formed (row_texts list)
unfolding well_formed both
list_ended list e = rw e

pub list_open : (list : List ℕ) → is_ended list ≡ false → well_formed list ≡ false
unfolding well_formed both
list_open list e = rw e

-- a formed row has a byte
pub formed_some : (t : List ℕ) → is_formed (row_of t) ≡ true → 0 < length t
unfolding row_of both fields
formed_some [] f = absurd (true≢false (sym f))
formed_some (b ∷ t) f = omega arith

-- what is found among formed rows is formed
pub top_formed : (name : List ℕ) (rows : List (List ℕ)) (t : List ℕ) → all_formed rows ≡ true → top_row name rows ≡ Some t → is_formed (row_of t) ≡ true
unfolding all_formed top_row
top_formed name [] t f e = absurd (none-some t e)
top_formed name (r ∷ rows) t f e =
    let (first, others) = both_parts (is_formed (row_of r)) (all_formed rows) f in
    go (has_name name r) e first (top_formed name rows t others)
  where
    go : (h : Bool) → elim h [ true ↦ Some r | false ↦ top_row name rows ] ≡ Some t → is_formed (row_of r) ≡ true → (top_row name rows ≡ Some t → is_formed (row_of t) ≡ true)
        → is_formed (row_of t) ≡ true
    go true q first later = rw (same_Some r t q) at first
    go false q first later = later q

pub list_formed : (list : List ℕ) → well_formed list ≡ true → all_formed (row_texts list) ≡ true
unfolding well_formed
list_formed list w = (both_parts (is_ended list) (all_formed (row_texts list)) w).1

-- both lists
pub both_formed : (n : NameLists) → lists_formed n ≡ true → (well_formed n.site ≡ true) × (well_formed n.house ≡ true)
unfolding lists_formed
both_formed n w = both_parts (well_formed n.site) (well_formed n.house) w

pub formed_both : (n : NameLists) → well_formed n.site ≡ true → well_formed n.house ≡ true → lists_formed n ≡ true
unfolding lists_formed
formed_both n s h = true_both (well_formed n.site) (well_formed n.house) s h

-- two well-formed lists, and two that are not both so
module _ (n : NameLists) (name : List ℕ) where
  pub lists_good : lists_formed n ≡ true → row_named n name ≡ or_else (top_row name (row_texts n.site)) (top_row name (row_texts n.house))
  unfolding row_named
  lists_good w = rw (w, row_named)

  pub lists_bad : lists_formed n ≡ false → row_named n name ≡ None
  unfolding row_named
  lists_bad w = rw (w, row_named)

-- the site's row, or else the house's
pub one_of_two : {Searched : Type 0} (site answer : Option (Bor (List ℕ))) (s h : Option (List ℕ)) → option_copied site ≡ s
    → MatchOption site Searched (λ x. answer ≡ Some x) → (Searched → option_copied answer ≡ h) → option_copied answer ≡ or_else s h
one_of_two None answer s h e m k = rw (← e) (k m)
one_of_two (Some x) answer s h e m k = rw (← e, m)
