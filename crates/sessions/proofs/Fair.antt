-- The first row whose condition holds is the first that applies, where each row's condition is exact. Assumes nothing.
--     Fair                  each condition is exact, no other number applies, and the rows stand in the order in which they are checked
--     fair-some, fair-none  what the first row that holds then says, and what it says that none does
use Rattle.std.proofs.lemmas.Option.{none-some, same_Some}
use Rattle.std.specs.Prelude.{None, Some}
use mathlib.Core.Path.{◌≡◌, refl, ap, sym, subst, ◌∙◌}
use mathlib.Core.Logic.{◌⊎◌, inl, inr, ◌↔◌}
use mathlib.Core.List.{List, [], ◌∷◌, map}
use mathlib.Core.Bool.{Bool, true, false, not, false≢true}
use Prim.Native.Nat.{ℕ}
use lib.Dec.{eqb}
use borrow.Author.Tests.{eqb-true, eq-eqb, not-true}
use Rattle.requests.specs.declared.Refusal.{Refusal}
use Rattle.requests.specs.Bits.{in_list}
use Rattle.requests.specs.Refusals.{number_of, check_order, in_front, checked_before}
use Rattle.requests.specs.Choice.{both, pick, Row, first_holding}
use Rattle.requests.proofs.Tests.{both_parts, either_cases}
use Rattle.plans.specs.Lists.{All, nil, cons}

-- the numbers of rows
abbrev pub numbers : List (Row Refusal) → List ℕ
numbers rows = map (λ (row : Row Refusal). number_of row.1) rows

-- the condition of each row holds exactly where the row applies
abbrev pub Exact : (ℕ → Type 0) → List (Row Refusal) → Type 0
Exact A rows = All (λ (row : Row Refusal). (row.0 ≡ true) ↔ A (number_of row.1)) rows

-- the numbers `ms` stand in the order `ns`, and between them none of `rows`
unfoldable pub in_order_lem : List ℕ → List ℕ → List ℕ → Bool
in_order_lem rows [] ns = true
in_order_lem rows (m ∷ ms) [] = false
in_order_lem rows (m ∷ ms) (n ∷ ns) = pick (eqb m n) (in_order_lem rows ms ns) (both (not (in_list rows n)) (in_order_lem rows (m ∷ ms) ns))

pub record Fair (A : ℕ → Type 0) (rows : List (Row Refusal)) : Type 0 where
  pub exact : Exact A rows
  pub only : (n : ℕ) → A n → in_list (numbers rows) n ≡ true
  pub ordered : in_order_lem (numbers rows) (numbers rows) check_order ≡ true

module _ (A : ℕ → Type 0) where
  -- a row whose condition does not hold does not apply
  fails : (row : Row Refusal) → (row.0 ≡ true) ↔ A (number_of row.1) → row.0 ≡ false → A (number_of row.1) → ⊥
  fails row exact h a = false≢true (sym h ∙ exact.1 a)

  in_front_lem : (n m : ℕ) (ns : List ℕ) → (A m → ⊥) → All (λ (k : ℕ). A k → ⊥) (in_front n ns) → All (λ (k : ℕ). A k → ⊥) (in_front n (m ∷ ns))
  unfolding in_front
  in_front_lem n m ns h hs = go (eqb m n)
    where
      go : (b : Bool) → All (λ (k : ℕ). A k → ⊥) (pick b [] (m ∷ in_front n ns))
      go true = nil
      go false = cons h hs

  at_front : (n : ℕ) (ns : List ℕ) → All (λ (k : ℕ). A k → ⊥) (in_front n (n ∷ ns))
  unfolding in_front
  at_front n ns = rw (eq-eqb n n refl) nil

  -- the row by which a call is refused applies, and none in front of it
  abbrev Refuses : Refusal → List ℕ → Type 0
  Refuses x ns = A (number_of x) × All (λ (k : ℕ). A k → ⊥) (in_front (number_of x) ns)

  first_applies : (all : List ℕ) → ((n : ℕ) → A n → in_list all n ≡ true) → (x : Refusal) (rows : List (Row Refusal)) (ns : List ℕ)
      → Exact A rows → in_order_lem all (numbers rows) ns ≡ true → first_holding rows ≡ Some x → Refuses x ns
  unfolding first_holding in_order_lem
  first_applies all only x [] ns exact ordered e = absurd (none-some x e)
  first_applies all only x (r ∷ rows) [] exact ordered e = absurd (false≢true ordered)
  first_applies all only x (r ∷ rows) (n ∷ ns) (cons h exact) ordered e =
      by_number (eqb (number_of r.1) n) refl (first_applies all only x rows ns exact) (λ o. first_applies all only x (r ∷ rows) ns (cons h exact) o e)
    where
      -- the number is the row's, whose condition holds or not
      by_condition : (b : Bool) → r.0 ≡ b → number_of r.1 ≡ n → (first_holding rows ≡ Some x → Refuses x ns) → Refuses x (n ∷ ns)
      by_condition true k same below =
          let e2 : Some r.1 ≡ Some x = rw (k, first_holding) at e in
          let m : number_of r.1 ≡ number_of x = ap number_of (same_Some r.1 x e2) in
          (subst A m (h.0 k), subst (λ (i : ℕ). All (λ (j : ℕ). A j → ⊥) (in_front (number_of x) (i ∷ ns))) (sym m ∙ same) (at_front (number_of x) ns))
      by_condition false k same below =
          let t = below (rw (k, first_holding) at e) in
          (t.0, in_front_lem (number_of x) n ns (λ a. fails r h k (subst A (sym same) a)) t.1)

      by_number : (b : Bool) → eqb (number_of r.1) n ≡ b → (in_order_lem all (numbers rows) ns ≡ true → first_holding rows ≡ Some x → Refuses x ns)
          → (in_order_lem all (number_of r.1 ∷ numbers rows) ns ≡ true → Refuses x ns) → Refuses x (n ∷ ns)
      by_number true k found later = by_condition r.0 refl (eqb-true (number_of r.1) n k) (found (rw (k, in_order_lem) at ordered))
      by_number false k found later =
          let t = both_parts (not (in_list all n)) (in_order_lem all (number_of r.1 ∷ numbers rows) ns) (rw (k, in_order_lem) at ordered) in
          let below = later t.1 in
          (below.0, in_front_lem (number_of x) n ns (λ a. false≢true (sym (not-true (in_list all n) t.0) ∙ only n a)) below.1)

  pub fair_some : {rows : List (Row Refusal)} → Fair A rows → (x : Refusal) → first_holding rows ≡ Some x
      → A (number_of x) × All (λ (k : ℕ). A k → ⊥) (checked_before (number_of x))
  unfolding checked_before
  fair_some {rows} fair x e = first_applies (numbers rows) fair.only x rows check_order fair.exact fair.ordered e

  none_applies : (rows : List (Row Refusal)) → Exact A rows → first_holding rows ≡ None → (n : ℕ) → in_list (numbers rows) n ≡ true → A n → ⊥
  unfolding first_holding in_list
  none_applies [] exact e n m a = false≢true m
  none_applies (r ∷ rows) (cons h exact) e n m a = go r.0 refl (none_applies rows exact)
    where
      go : (b : Bool) → r.0 ≡ b → (first_holding rows ≡ None → (n : ℕ) → in_list (numbers rows) n ≡ true → A n → ⊥) → ⊥
      go true k below = let e2 : Some r.1 ≡ None = rw (k, first_holding) at e in none-some r.1 (sym e2)
      go false k below = by_number (either_cases (eqb (number_of r.1) n) (in_list (numbers rows) n) m)
        where
          by_number : (eqb (number_of r.1) n ≡ true) ⊎ (in_list (numbers rows) n ≡ true) → ⊥
          by_number (inl same) = fails r h k (subst A (sym (eqb-true (number_of r.1) n same)) a)
          by_number (inr later) = below (rw (k, first_holding) at e) n later a

  pub fair_none : {rows : List (Row Refusal)} → Fair A rows → first_holding rows ≡ None → (n : ℕ) → A n → ⊥
  fair_none {rows} fair e n a = none_applies rows fair.exact e n (fair.only n a) a
