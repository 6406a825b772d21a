-- A list that is ended is its rows, each with a newline after it; and the rows of such a text are those. Assumes nothing.
use Prim.Native.Nat.{ℕ}
use mathlib.Core.Path.{◌≡◌, refl, ap, sym, ◌∙◌}
use mathlib.Core.Bool.{Bool, true, false, true≢false}
use mathlib.Core.List.{List, [], ◌∷◌, ◌++◌, append_assoc, append-nil}
use native.Mathlib.Omega.{arith}
use lib.Dec.{eqb}
use borrow.Author.Tests.{eqb-true}
use Rattle.requests.specs.Choice.{pick}
use Rattle.grammar.specs.Text.{newline}
use Rattle.grammar.proofs.Tabs.{lacks}
use Rattle.names.specs.Lists.{onto_row, row_texts, is_ended}

-- rows, each with its newline
abbrev pub joined : List (List ℕ) → List ℕ
joined [] = []
joined (t ∷ ts) = t ++ newline ∷ joined ts

-- rows without a newline
pub data Singles : List (List ℕ) → Type 0 where
  none : Singles []
  more : {t : List ℕ} {ts : List (List ℕ)} → lacks newline t ≡ true → Singles ts → Singles (t ∷ ts)

-- every row of a list is such
single_onto : (b : ℕ) {ts : List (List ℕ)} → eqb b newline ≡ false → Singles ts → Singles (onto_row b ts)
unfolding lacks
single_onto b e none = more {t = b ∷ []} (rw e) none
single_onto b e (more {t = t} p ps) = more {t = b ∷ t} (rw e p) ps

pub rows_single : (l : List ℕ) → Singles (row_texts l)
unfolding row_texts lacks
rows_single [] = none
rows_single (b ∷ l) = go (eqb b newline) refl (rows_single l)
  where
    go : (x : Bool) → eqb b newline ≡ x → Singles (row_texts l) → Singles (pick x ([] ∷ row_texts l) (onto_row b (row_texts l)))
    go true e s = more refl s
    go false e s = single_onto b e s

-- a row without a newline, a newline, and more
pub first_line : (t l : List ℕ) → lacks newline t ≡ true → row_texts (t ++ newline ∷ l) ≡ t ∷ row_texts l
unfolding row_texts lacks newline
first_line [] l s = refl
first_line (b ∷ t) l s = go (eqb b newline) s (first_line t l)
  where
    go : (x : Bool) → pick x false (lacks newline t) ≡ true → (lacks newline t ≡ true → row_texts (t ++ newline ∷ l) ≡ t ∷ row_texts l)
        → pick x ([] ∷ row_texts (t ++ newline ∷ l)) (onto_row b (row_texts (t ++ newline ∷ l))) ≡ (b ∷ t) ∷ row_texts l
    go true q ih = absurd (true≢false (sym q))
    go false q ih = rw (ih q)

-- rows, and more after them
pub rows_after_lem : (ts : List (List ℕ)) (l : List ℕ) → Singles ts → row_texts (joined ts ++ l) ≡ ts ++ row_texts l
rows_after_lem [] l none = refl
rows_after_lem (t ∷ ts) l (more s ss) = rw append_assoc (first_line t (joined ts ++ l) s ∙ ap (λ (r : List (List ℕ)). t ∷ r) (rows_after_lem ts l ss))

pub rows_joined : (ts : List (List ℕ)) → Singles ts → row_texts (joined ts) ≡ ts
unfolding row_texts
rows_joined ts s = ap row_texts (sym (append-nil (joined ts))) ∙ rows_after_lem ts [] s ∙ append-nil ts

pub joined_append : (ts us : List (List ℕ)) → joined (ts ++ us) ≡ joined ts ++ joined us
joined_append [] us = refl
joined_append (t ∷ ts) us = rw (joined_append ts us, append_assoc)

-- the end is that of what follows a newline
pub ended_after : (t l : List ℕ) → is_ended (t ++ newline ∷ l) ≡ is_ended l
unfolding is_ended newline
ended_after [] [] = refl
ended_after [] (d ∷ l) = refl
ended_after (b ∷ []) [] = refl
ended_after (b ∷ []) (d ∷ l) = refl
ended_after (b ∷ a ∷ t) l = ended_after (a ∷ t) l

pub joined_ended : (ts : List (List ℕ)) → is_ended (joined ts) ≡ true
unfolding is_ended
joined_ended [] = refl
joined_ended (t ∷ ts) = ended_after t (joined ts) ∙ joined_ended ts

-- a byte before rows
joined_onto : (b d : ℕ) (l : List ℕ) (ts : List (List ℕ)) → d ∷ l ≡ joined ts → b ∷ d ∷ l ≡ joined (onto_row b ts)
joined_onto b d l [] e = let z : ◌≡◌ {A = ℕ} 0 1 = cc in absurd (omega arith)
joined_onto b d l (t ∷ ts) e = ap (λ (r : List ℕ). b ∷ r) e

-- an ended list is its rows
pub ended_joined : (l : List ℕ) → is_ended l ≡ true → l ≡ joined (row_texts l)
unfolding is_ended row_texts
ended_joined [] e = refl
ended_joined (b ∷ []) e = rw (e, eqb-true b newline e)
ended_joined (b ∷ d ∷ l) e = go (eqb b newline) refl (ended_joined (d ∷ l) e)
  where
    go : (x : Bool) → eqb b newline ≡ x → d ∷ l ≡ joined (row_texts (d ∷ l)) → b ∷ d ∷ l ≡ joined (pick x ([] ∷ row_texts (d ∷ l)) (onto_row b (row_texts (d ∷ l))))
    go true p ih = rw (← ih, eqb-true b newline p)
    go false p ih = joined_onto b d l (row_texts (d ∷ l)) ih

-- the rows of an ended text, and those of what follows it
pub rows_append : (a l : List ℕ) → is_ended a ≡ true → row_texts (a ++ l) ≡ row_texts a ++ row_texts l
rows_append a l e = ap (λ (x : List ℕ). row_texts (x ++ l)) (ended_joined a e) ∙ rows_after_lem (row_texts a) l (rows_single a)
