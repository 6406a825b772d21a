-- The one pass that finds where the fields end: what is known of the ends at a place of the text. Assumes nothing.
use Prim.Native.Nat.{ℕ, suc, ◌+◌, ◌-◌, ◌<◌, ◌≤◌}
use mathlib.Core.Path.{◌≡◌, refl, ◌∙◌}
use mathlib.Core.Bool.{Bool, true, false}
use mathlib.Core.List.{List}
use mathlib.Core.Logic.{⊎_elim}
use native.Mathlib.Numerals.{add-one}
use native.Mathlib.Nat.{le_antisymm, eq-or-lt_of_le, zero-add}
use native.Mathlib.Omega.{arith}
use lib.ListN.{length, get_or, drop, set, length-set, replicate, get_or-replicate}
use lib.Dec.{ltb}
use lib.Seq.{drop-cons, drop-length, get_or-set_same, get_or-set_other}
use borrow.Author.Tests.{eq-eqb, ne_eqb, ltb-true, ltb-false}
use Rattle.grammar.specs.Text.{tab}
use Rattle.grammar.specs.Fields.{fields}
use Rattle.scanner.specs.Parts.{end_of, Parted}
use Rattle.scanner.proofs.FieldParts.{length_onto}

-- a byte at place i
module _ (text : List ℕ) (i : ℕ) (h : i < length text) where
  count_tab : get_or text i 0 ≡ 9 → length (fields (drop i text)) ≡ suc (length (fields (drop (i + 1) text)))
  unfolding fields tab
  count_tab e = rw (drop-cons text i 0 h, eq-eqb (get_or text i 0) 9 e, add-one)

  count_other : (get_or text i 0 ≡ 9 → ⊥) → length (fields (drop i text)) ≡ length (fields (drop (i + 1) text))
  unfolding fields tab
  count_other e = rw (drop-cons text i 0 h, ne_eqb (get_or text i 0) 9 e, length_onto, add-one)

  end_here : get_or text i 0 ≡ 9 → end_of (drop i text) 0 ≡ 0
  unfolding end_of tab
  end_here e = rw (drop-cons text i 0 h, eq-eqb (get_or text i 0) 9 e)

  end_later : (k : ℕ) → get_or text i 0 ≡ 9 → end_of (drop i text) (suc k) ≡ suc (end_of (drop (i + 1) text) k)
  unfolding end_of tab
  end_later k e = rw (drop-cons text i 0 h, eq-eqb (get_or text i 0) 9 e, add-one)

  end_other : (k : ℕ) → (get_or text i 0 ≡ 9 → ⊥) → end_of (drop i text) k ≡ suc (end_of (drop (i + 1) text) k)
  unfolding end_of tab
  end_other k e = rw (drop-cons text i 0 h, ne_eqb (get_or text i 0) 9 e, add-one)

-- what is known after i bytes with that many tabs
pub record Seen (text ends : List ℕ) (tabs i : ℕ) : Type 0 where
  pub within : i ≤ length text
  pub few : tabs ≤ i
  pub sized : length ends ≡ 8
  pub counts : tabs + length (fields (drop i text)) ≡ length (fields text)
  -- tabs that were passed
  pub passed : (k : ℕ) → k < tabs → k < 8 → get_or ends k 0 ≡ end_of text k
  -- places that are not yet set
  pub unset : (k : ℕ) → tabs ≤ k → k < 8 → get_or ends k 0 ≡ length text
  -- tabs that are still to come
  pub ahead : (k : ℕ) → i + end_of (drop i text) k ≡ end_of text (tabs + k)

-- before the first byte
pub seen_none : (text : List ℕ) → Seen text (replicate 8 (length text)) 0 0
seen_none text =
    record {
      within = omega arith;
      few = omega arith;
      sized = refl;
      counts = simp zero-add;
      passed = λ k b s. absurd (omega arith);
      unset = λ k b s. get_or-replicate 8 k (length text) 0 s;
      ahead = λ k. simp zero-add;
    }

module _ {text ends : List ℕ} {tabs i : ℕ} (v : Seen text ends tabs i) (h : i < length text) where
  -- past another byte
  pub seen_other : (get_or text i 0 ≡ 9 → ⊥) → Seen text ends tabs (i + 1)
  seen_other e =
      record {
        within = omega arith;
        few = omega arith;
        sized = v.sized;
        counts = omega (arith, v.counts, count_other text i h e);
        passed = v.passed;
        unset = v.unset;
        ahead = λ k. omega (arith, v.ahead k, end_other text i h k e);
      }

  -- past a tab, where the ends are set or full
  module _ (e : get_or text i 0 ≡ 9) where
    at_tab : i ≡ end_of text tabs
    at_tab =
        let z : tabs + 0 ≡ tabs = omega arith in
        let f : i ≡ end_of text (tabs + 0) = omega (arith, v.ahead 0, end_here text i h e) in
        rw z at f

    ahead_tab : (k : ℕ) → i + 1 + end_of (drop (i + 1) text) k ≡ end_of text (tabs + 1 + k)
    ahead_tab k = let s : tabs + suc k ≡ tabs + 1 + k = omega arith in rw (← s) (omega (arith, v.ahead (suc k), end_later text i h k e))

    pub seen_set : tabs < 8 → Seen text (set ends tabs i) (tabs + 1) (i + 1)
    seen_set room =
        record {
          within = omega arith;
          few = omega arith;
          sized = length-set ends tabs i ∙ v.sized;
          counts = omega (arith, v.counts, count_tab text i h e);
          passed = λ k b s. ⊎_elim (here k) (λ l. get_or-set_other ends tabs k i 0 (λ q. omega arith) ∙ v.passed k l s) (eq-or-lt_of_le {n = k} {m = tabs} (omega arith));
          unset = λ k b s. get_or-set_other ends tabs k i 0 (λ q. omega arith) ∙ v.unset k (omega arith) s;
          ahead = ahead_tab;
        }
      where
        here : (k : ℕ) → k ≡ tabs → get_or (set ends tabs i) k 0 ≡ end_of text k
        here k q = rw q (get_or-set_same ends tabs i 0 (omega arith) ∙ at_tab)

    pub seen_full : 8 ≤ tabs → Seen text ends (tabs + 1) (i + 1)
    seen_full full =
        record {
          within = omega arith;
          few = omega arith;
          sized = v.sized;
          counts = omega (arith, v.counts, count_tab text i h e);
          passed = λ k b s. v.passed k (omega arith) s;
          unset = λ k b s. absurd (omega arith);
          ahead = ahead_tab;
        }

-- past the last byte
module _ {text ends : List ℕ} {tabs i : ℕ} (v : Seen text ends tabs i) (h : length text ≤ i) where
  count_end : length (fields (drop i text)) ≡ 1
  unfolding fields
  count_end = rw (le_antisymm v.within h, drop-length)

  end_none : (k : ℕ) → end_of (drop i text) k ≡ 0
  unfolding end_of
  end_none k = rw (le_antisymm v.within h, drop-length)

  pub seen_all : Parted text ends (tabs + 1)
  seen_all =
      record {
        counted = omega (arith, v.counts, count_end);
        placed = λ k b. go k b (ltb k tabs) refl;
      }
    where
      last : (k : ℕ) → tabs ≤ k → length text ≡ end_of text k
      last k l = let s : tabs + (k - tabs) ≡ k = omega arith in rw (← s) (omega (arith, v.ahead (k - tabs), end_none (k - tabs)))

      go : (k : ℕ) → k < 8 → (t : Bool) → ltb k tabs ≡ t → get_or ends k 0 ≡ end_of text k
      go k b true q = v.passed k (ltb-true k tabs q) b
      go k b false q = v.unset k (ltb-false k tabs q) b ∙ last k (ltb-false k tabs q)
