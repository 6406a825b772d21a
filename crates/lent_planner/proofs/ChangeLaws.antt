-- What a change makes of the records. Assumes nothing.
--     changed-in, changed-out     the record of each place afterwards
--     shifted-ahead               where nothing goes, a record is read `skip` places ahead
use mathlib.Core.Path.{◌≡◌, refl, ap, sym, ◌∙◌}
use mathlib.Core.Logic.{◌⊎◌, inl, inr, ◌≢◌}
use mathlib.Core.List.{List, [], ◌∷◌}
use mathlib.Core.Bool.{Bool, true, false}
use Prim.Native.Nat.{ℕ, zero, suc, ◌+◌, ◌-◌, ◌≤◌, ◌<◌}
use native.Mathlib.Omega.{arith}
use native.Mathlib.Decide.{dec_lt}
use lib.Dec.{ltb, leb}
use lib.ListN.{length, get_or, set, replicate, length-set, get_or-replicate}
use lib.Seq.{get_or-set_same, get_or-set_other}
use borrow.Author.Tests.{lt-ltb, le-ltb, lt-leb}
use Rattle.requests.specs.declared.Entry.{Entry}
use Rattle.requests.specs.Choice.{pick}
use Rattle.sessions.specs.Sessions.{vacant}
use Rattle.lent_planner.specs.Changes.{past, past_all_lem, ahead, source, placed, rearranged_from, rearranged, nowhere, shifted}
use Rattle.lent_planner.specs.declared.Change.{Change}

-- ---- one place

past_far : (a k : ℕ) → k ≤ past a k
unfolding past
past_far a k = go (leb a k)
  where
    go : (b : Bool) → k ≤ pick b (k + 1) k
    go true = omega arith
    go false = omega arith

all_far : (l : List ℕ) (k : ℕ) → k ≤ past_all_lem l k
unfolding past_all_lem
all_far [] k = omega arith
all_far (a ∷ l) k = let far = past_far a k in omega (arith, all_far l (past a k))

pub ahead_far : (c : Change) (i : ℕ) → i ≤ ahead c i
unfolding ahead
ahead_far c i = omega (arith, all_far c.at (i + c.skip))

source_far : (c : Change) (i : ℕ) → i ≤ source c i
unfolding source
source_far c i = go (ltb (ahead c i) c.end)
  where
    go : (b : Bool) → i ≤ pick b (ahead c i) i
    go true = ahead_far c i
    go false = omega arith

-- ---- all places

module _ (c : Change) where
  length_from : (k i : ℕ) (ys : List Entry) → length (rearranged_from k i c ys) ≡ length ys
  unfolding rearranged_from
  length_from zero i ys = refl
  length_from (suc k) i ys = length_from k (i + 1) (set ys i (placed c i (get_or ys (source c i) vacant))) ∙ length-set ys i (placed c i (get_or ys (source c i) vacant))

  from_out : (k i : ℕ) (ys : List Entry) (j : ℕ) → (j < i) ⊎ (i + k ≤ j) → get_or (rearranged_from k i c ys) j vacant ≡ get_or ys j vacant
  unfolding rearranged_from
  from_out zero i ys j h = refl
  from_out (suc k) i ys j h =
      let v : Entry = placed c i (get_or ys (source c i) vacant) in
      from_out k (i + 1) (set ys i v) j (further h) ∙ get_or-set_other ys i j v vacant (apart h)
    where
      further : (j < i) ⊎ (i + suc k ≤ j) → (j < i + 1) ⊎ (i + 1 + k ≤ j)
      further (inl l) = inl (omega arith)
      further (inr l) = inr (omega arith)

      apart : (j < i) ⊎ (i + suc k ≤ j) → j ≢ i
      apart (inl l) e = omega (arith, l, e)
      apart (inr l) e = omega (arith, l, e)

  pub from_next : (k i : ℕ) (ys : List Entry) → rearranged_from (suc k) i c ys ≡ rearranged_from k (i + 1) c (set ys i (placed c i (get_or ys (source c i) vacant)))
  unfolding rearranged_from
  from_next k i ys = refl

  from_in : (k i : ℕ) (ys : List Entry) (j : ℕ) → i + k ≤ length ys → i ≤ j → j < i + k → get_or (rearranged_from k i c ys) j vacant ≡ placed c j (get_or ys (source c j) vacant)
  from_in zero i ys j fits l h = absurd (omega arith)
  from_in (suc k) i ys j fits l h = go (dec_lt i j)
      (λ m. from_in k (i + 1) (set ys i (placed c i (get_or ys (source c i) vacant))) j (rw length-set (omega (arith, fits))) m (omega (arith, h)))
    where
      next : rearranged_from (suc k) i c ys ≡ rearranged_from k (i + 1) c (set ys i (placed c i (get_or ys (source c i) vacant)))
      next = from_next k i ys

      go : Dec (i < j) → (i + 1 ≤ j → get_or (rearranged_from k (i + 1) c (set ys i (placed c i (get_or ys (source c i) vacant)))) j vacant ≡ placed c j (get_or (set ys i (placed c i (get_or ys (source c i) vacant))) (source c j) vacant))
          → get_or (rearranged_from (suc k) i c ys) j vacant ≡ placed c j (get_or ys (source c j) vacant)
      go (yes m) below =
          ap (λ (l : List Entry). get_or l j vacant) next ∙ below (omega arith)
          ∙ ap (placed c j) (get_or-set_other ys i (source c j) (placed c i (get_or ys (source c i) vacant)) vacant (λ e. omega (arith, e, source_far c j)))
      go (no m) below =
          let same : i ≡ j = omega (arith, l) in
          ap (λ (l : List Entry). get_or l j vacant) next
          ∙ from_out k (i + 1) (set ys i (placed c i (get_or ys (source c i) vacant))) j (inl (omega arith))
          ∙ ap (λ (x : ℕ). get_or (set ys i (placed c i (get_or ys (source c i) vacant))) x vacant) (sym same)
          ∙ get_or-set_same ys i (placed c i (get_or ys (source c i) vacant)) vacant (omega (arith, fits))
          ∙ ap (λ (x : ℕ). placed c x (get_or ys (source c x) vacant)) same

  module _ (ys : List Entry) where
    pub length_changed : length (rearranged c ys) ≡ length ys
    unfolding rearranged
    length_changed = length_from (c.end - c.from) c.from ys

    pub changed_in : (j : ℕ) → c.end ≤ length ys → c.from ≤ j → j < c.end → get_or (rearranged c ys) j vacant ≡ placed c j (get_or ys (source c j) vacant)
    unfolding rearranged
    changed_in j fits l h = from_in (c.end - c.from) c.from ys j (omega arith) l (omega arith)

    pub changed_out : (j : ℕ) → (j < c.from) ⊎ (c.end ≤ j) → c.from ≤ c.end → get_or (rearranged c ys) j vacant ≡ get_or ys j vacant
    unfolding rearranged
    changed_out j h order = from_out (c.end - c.from) c.from ys j (which h)
      where
        which : (j < c.from) ⊎ (c.end ≤ j) → (j < c.from) ⊎ (c.from + (c.end - c.from) ≤ j)
        which (inl l) = inl l
        which (inr l) = inr (omega arith)

-- what a record becomes: one that is read ahead, or a fresh one
pub placed_ahead : (c : Change) (ys : List Entry) (j : ℕ) → ahead c j < c.end → placed c j (get_or ys (source c j) vacant) ≡ get_or ys (ahead c j) vacant
unfolding placed source
placed_ahead c ys j l = rw (lt-ltb (ahead c j) c.end l)

pub placed_fresh : (c : Change) (e : Entry) (j : ℕ) → c.end ≤ ahead c j → placed c j e ≡ get_or c.fresh (ahead c j - c.end) vacant
unfolding placed
placed_fresh c e j l = rw (le-ltb (ahead c j) c.end l)

-- ---- records shifted

past_nowhere : (k : ℕ) → k < nowhere → past nowhere k ≡ k
unfolding past
past_nowhere k l = rw (lt-leb nowhere k l)

pub all_nowhere : (n k : ℕ) → k < nowhere → past_all_lem (replicate n nowhere) k ≡ k
unfolding past_all_lem
all_nowhere zero k l = refl
all_nowhere (suc n) k l = ap (past_all_lem (replicate n nowhere)) (past_nowhere k l) ∙ all_nowhere n k l

module _ (from end skip : ℕ) (e : Entry) where
  abbrev c : Change
  c = shifted from end skip e

  pub shifted_ahead : (j : ℕ) → j + skip < nowhere → ahead c j ≡ j + skip
  unfolding ahead shifted
  shifted_ahead j l = all_nowhere 8 (j + skip) l

  shifted_fresh : (j : ℕ) → j < 8 → get_or c.fresh j vacant ≡ e
  unfolding shifted
  shifted_fresh j l = get_or-replicate 8 j e vacant l

  module _ (ys : List Entry) (j : ℕ) (fits : end ≤ length ys) (l : from ≤ j) (h : j < end) (small : j + skip < nowhere) where
    pub shifted_read : j + skip < end → get_or (rearranged c ys) j vacant ≡ get_or ys (j + skip) vacant
    unfolding shifted
    shifted_read m =
        changed_in c ys j fits l h
        ∙ placed_ahead c ys j (rw (shifted_ahead j small) m)
        ∙ ap (λ (k : ℕ). get_or ys k vacant) (shifted_ahead j small)

    pub shifted_new : end ≤ j + skip → j + skip - end < 8 → get_or (rearranged c ys) j vacant ≡ e
    unfolding shifted
    shifted_new m few =
        changed_in c ys j fits l h
        ∙ placed_fresh c (get_or ys (source c j) vacant) j (rw (shifted_ahead j small) m)
        ∙ ap (λ (k : ℕ). get_or c.fresh (k - end) vacant) (shifted_ahead j small)
        ∙ shifted_fresh (j + skip - end) few
