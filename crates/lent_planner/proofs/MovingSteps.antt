-- The records moved in place, step by step. Assumes nothing.
--     along                                     the places of a stretch are read equally far ahead
--     moving-start, moving-next, moving-done    the records that have become those that are read for them
use mathlib.Core.Path.{◌≡◌, refl, ap, sym, ◌∙◌}
use mathlib.Core.List.{List, [], ◌∷◌}
use mathlib.Core.Bool.{Bool, true, false}
use Prim.Native.Nat.{ℕ, suc, ◌+◌, ◌-◌, ◌≤◌, ◌<◌}
use native.Mathlib.Omega.{arith}
use native.Mathlib.Decide.{dec_lt}
use lib.Dec.{ltb}
use lib.ListN.{length, get_or, set, length-set}
use borrow.Author.Tests.{le-leb, lt-leb}
use Rattle.requests.specs.declared.Entry.{Entry}
use Rattle.requests.specs.Choice.{pick}
use Rattle.sessions.specs.Sessions.{vacant}
use Rattle.lent_planner.specs.Changes.{past, past_all_lem, ahead, clear, clear_all, nowhere, stretch, read_at, source, placed, rearranged_from, rearranged}
use Rattle.lent_planner.specs.declared.Change.{Change}
use Rattle.lent_planner.proofs.ChangeLaws.{from_next}

-- ---- one record that goes

past_over : (a k : ℕ) → a ≤ k → past a k ≡ k + 1
unfolding past
past_over a k l = rw (le-leb a k l)

past_before : (a k : ℕ) → k < a → past a k ≡ k
unfolding past
past_before a k l = rw (lt-leb a k l)

clear_over : (a k room : ℕ) → a ≤ k → clear a k room ≡ room
unfolding clear
clear_over a k room l = rw (le-leb a k l)

clear_before : (a k room : ℕ) → k < a → (clear a k room ≤ a - k) × (clear a k room ≤ room)
unfolding clear
clear_before a k room l = rw (lt-leb a k l) (omega arith, omega arith)

one_along : (a k room j : ℕ) → j < clear a k room → (j < room) × (past a (k + j) ≡ past a k + j)
one_along a k room j h = go (dec_lt k a)
  where
    go : Dec (k < a) → (j < room) × (past a (k + j) ≡ past a k + j)
    go (yes m) =
        let c = clear_before a k room m in
        (omega (arith, h, c.1), past_before a (k + j) (omega (arith, h, c.0)) ∙ ap (λ (x : ℕ). x + j) (sym (past_before a k m)))
    go (no m) =
        let n : a ≤ k = omega (arith, m) in
        (omega (arith, h, clear_over a k room n), omega (arith, past_over a (k + j) (omega (arith, n)), past_over a k n))

-- ---- all that go

all_along : (l : List ℕ) (k room j : ℕ) → j < clear_all l k room → (j < room) × (past_all_lem l (k + j) ≡ past_all_lem l k + j)
unfolding past_all_lem clear_all
all_along [] k room j h = (h, refl)
all_along (a ∷ l) k room j h =
    let rest = all_along l (past a k) (clear a k room) j h in
    let one = one_along a k room j rest.0 in
    (one.0, ap (past_all_lem l) one.1 ∙ rest.1)

module _ (c : Change) where
  along : (i j : ℕ) → j < stretch c i → ahead c (i + j) ≡ ahead c i + j
  unfolding ahead stretch
  along i j h = ap (past_all_lem c.at) (swapped i c.skip) ∙ (all_along c.at (i + c.skip) nowhere j h).1
    where
      swapped : (x y : ℕ) → x + j + y ≡ x + y + j
      swapped x y = omega arith

  module _ (xs : List Entry) where
    -- the records before i are changed, and those before `stop` are read as far ahead of k as they stand behind i
    pub record Moving (i k stop : ℕ) (ys : List Entry) : Type 0 where
      pub near : k ≤ i + c.skip + 8
      pub goes : (j : ℕ) → i + j < stop → ahead c (i + j) ≡ k + j
      pub size : length ys ≡ length xs
      pub rest : rearranged_from (c.end - i) i c ys ≡ rearranged c xs

    pub moving_start : Moving c.from 0 0 xs
    unfolding rearranged
    moving_start = record { near = omega arith; goes = λ j l. absurd (omega (arith, l)); size = refl; rest = refl }

    -- what is left to do, after record i has become e
    after : (i : ℕ) (ys : List Entry) (e : Entry) → i < c.end → rearranged_from (c.end - i) i c ys ≡ rearranged c xs → placed c i (get_or ys (source c i) vacant) ≡ e
        → rearranged_from (c.end - (i + 1)) (i + 1) c (set ys i e) ≡ rearranged c xs
    after i ys e l rest is =
        let one : c.end - i ≡ suc (c.end - (i + 1)) = omega (arith, l) in
        ap (λ (x : Entry). rearranged_from (c.end - (i + 1)) (i + 1) c (set ys i x)) (sym is)
        ∙ sym (from_next c (c.end - (i + 1)) i ys)
        ∙ ap (λ (m : ℕ). rearranged_from m i c ys) (sym one)
        ∙ rest

    -- the place that record i is read at, and the end of the stretch that it is in
    pub record Reading (i k stop : ℕ) : Type 0 where
      pub reads : k ≡ ahead c i
      pub near : k ≤ i + c.skip + 8
      pub goes : (j : ℕ) → i + j < stop → ahead c (i + j) ≡ k + j

    pub reading_on : {i k stop : ℕ} {ys : List Entry} → Moving i k stop ys → i < stop → Reading i k stop
    reading_on {i} {k} m l =
        let here : ahead c (i + 0) ≡ k + 0 = m.goes 0 (omega (arith, l)) in
        let none : i + 0 ≡ i = omega arith in
        record { reads = omega (arith, here, ap (ahead c) none); near = m.near; goes = m.goes }

    pub reading_anew : (i : ℕ) → ahead c i ≤ i + c.skip + 8 → Reading i (ahead c i) (i + stretch c i)
    reading_anew i l = record { reads = refl; near = l; goes = λ j h. along i j (omega (arith, h)) }

    is_read : (i k : ℕ) (ys : List Entry) → k ≡ ahead c i → placed c i (get_or ys (source c i) vacant) ≡ read_at c k ys
    unfolding read_at placed source
    is_read i k ys e = rw e (go (ltb (ahead c i) c.end))
      where
        go : (b : Bool) → pick b (get_or ys (pick b (ahead c i) i) vacant) (get_or c.fresh (ahead c i - c.end) vacant) ≡ pick b (get_or ys (ahead c i) vacant) (get_or c.fresh (ahead c i - c.end) vacant)
        go true = refl
        go false = refl

    pub moving_next : {i k stop k2 stop2 : ℕ} {ys : List Entry} → Moving i k stop ys → Reading i k2 stop2 → i < c.end → Moving (i + 1) (k2 + 1) stop2 (set ys i (read_at c k2 ys))
    moving_next {i} {k} {stop} {k2} {stop2} {ys} m r l =
        record {
          near = omega (arith, r.near);
          goes = goes_on;
          size = length-set ys i (read_at c k2 ys) ∙ m.size;
          rest = after i ys (read_at c k2 ys) l m.rest (is_read i k2 ys r.reads);
        }
      where
        goes_on : (j : ℕ) → i + 1 + j < stop2 → ahead c (i + 1 + j) ≡ k2 + 1 + j
        goes_on j z =
            let there : i + 1 + j ≡ i + (1 + j) = omega arith in
            ap (ahead c) there ∙ r.goes (1 + j) (omega (arith, z)) ∙ omega arith

    pub moving_done : {i k stop : ℕ} {ys : List Entry} → Moving i k stop ys → c.end ≤ i → ys ≡ rearranged c xs
    unfolding rearranged_from
    moving_done {i} {k} {stop} {ys} m l =
        let none : c.end - i ≡ 0 = omega (arith, l) in
        ap (λ (n : ℕ). rearranged_from n i c ys) (sym none) ∙ m.rest
