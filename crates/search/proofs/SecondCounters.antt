-- A latency request whose first counter is taken: its second counter and the rest have the plan of a request that takes one counter, and the
-- pair stands in that plan where the counter stood. Assumes nothing.
use Rattle.std.proofs.lemmas.Option.{none-some}
use Rattle.std.specs.Prelude.{Option, None, Some}
use mathlib.Core.Path.{◌≡◌, refl, ap, sym, ◌∙◌}
use mathlib.Core.List.{List, ◌∷◌}
use Prim.Native.Nat.{ℕ, zero, suc, ◌+◌, ◌-◌, ◌*◌, ◌/◌, ◌%◌, ◌<◌, ◌≤◌}
use native.Mathlib.Nat.{mul-le-mul, suc-mul}
use native.Mathlib.Numerals.{add-one}
use native.Mathlib.Omega.{arith}
use Rattle.requests.specs.declared.CounterSet.{CounterSet}
use Rattle.requests.specs.declared.Request.TheVariants.{Latency}
use Rattle.plans.specs.declared.Place.{Place}
use Rattle.plans.specs.declared.Place.TheVariants.{Counter, Pair}
use Rattle.plans.specs.declared.Room.{Room}
use Rattle.plans.specs.Places.{first, second}
use Rattle.plans.specs.Search.{take_counter, place_of, width, first_from, put_first}
use Rattle.search.specs.Remaining.{plan_after, plan_counter}
use Rattle.plans.specs.Packed.{code_of, packed}
use Rattle.search.proofs.Unpacking.{none_packed, rest_code}
use Rattle.search.proofs.Trying.{first_none, first_some, tries_taking, tries_from, place_tried, counters, counter_tried}

-- counter k alone, and the pair (j, k), each before the same rest
module _ (alone paired rest : ℕ → Option (List Place)) (j base n : ℕ) (few : n ≤ 8)
    (one : (k : ℕ) → alone k ≡ put_first (Counter k) (rest k)) (two : (k p : ℕ) → k < n → p ≡ base + k → paired p ≡ put_first (Pair j k) (rest k)) where
  -- where a counter leads to a plan, its pair is the first that does
  pair_hit : (left k p more x : ℕ) → k + left ≡ n → p ≡ base + k → x ≡ packed (first_from alone k left) → (x ≡ 0 → ⊥)
      → x / 64 * 64 + j * 8 + x % 64 / 8 ≡ packed (first_from paired p (left + more))
  unfolding first_from put_first packed code_of first second
  pair_hit zero k p more x sum at e found = absurd (found e)
  pair_hit (suc left) k p more x sum at e found = go (pair_hit left (suc k) (suc p) more x (omega arith) (omega arith)) (rest k) (one k) (two k p (omega arith) at)
    where
      ahead : suc left + more ≡ suc (left + more)
      ahead = omega arith

      go : (x ≡ packed (first_from alone (suc k) left) → (x ≡ 0 → ⊥) → x / 64 * 64 + j * 8 + x % 64 / 8 ≡ packed (first_from paired (suc p) (left + more)))
          → (o : Option (List Place)) → alone k ≡ put_first (Counter k) o → paired p ≡ put_first (Pair j k) o
          → x / 64 * 64 + j * 8 + x % 64 / 8 ≡ packed (first_from paired p (suc left + more))
      go later None f g = rw (ahead, first_none paired p (left + more) g) (later (e ∙ ap packed (first_none alone k left f)) found)
      go later (Some ps) f g =
          let code : x ≡ code_of ps * 64 + k * 8 + 0 = e ∙ ap packed (first_some alone k left (Counter k ∷ ps) f) in
          rw (ahead, first_some paired p (left + more) (Pair j k ∷ ps) g) (omega (arith, code))

  -- where no counter does, no pair does
  pair_none : (left k p q more : ℕ) → k + left ≡ n → p ≡ base + k → q ≡ base + n → packed (first_from alone k left) ≡ 0
      → first_from paired p (left + more) ≡ first_from paired q more
  unfolding put_first
  pair_none zero k p q more sum at end z = let same : p ≡ q = omega arith in let all : 0 + more ≡ more = omega arith in rw (same, all)
  pair_none (suc left) k p q more sum at end z = go (pair_none left (suc k) (suc p) q more (omega arith) (omega arith) end) (rest k) (one k) (two k p (omega arith) at)
    where
      go : (packed (first_from alone (suc k) left) ≡ 0 → first_from paired (suc p) (left + more) ≡ first_from paired q more)
          → (o : Option (List Place)) → alone k ≡ put_first (Counter k) o → paired p ≡ put_first (Pair j k) o
          → first_from paired p (suc left + more) ≡ first_from paired q more
      go later None f g =
          let ahead : suc left + more ≡ suc (left + more) = omega arith in
          rw (ahead, first_none paired p (left + more) g) (later (sym (ap packed (first_none alone k left f)) ∙ z))
      go later (Some ps) f g = absurd (none-some (Counter k ∷ ps) (sym (none_packed _ z) ∙ first_some alone k left (Counter k ∷ ps) f))

-- the number of a plan that begins with a counter
alone_small : (alone rest : ℕ → Option (List Place)) → ((k : ℕ) → alone k ≡ put_first (Counter k) (rest k)) → ((k : ℕ) → packed (rest k) < 8796093022208)
    → (left k : ℕ) → k + left ≤ 8 → packed (first_from alone k left) < 562949953421312
unfolding first_from put_first packed code_of first second
alone_small alone rest one small zero k few = omega arith
alone_small alone rest one small (suc left) k few = go (alone_small alone rest one small left (suc k) (omega arith)) (rest k) (one k) (small k)
  where
    go : packed (first_from alone (suc k) left) < 562949953421312 → (o : Option (List Place)) → alone k ≡ put_first (Counter k) o → packed o < 8796093022208
        → packed (first_from alone k (suc left)) < 562949953421312
    go later None f g = rw (first_none alone k left f) later
    go later (Some ps) f g = rw (first_some alone k left (Counter k ∷ ps) f) (omega (arith, g))

-- the number of a plan that takes one counter for the first of at most 8 requests
pub second_small : (n : ℕ) → n ≤ 8 → (rows : List ℕ) (next count : ℕ) (b : CounterSet) (room : Room) (x : ℕ) → count - next ≤ 7 → x ≡ packed (plan_counter n rows next count b room)
    → x < 562949953421312
second_small n few rows next count b room x l e =
    rw e
    (alone_small (counters n rows next count b room) _ (counter_tried n rows next count b room)
    (λ k. rest_code n few rows next count (take_counter b k room) _ l refl) n 0 (omega arith))

-- ---- the second counter in the room that the first has left

module _ (n : ℕ) (few : n ≤ 8) (rows : List ℕ) (at count : ℕ) (t : ℕ) (a b : CounterSet) (taken : ℕ → ℕ → Option Room) (room : Room) (j : ℕ)
    (below : j < n) (seconds : (k : ℕ) → taken j k ≡ take_counter b k room) where
  abbrev tries : ℕ → Option (List Place)
  tries = tries_taking n rows at count (Latency t a b) taken

  abbrev pairs : ℕ → ℕ → Option (List Place)
  pairs = tries_from n n tries

  -- the plan of the rest, where the second counter is k
  abbrev rest : ℕ → Option (List Place)
  rest k = plan_after n rows (at + 1) count (take_counter b k room)

  paired : (k p : ℕ) → k < n → p ≡ j * n + k → tries p ≡ put_first (Pair j k) (rest k)
  unfolding place_of width
  paired k p l e = rw (e, ← seconds k) (place_tried n rows at count (Latency t a b) taken n j k refl l)

  -- the pairs with the first counter j, and those behind them
  row : (j + 1) * n ≡ j * n + n
  row = rw (add-one j) (suc-mul j n)

  behind : n * n - (j * n + 0) ≡ n + (n * n - ((j + 1) * n + 0))
  behind =
      let inside : (j + 1) * n ≤ n * n = mul-le-mul (omega arith) (omega arith) in
      omega (arith, row, inside)

  module _ (x : ℕ) (e : x ≡ packed (plan_counter n rows (at + 1) count b room)) where
    pub second_hit : (x ≡ 0 → ⊥) → x / 64 * 64 + j * 8 + x % 64 / 8 ≡ packed (pairs j 0)
    second_hit found =
        rw behind
        (pair_hit (counters n rows (at + 1) count b room) tries rest j (j * n) n few (counter_tried n rows (at + 1) count b room) paired
        n 0 (j * n + 0) (n * n - ((j + 1) * n + 0)) x (omega arith) refl e found)

    pub second_none : x ≡ 0 → pairs j 0 ≡ pairs (j + 1) 0
    second_none z =
        rw behind
        (pair_none (counters n rows (at + 1) count b room) tries rest j (j * n) n few (counter_tried n rows (at + 1) count b room) paired
        n 0 (j * n + 0) ((j + 1) * n + 0) (n * n - ((j + 1) * n + 0)) (omega arith) refl (omega (arith, row)) (sym e ∙ z))
