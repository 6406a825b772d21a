-- The counters of a set below n as a list: `size n` many, all different. So counters of the set that differ are at most as many, by `no-more`. Assumes nothing.
use mathlib.Core.Path.{◌≡◌, refl}
use mathlib.Core.Logic.{◌≢◌, ◌⊎◌, ⊎_elim}
use mathlib.Core.Bool.{Bool, true, false}
use mathlib.Core.List.{List, [], ◌∷◌, Memᴰ}
use Prim.Native.Nat.{ℕ, zero, suc, ◌+◌, ◌<◌, ◌≤◌}
use native.Mathlib.Omega.{arith}
use native.Mathlib.Nat.{eq-or-lt_of_le}
use lib.ListN.{length}
use Rattle.requests.specs.declared.CounterSet.{CounterSet}
use Rattle.requests.specs.Choice.{pick}
use Rattle.requests.specs.Devices.{has, size}
use Rattle.plans.specs.Lists.{All, nil, cons, Pairwise, empty, add}
use Rattle.plans.proofs.Sets.{all_imp}
use Rattle.plans.proofs.Others.{no_more}

-- the counters of the set below n, the highest first
unfoldable pub members : ℕ → CounterSet → List ℕ
members zero s = []
members (suc k) s = pick (has s k) (k ∷ members k s) (members k s)

-- a counter of the set below n
abbrev pub MemberBelow : ℕ → CounterSet → ℕ → Type 0
MemberBelow n s k = (k < n) × (has s k ≡ true)

module _ (s : CounterSet) where
  pub members_length : (n : ℕ) → length (members n s) ≡ size n s
  unfolding members size
  members_length zero = refl
  members_length (suc k) = go (has s k) (members_length k)
    where
      go : (b : Bool) → length (members k s) ≡ size k s → length (pick b (k ∷ members k s) (members k s)) ≡ size k s + pick b 1 0
      go true below = omega (arith, below)
      go false below = omega (arith, below)

  pub members_below : (n : ℕ) → All (MemberBelow n s) (members n s)
  unfolding members
  members_below zero = nil
  members_below (suc k) = go (has s k) refl (all_imp (λ j m. (omega (arith, m.0), m.1)) (members_below k))
    where
      go : (b : Bool) → has s k ≡ b → All (MemberBelow (suc k) s) (members k s) → All (MemberBelow (suc k) s) (pick b (k ∷ members k s) (members k s))
      go true e below = cons {a = k} (omega arith, e) below
      go false e below = below

  pub members_differ : (n : ℕ) → Pairwise ◌≢◌ (members n s)
  unfolding members
  members_differ zero = empty
  members_differ (suc k) = go (has s k) (members_differ k)
    where
      go : (b : Bool) → Pairwise ◌≢◌ (members k s) → Pairwise ◌≢◌ (pick b (k ∷ members k s) (members k s))
      go true below = add {a = k} (all_imp (λ j m e. omega (arith, m.0, e)) (members_below k)) below
      go false below = below

  pub member : (n j : ℕ) → MemberBelow n s j → Memᴰ j (members n s)
  unfolding members
  member zero j m = absurd (omega (arith, m.0))
  member (suc k) j m = go (has s k) refl (λ l. member k j (l, m.1))
    where
      at_or_below : (j ≡ k) ⊎ (j < k)
      at_or_below = eq-or-lt_of_le (omega (arith, m.0))

      clash : j ≡ k → has s k ≡ false → ⊥
      clash same e = let z : ◌≡◌ {A = ℕ} 0 1 = (let t = rw same at m.1 in cc) in omega arith

      go : (b : Bool) → has s k ≡ b → (j < k → Memᴰ j (members k s)) → Memᴰ j (pick b (k ∷ members k s) (members k s))
      go true e below = ⊎_elim (λ same. Memᴰ.head same) (λ l. Memᴰ.tail (below l)) at_or_below
      go false e below = ⊎_elim (λ same. absurd (clash same e)) below at_or_below

pub size_at_most : (n : ℕ) (s : CounterSet) → size n s ≤ n
unfolding size
size_at_most zero s = omega arith
size_at_most (suc k) s = go (has s k) (size_at_most k s)
  where
    go : (b : Bool) → size k s ≤ k → size k s + pick b 1 0 ≤ suc k
    go true below = omega (arith, below)
    go false below = omega (arith, below)

-- counters of the set that differ are at most as many as it has
pub differ_at_most : (n : ℕ) (s : CounterSet) (ks : List ℕ) → Pairwise ◌≢◌ ks → All (MemberBelow n s) ks → length ks ≤ size n s
differ_at_most n s ks d h = omega (arith, no_more d (members n s) (all_imp (member s n) h), members_length s n)
