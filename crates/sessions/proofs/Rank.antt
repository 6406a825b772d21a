-- The bound behind demand 3, over any machine, any rank and any calls, also such that complete several turns. Assumes nothing.
--     Progress    what one call makes of an entry that waits with a rank: no call raises it, and every turn that leaves the entry out lowers it
--     within      an entry of rank n is then dropped, or served by one of the first n + 1 turns
use mathlib.Core.Path.{◌≡◌}
use mathlib.Core.Logic.{◌⊎◌, inl, inr}
use mathlib.Core.List.Memᴰ
use mathlib.Core.List.{List, [], ◌∷◌, ◌++◌, append-nil, Memᴰ}
use Prim.Native.Nat.{ℕ, zero, suc, ◌+◌, ◌≤◌}
use native.Mathlib.Omega.{arith}
use lib.ListN.{length, take, length-append}

-- one of the turns serves
pub record OneServes {Turn : Type 0} (Serves : Turn → Type 0) (turns : List Turn) : Type 0 where
  pub turn : Turn
  pub member : Memᴰ turn turns
  pub serves : Serves turn

-- what is among the first of two lists joined, where there is more room
pub among_left : {A : Type 0} {x : A} (n m : ℕ) (a b : List A) → n ≤ m → Memᴰ x (take n a) → Memᴰ x (take m (a ++ b))
among_left zero m a b le h = absurd (Memᴰ.not-nil h)
among_left (suc n) m [] b le h = absurd (Memᴰ.not-nil h)
among_left (suc n) zero (y ∷ a) b le h = absurd (omega arith)
among_left {x = x} (suc n) (suc m) (y ∷ a) b le h = go (Memᴰ.cases_cons h) (among_left n m a b (omega arith))
  where
    go : (x ≡ y) ⊎ Memᴰ x (take n a) → (Memᴰ x (take n a) → Memᴰ x (take m (a ++ b))) → Memᴰ x (y ∷ take m (a ++ b))
    go (inl e) below = Memᴰ.head e
    go (inr k) below = Memᴰ.tail (below k)

-- what is among the first of the second list, where there is room for the first list as well
among_right : {A : Type 0} {x : A} (n m : ℕ) (a b : List A) → length a + n ≤ m → Memᴰ x (take n b) → Memᴰ x (take m (a ++ b))
among_right n m [] b le h = rw append-nil at (among_left n m b [] (omega arith) h)
among_right n zero (y ∷ a) b le h = absurd (omega arith)
among_right n (suc m) (y ∷ a) b le h = Memᴰ.tail (among_right n m a b (omega arith) h)

module _ {State Call Turn : Type 0} (next : State → Call → State) (turns_by : State → Call → List Turn) where
  -- the turns that a list of calls completes
  unfoldable pub turns_in : State → List Call → List Turn
  turns_in s [] = []
  turns_in s (c ∷ cs) = turns_by s c ++ turns_in (next s c) cs

  -- a call of the list drops the entry, after at most n turns, and those before it keep it
  module _ (Drops Keeps : State → Call → Type 0) where
    pub data DroppedIn : State → List Call → ℕ → Type 0 where
      now : {s : State} {c : Call} {cs : List Call} {n : ℕ} → Drops s c → DroppedIn s (c ∷ cs) n
      later : {s : State} {c : Call} {cs : List Call} {k n : ℕ} → Keeps s c → length (turns_by s c) + k ≤ n → DroppedIn (next s c) cs k → DroppedIn s (c ∷ cs) n

    -- a turn serves the entry, and it waits in a state with a rank
    module _ (Serves : Turn → Type 0) (Waits : State → ℕ → Type 0) where
      pub data Progress (s : State) (c : Call) (n : ℕ) : Type 0 where
        dropped : Drops s c → Progress s c n
        served : OneServes Serves (take (suc n) (turns_by s c)) → Progress s c n
        stays : (k : ℕ) → Keeps s c → Waits (next s c) k → length (turns_by s c) + k ≤ n → Progress s c n

      pub within : ((s : State) (c : Call) (n : ℕ) → Waits s n → Progress s c n)
          → (cs : List Call) (s : State) (n : ℕ) → Waits s n → suc n ≤ length (turns_in s cs) → DroppedIn s cs n ⊎ OneServes Serves (take (suc n) (turns_in s cs))
      unfolding turns_in
      within progress [] s n w enough = absurd (omega arith)
      within progress (c ∷ cs) s n w enough = go (progress s c n w) (within progress cs (next s c))
        where
          rest : List Turn
          rest = turns_in (next s c) cs

          after_c : (k : ℕ) → Keeps s c → length (turns_by s c) + k ≤ n → DroppedIn (next s c) cs k ⊎ OneServes Serves (take (suc k) rest)
              → DroppedIn s (c ∷ cs) n ⊎ OneServes Serves (take (suc n) (turns_by s c ++ rest))
          after_c k keeps fewer (inl d) = inl (later keeps fewer d)
          after_c k keeps fewer (inr o) =
              inr (record { turn = o.turn; member = among_right (suc k) (suc n) (turns_by s c) rest (omega arith) o.member; serves = o.serves })

          go : Progress s c n
              → ((k : ℕ) → Waits (next s c) k → suc k ≤ length rest → DroppedIn (next s c) cs k ⊎ OneServes Serves (take (suc k) rest))
              → DroppedIn s (c ∷ cs) n ⊎ OneServes Serves (take (suc n) (turns_by s c ++ rest))
          go (dropped d) below = inl (now d)
          go (served o) below =
              inr (record { turn = o.turn; member = among_left (suc n) (suc n) (turns_by s c) rest (omega arith) o.member; serves = o.serves })
          go (stays k keeps waits fewer) below = after_c k keeps fewer (below k waits (omega (arith, length-append (turns_by s c) rest)))
