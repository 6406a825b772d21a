-- Facts of lists that the queue's laws share. Assumes nothing.
use mathlib.Core.Path.{◌≡◌, refl}
use mathlib.Core.Logic.{◌⊎◌, inl, inr}
use mathlib.Core.List.Memᴰ
use mathlib.Core.List.{List, [], ◌∷◌, ◌++◌, map, flat_map, Memᴰ}
use Prim.Native.Nat.{ℕ, zero, suc}
use lib.ListN.{take}
use Rattle.plans.specs.Lists.{All, nil, cons, Pairwise, empty, add}
use Rattle.layouts.proofs.ListLaws.{all_left}

-- ---- all elements

module _ {A : Type 0} {P : A → Type 0} where
  pub all_middle : (a b : List A) {x : A} → All P (a ++ b) → P x → All P (a ++ x ∷ b)
  all_middle [] b p h = cons h p
  all_middle (y ∷ a) b (cons k p) h = cons k (all_middle a b p h)

  pub all_right : (a : List A) {b : List A} → All P (a ++ b) → All P b
  all_right [] p = p
  all_right (x ∷ a) (cons h p) = all_right a p

-- ---- a function of each element

module _ {A B : Type 0} (f : A → B) where
  pub all_map : {P : B → Type 0} {l : List A} → All (λ (a : A). P (f a)) l → All P (map f l)
  all_map nil = nil
  all_map (cons h p) = cons h (all_map p)

  pub map_all : {P : B → Type 0} (l : List A) → All P (map f l) → All (λ (a : A). P (f a)) l
  map_all [] nil = nil
  map_all (x ∷ l) (cons h p) = cons h (map_all l p)

  pub pairwise_map : {R : B → B → Type 0} {l : List A} → Pairwise (λ (a b : A). R (f a) (f b)) l → Pairwise R (map f l)
  pairwise_map empty = empty
  pairwise_map (add h p) = add (all_map h) (pairwise_map p)

  pub map_pairwise : {R : B → B → Type 0} (l : List A) → Pairwise R (map f l) → Pairwise (λ (a b : A). R (f a) (f b)) l
  map_pairwise [] empty = empty
  map_pairwise (x ∷ l) (add h p) = add (map_all l h) (map_pairwise l p)

  -- one of the first n of the values belongs to one of the first n elements
  pub map_member : (n : ℕ) (l : List A) {b : B} → Memᴰ b (take n (map f l)) → (a : A) × Memᴰ a (take n l) × (b ≡ f a)
  map_member zero l m = absurd (Memᴰ.not-nil m)
  map_member (suc n) [] m = absurd (Memᴰ.not-nil m)
  map_member (suc n) (x ∷ l) {b} m = go (Memᴰ.cases_cons m) (map_member n l)
    where
      go : (b ≡ f x) ⊎ Memᴰ b (take n (map f l)) → (Memᴰ b (take n (map f l)) → (a : A) × Memᴰ a (take n l) × (b ≡ f a))
          → (a : A) × Memᴰ a (x ∷ take n l) × (b ≡ f a)
      go (inl e) below = (x, Memᴰ.head refl, e)
      go (inr k) below = let t = below k in (t.0, Memᴰ.tail t.1, t.2)

-- each list that is joined
pub all_joined : {A B : Type 0} {P : B → Type 0} (f : A → List B) (l : List A) {a : A} → All P (flat_map f l) → Memᴰ a l → All P (f a)
unfolding flat_map
all_joined f [] p m = absurd (Memᴰ.not-nil m)
all_joined {P = P} f (x ∷ l) {a} p m = go (Memᴰ.cases_cons m) (all_joined f l (all_right (f x) p))
  where
    go : (a ≡ x) ⊎ Memᴰ a l → (Memᴰ a l → All P (f a)) → All P (f a)
    go (inl e) below = rw e (all_left (f x) (flat_map f l) p)
    go (inr k) below = below k

-- what is among the first n is an element
pub among : {A : Type 0} {a : A} (n : ℕ) (l : List A) → Memᴰ a (take n l) → Memᴰ a l
among zero l m = absurd (Memᴰ.not-nil m)
among (suc n) [] m = m
among {a = a} (suc n) (x ∷ l) m = go (Memᴰ.cases_cons m) (among n l)
  where
    go : (a ≡ x) ⊎ Memᴰ a (take n l) → (Memᴰ a (take n l) → Memᴰ a l) → Memᴰ a (x ∷ l)
    go (inl e) below = Memᴰ.head e
    go (inr k) below = Memᴰ.tail (below k)

-- ---- all pairs

pub pairwise_right : {A : Type 0} {R : A → A → Type 0} (a : List A) {b : List A} → Pairwise R (a ++ b) → Pairwise R b
pairwise_right [] p = p
pairwise_right (x ∷ a) (add h p) = pairwise_right a p

module _ {A : Type 0} {R : A → A → Type 0} (symmetric : (a b : A) → R a b → R b a) where
  -- one more element between two parts of a list
  pub pairwise_middle : (a b : List A) {x : A} → All (R x) (a ++ b) → Pairwise R (a ++ b) → Pairwise R (a ++ x ∷ b)
  pairwise_middle [] b h p = add h p
  pairwise_middle (y ∷ a) b {x} (cons k h) (add g p) = add (all_middle a b g (symmetric x y k)) (pairwise_middle a b h p)
