-- Laws of lists: what holds of all elements, the one value of a list, tables by the number of each element, and lists that are stored. Assumes nothing.
use mathlib.Core.Path.{◌≡◌, refl, ap, ap₂, sym, subst, ◌∙◌}
use mathlib.Core.Logic.{◌⊎◌, inl, inr}
use mathlib.Core.Bool.{true}
use mathlib.Core.List.Memᴰ
use mathlib.Core.List.{List, [], ◌∷◌, ◌++◌, map, map-append, Memᴰ}
use Prim.Native.Nat.{ℕ, zero, suc, ◌+◌, ◌<◌}
use native.Mathlib.Nat.{le_refl}
use native.Mathlib.Decide.{ℕ_discrete}
use native.Mathlib.Omega.{arith}
use lib.ListN.{length, get_or, set, replicate}
use lib.Seq.{sets}
use Rattle.requests.specs.Bits.{in_list}
use Rattle.requests.proofs.BitMembers.{in_member, member_in}
use Rattle.plans.specs.Lists.{All, nil, cons, OneValue}
use Rattle.plans.proofs.Sets.{all_imp}
use Rattle.layouts.specs.Layout.{tabulate}
use Rattle.layouts.specs.Settings.{head_or}

module _ {A : Type 0} {P : A → Type 0} where
  pub all_member : {a : A} {l : List A} → All P l → Memᴰ a l → P a
  all_member (cons h hs) (Memᴰ.head e) = subst P (sym e) h
  all_member (cons h hs) (Memᴰ.tail m) = all_member hs m
  all_member {a = a} nil x3 = elim x3 [ ]

  -- the front of a list
  pub all_left : (xs ys : List A) → All P (xs ++ ys) → All P xs
  all_left [] ys h = nil
  all_left (x ∷ xs) ys (cons h hs) = cons h (all_left xs ys hs)

  -- the first element, where there is one
  pub all_head : (a : A) (l : List A) → P a → All P l → P (head_or a l)
  all_head a [] p h = p
  all_head a (x ∷ l) p (cons g gs) = g

-- the one value is the first element
pub one_value : {A : Type 0} (a : A) (l : List A) → OneValue l → All (λ (x : A). x ≡ head_or a l) l
one_value a [] o = nil
one_value {A} a (x ∷ l) o = go o.0 o.1
  where
    go : (v : A) → All (λ (y : A). y ≡ v) (x ∷ l) → All (λ (y : A). y ≡ x) (x ∷ l)
    go v (cons e es) = cons refl (all_imp (λ y q. q ∙ sym e) es)

module _ {A : Type 0} where
  pub tabulate_same : (n : ℕ) (f g : ℕ → A) → ((k : ℕ) → k < n → f k ≡ g k) → tabulate n f ≡ tabulate n g
  unfolding tabulate
  tabulate_same zero f g h = refl
  tabulate_same (suc n) f g h = rw (tabulate_same n f g (λ k l. h k (omega arith)), h n (le_refl (suc n)))

  -- an element of a table stands at a number
  pub tabulate_member : (n : ℕ) (f : ℕ → A) (a : A) → Memᴰ a (tabulate n f) → (k : ℕ) × (k < n) × (a ≡ f k)
  unfolding tabulate
  tabulate_member zero f a m = absurd (Memᴰ.not-nil m)
  tabulate_member (suc n) f a m = go (tabulate_member n f a) (Memᴰ.append_cases (tabulate n f) m)
    where
      go : (Memᴰ a (tabulate n f) → (k : ℕ) × (k < n) × (a ≡ f k)) → Memᴰ a (tabulate n f) ⊎ Memᴰ a (f n ∷ []) → (k : ℕ) × (k < suc n) × (a ≡ f k)
      go below (inl x) = let r = below x in (r.0, omega (arith, r.1), r.2)
      go below (inr x) = (n, le_refl (suc n), Memᴰ.eq_of_singleton x)

pub map_tabulate : {A B : Type 0} (g : A → B) (n : ℕ) (f : ℕ → A) → map g (tabulate n f) ≡ tabulate n (λ k. g (f k))
unfolding tabulate
map_tabulate g zero f = refl
map_tabulate g (suc n) f = rw (map-append g (tabulate n f) (f n ∷ []), map_tabulate g n f)

pub map_replicate : {A B : Type 0} (g : A → B) (n : ℕ) (a : A) → map g (replicate n a) ≡ replicate n (g a)
map_replicate g zero a = refl
map_replicate g (suc n) a = rw (map_replicate g n a)

-- a list of zeros has a zero everywhere
pub zero_at : (n k : ℕ) → ◌≡◌ {A = ℕ} (get_or (replicate n 0) k 0) 0
zero_at zero k = refl
zero_at (suc n) zero = refl
zero_at (suc n) (suc k) = zero_at n k

-- one list stored after another is their join
pub sets_append : {A : Type 0} (l : List A) (i : ℕ) (xs ys : List A) → sets l i (xs ++ ys) ≡ sets (sets l i xs) (i + length xs) ys
sets_append l i [] ys = ap (λ (k : ℕ). sets l k ys) (let e : i ≡ i + 0 = omega arith in e)
sets_append l i (x ∷ xs) ys =
    sets_append (set l i x) (suc i) xs ys
    ∙ ap (λ (k : ℕ). sets (sets (set l i x) (suc i) xs) k ys) (let e : suc i + length xs ≡ i + suc (length xs) = omega arith in e)

-- a list whose elements are each left as they were
pub map_same : {A : Type 0} (f : A → A) {l : List A} → All (λ (a : A). f a ≡ a) l → map f l ≡ l
map_same f nil = refl
map_same f (cons h hs) = ap₂ ◌∷◌ h (map_same f hs)

-- two lists changed one after the other
pub map_joined : {A : Type 0} (f : A → A) (xs ys : List A) {zs ws : List A} → map f xs ≡ zs → map f ys ≡ ws → map f (xs ++ ys) ≡ zs ++ ws
map_joined f xs ys e q = map-append f xs ys ∙ ap₂ ◌++◌ e q

-- what a table has at a number is in it
pub table_in : (n : ℕ) (f : ℕ → ℕ) (k : ℕ) → k < n → in_list (tabulate n f) (f k) ≡ true
unfolding tabulate
table_in zero f k l = absurd (omega arith)
table_in (suc n) f k l =
    member_in (tabulate n f ++ f n ∷ []) (f k)
    (elim (ℕ_discrete n k) [
      | yes e ↦ Memᴰ.append_right (tabulate n f) (Memᴰ.head (ap f (sym e)))
      | no o ↦ Memᴰ.append_left (f n ∷ []) (in_member (tabulate n f) (f k) (table_in n f k (let y = o in omega arith)))
    ])
