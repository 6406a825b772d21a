-- What holds at each place of a write list: of the writes before it, and of the write there. Assumes nothing.
--     last-here, last-other, last-is-held   the last value written to a register, one write later; the register holds it
--     last-member, member-other             a value that has been written, one write later
--     along-then, along-at                  one list after another, and one place of a list
--     rows-along                            the writes of a set, by an invariant
use mathlib.Core.Path.{◌≡◌, refl, ap, subst, sym, ◌∙◌}
use mathlib.Core.Logic.{◌≢◌}
use mathlib.Core.Bool.{Bool, true, false}
use mathlib.Core.List.{List, [], ◌∷◌, ◌++◌, append_assoc, append-nil, Memᴰ}
use Prim.Native.Nat.{ℕ, zero, suc, ◌+◌, ◌*◌, ◌<◌}
use native.Mathlib.Nat.{le_refl}
use native.Mathlib.Omega.{arith}
use borrow.Author.Tests.{eq-eqb}
use lib.ListN.{get_or}
use Rattle.requests.specs.declared.CounterSet.{CounterSet}
use Rattle.requests.specs.Devices.{has}
use Rattle.plans.specs.Lists.{nil, cons}
use Rattle.plans.proofs.Sets.{all_append}
use Rattle.layouts.specs.Writes.{Write, row, rows}
use Rattle.layouts.specs.RestWhileWritten.{LastWritten, LastIsHeld}
use Rattle.layouts.proofs.RegistersAfter.{after, apply_after, after_append, after_other}

-- ---- the last value written to a register

pub last_here : (ws : List Write) (a v : ℕ) → LastWritten (ws ++ (a, v) ∷ []) a v
last_here ws a v = record { earlier = ws; since = []; list = refl; no_other = nil }

pub last_other : {ws : List Write} {a v : ℕ} (w : Write) → w.0 ≢ a → LastWritten ws a v → LastWritten (ws ++ w ∷ []) a v
last_other {ws} {a} {v} w other last =
    record {
      earlier = last.earlier;
      since = last.since ++ w ∷ [];
      list = ap (λ (l : List Write). l ++ w ∷ []) last.list ∙ append_assoc last.earlier ((a, v) ∷ last.since) (w ∷ []);
      no_other = all_append last.no_other (cons other nil);
    }

pub last_is_held : LastIsHeld
unfolding after
last_is_held ws a v last registers =
    apply_after ws registers a
    ∙ ap (λ (l : List Write). after l a (registers a)) last.list
    ∙ after_append last.earlier ((a, v) ∷ last.since) a (registers a)
    ∙ rw (eq-eqb a a refl) (after_other a v last.no_other)

-- ---- a value that has been written

member_right : {x : Write} (before : List Write) {ws : List Write} → Memᴰ x ws → Memᴰ x (before ++ ws)
member_right [] m = m
member_right (w ∷ before) m = Memᴰ.tail (member_right before m)

pub last_member : {ws : List Write} {a v : ℕ} → LastWritten ws a v → Memᴰ (a, v) ws
last_member {ws} {a} {v} last = subst (λ (l : List Write). Memᴰ (a, v) l) (sym last.list) (member_right last.earlier (Memᴰ.head refl))

pub member_other : {x : Write} {ws : List Write} (w : Write) → Memᴰ x ws → Memᴰ x (ws ++ w ∷ [])
member_other w (Memᴰ.head e) = Memᴰ.head e
member_other w (Memᴰ.tail m) = Memᴰ.tail (member_other w m)

-- ---- each place of a list

module _ (P : List Write → Write → Type 0) where
  -- P of each write of the list, where it comes after the writes `before`
  abbrev pub Along : List Write → List Write → Type 0
  Along before [] = Unit {0}
  Along before (w ∷ ws) = P before w × Along (before ++ w ∷ []) ws

  along_append : (before xs ys : List Write) → Along before xs → Along (before ++ xs) ys → Along before (xs ++ ys)
  along_append before [] ys h g = subst (λ (l : List Write). Along l ys) (append-nil before) g
  along_append before (w ∷ xs) ys h g =
      (h.0, along_append (before ++ w ∷ []) xs ys h.1 (subst (λ (l : List Write). Along l ys) (sym (append_assoc before (w ∷ []) xs)) g))

  at_place : (earlier before : List Write) (w : Write) (later : List Write) → Along earlier (before ++ w ∷ later) → P (earlier ++ before) w
  at_place earlier [] w later h = subst (λ (l : List Write). P l w) (sym (append-nil earlier)) h.0
  at_place earlier (x ∷ before) w later h =
      subst (λ (l : List Write). P l w) (append_assoc earlier (x ∷ []) before) (at_place (earlier ++ x ∷ []) before w later h.1)

  pub along_at : (before : List Write) (w : Write) (later : List Write) → Along [] (before ++ w ∷ later) → P before w
  along_at before w later h = at_place [] before w later h

  -- one list after another, by what holds between them
  pub along_then : (I J : List Write → Type 0) (before xs ys : List Write) → Along before xs × I (before ++ xs)
      → ((b : List Write) → I b → Along b ys × J (b ++ ys)) → Along before (xs ++ ys) × J (before ++ (xs ++ ys))
  along_then I J before xs ys h next =
      let g = next (before ++ xs) h.1 in
      (along_append before xs ys h.0 g.0, subst J (append_assoc before xs ys) g.1)

  -- the writes of a set, by what holds before counter k
  module _ (I : ℕ → List Write → Type 0) (s : CounterSet) (base step : ℕ) (values : List ℕ) where
    pub rows_along : (n : ℕ)
        → ((k : ℕ) → k < n → has s k ≡ true → (b : List Write) → I k b → P b (base + step * k, get_or values k 0) × I (suc k) (b ++ (base + step * k, get_or values k 0) ∷ []))
        → ((k : ℕ) → has s k ≡ false → (b : List Write) → I k b → I (suc k) b)
        → (before : List Write) → I 0 before → Along before (rows n s base step values) × I n (before ++ rows n s base step values)
    unfolding rows
    rows_along zero each skip before h = (tt, subst (I 0) (sym (append-nil before)) h)
    rows_along (suc m) each skip before h =
        along_then (I m) (I (suc m)) before (rows m s base step values) (row (has s m) (base + step * m) (get_or values m 0))
        (rows_along m (λ k l. each k (omega arith)) skip before h) (one (has s m) refl)
      where
        one : (on : Bool) → has s m ≡ on → (b : List Write) → I m b
            → Along b (row on (base + step * m) (get_or values m 0)) × I (suc m) (b ++ row on (base + step * m) (get_or values m 0))
        one true e b i = let t = each m (le_refl (suc m)) e b i in ((t.0, tt), t.1)
        one false e b i = (tt, subst (I (suc m)) (sym (append-nil b)) (skip m e b i))
