-- The changes of add and drop make the records of the next queue. Assumes nothing.
--     at-records     a queue in records, place by place
--     one-added, one-dropped
use mathlib.Core.Path.{◌≡◌, refl, ap, sym, ◌∙◌}
use mathlib.Core.Logic.{◌⊎◌, inl, inr}
use mathlib.Core.List.{List, [], ◌∷◌, ◌++◌}
use Prim.Native.Nat.{ℕ, zero, suc, ◌+◌, ◌-◌, ◌≤◌, ◌<◌}
use native.Mathlib.Omega.{arith}
use native.Mathlib.Decide.{dec_lt}
use lib.ListN.{length, get_or, replicate, length-append, get_or-append, get_or-eq_default}
use lib.Seq.{ext_get_or, get_or-append-add, get_or_at}
use Rattle.requests.specs.declared.Entry.{Entry}
use Rattle.sessions.specs.Sessions.{vacant}
use Rattle.lent_sessions.specs.Records.{records_of}
use Rattle.lent_planner.specs.Changes.{nowhere, shifted, rearranged}
use Rattle.lent_sessions.proofs.LentCalls.{length_records}
use Rattle.lent_planner.proofs.ChangeLaws.{length_changed, changed_out, shifted_read, shifted_new}

-- ---- place by place

all_default : {A : Type 0} (n : ℕ) (a : A) (j : ℕ) → get_or (replicate n a) j a ≡ a
all_default zero a j = refl
all_default (suc n) a zero = refl
all_default (suc n) a (suc j) = all_default n a j

pub at_padded : (q : List Entry) (n : ℕ) (j : ℕ) → get_or (q ++ replicate n vacant) j vacant ≡ get_or q j vacant
at_padded [] n j = all_default n vacant j
at_padded (e ∷ q) n zero = refl
at_padded (e ∷ q) n (suc j) = at_padded q n j

pub at_records : (n : ℕ) (q : List Entry) (j : ℕ) → get_or (records_of n q) j vacant ≡ get_or q j vacant
unfolding records_of
at_records n q j = at_padded q (n - length q) j

-- records that have those of a queue in each place are that queue's
pub records_are : (ys : List Entry) (n : ℕ) (q : List Entry) → length ys ≡ n → length q ≤ n → ((j : ℕ) → j < n → get_or ys j vacant ≡ get_or q j vacant) → ys ≡ records_of n q
records_are ys n q len few same =
    ext_get_or vacant ys (records_of n q) (len ∙ sym (length_records n q few)) (λ j l. same j (omega (arith, len)) ∙ sym (at_records n q j))

-- ---- add

-- what is read of a queue in records
padded_at : (ys q : List Entry) (free j : ℕ) → ys ≡ q ++ replicate free vacant → get_or ys j vacant ≡ get_or q j vacant
padded_at ys q free j is = ap (λ (l : List Entry). get_or l j vacant) is ∙ at_padded q free j

added : (ys q : List Entry) (free : ℕ) (e : Entry) → ys ≡ q ++ replicate free vacant → length ys ≤ 256 → length q < length ys
    → (j : ℕ) → j < length ys → get_or (rearranged (shifted (length q) (length q + 1) 1 e) ys) j vacant ≡ get_or (q ++ e ∷ []) j vacant
unfolding shifted nowhere
added ys q free e is few room j l = go (dec_lt j (length q)) (dec_lt (length q) j)
  where
    outside : (j < length q) ⊎ (length q + 1 ≤ j) → get_or (rearranged (shifted (length q) (length q + 1) 1 e) ys) j vacant ≡ get_or q j vacant
    outside h = changed_out (shifted (length q) (length q + 1) 1 e) ys j h (omega arith) ∙ padded_at ys q free j is

    go : Dec (j < length q) → Dec (length q < j) → get_or (rearranged (shifted (length q) (length q + 1) 1 e) ys) j vacant ≡ get_or (q ++ e ∷ []) j vacant
    go (yes h) d = outside (inl h) ∙ sym (get_or-append q (e ∷ []) vacant j h)
    go (no h) (yes m) =
        outside (inr (omega arith))
        ∙ get_or-eq_default q vacant (omega arith)
        ∙ sym (get_or-eq_default (q ++ e ∷ []) vacant (omega (arith, length-append q (e ∷ []))))
    go (no h) (no m) =
        let same : length q ≡ j = omega arith in
        shifted_new (length q) (length q + 1) 1 e ys j (omega arith) (omega arith) (omega arith) (omega (arith, few)) (omega arith) (omega arith)
        ∙ sym (get_or_at q e [] vacant j same)

pub one_added : (ys q : List Entry) (free : ℕ) (e : Entry) → ys ≡ q ++ replicate free vacant → length ys ≤ 256 → length q < length ys
    → rearranged (shifted (length q) (length q + 1) 1 e) ys ≡ records_of (length ys) (q ++ e ∷ [])
one_added ys q free e is few room =
    records_are _ (length ys) (q ++ e ∷ []) (length_changed (shifted (length q) (length q + 1) 1 e) ys) (omega (arith, room, length-append q (e ∷ []))) (λ j l. added ys q free e is few room j l)

-- ---- drop

dropped : (ys a b : List Entry) (x : Entry) (free : ℕ) → ys ≡ (a ++ x ∷ b) ++ replicate free vacant → length ys ≤ 256
    → (j : ℕ) → j < length ys → get_or (rearranged (shifted (length a) (length (a ++ x ∷ b)) 1 vacant) ys) j vacant ≡ get_or (a ++ b) j vacant
unfolding shifted nowhere
dropped ys a b x free is few j l = go (dec_lt j (length a)) (dec_lt (j + 1) (length (a ++ x ∷ b))) (dec_lt j (length (a ++ x ∷ b)))
  where
    size : length (a ++ x ∷ b) ≡ length a + suc (length b)
    size = length-append a (x ∷ b)

    size_all : length (a ++ x ∷ b) ≤ length ys
    size_all = omega (arith, ap length is, length-append (a ++ x ∷ b) (replicate free vacant))

    outside : (j < length a) ⊎ (length (a ++ x ∷ b) ≤ j) → get_or (rearranged (shifted (length a) (length (a ++ x ∷ b)) 1 vacant) ys) j vacant ≡ get_or (a ++ x ∷ b) j vacant
    outside h = changed_out (shifted (length a) (length (a ++ x ∷ b)) 1 vacant) ys j h (omega (arith, size)) ∙ padded_at ys (a ++ x ∷ b) free j is

    past_all : length (a ++ x ∷ b) ≤ j + 1 → get_or (a ++ b) j vacant ≡ vacant
    past_all h = get_or-eq_default (a ++ b) vacant (omega (arith, size, length-append a b))

    -- the place behind x, counted from there
    behind : (m : ℕ) → j ≡ length a + m → get_or (a ++ x ∷ b) (j + 1) vacant ≡ get_or (a ++ b) j vacant
    behind m e =
        ap (λ (k : ℕ). get_or (a ++ x ∷ b) k vacant) (one_more m e)
        ∙ get_or-append-add a (x ∷ b) (suc m) vacant
        ∙ sym (get_or-append-add a b m vacant)
        ∙ ap (λ (k : ℕ). get_or (a ++ b) k vacant) (sym e)
      where
        one_more : (m : ℕ) → j ≡ length a + m → j + 1 ≡ length a + suc m
        one_more m e = omega (arith, e)

    go : Dec (j < length a) → Dec (j + 1 < length (a ++ x ∷ b)) → Dec (j < length (a ++ x ∷ b)) → get_or (rearranged (shifted (length a) (length (a ++ x ∷ b)) 1 vacant) ys) j vacant ≡ get_or (a ++ b) j vacant
    go (yes h) d f = outside (inl h) ∙ get_or-append a (x ∷ b) vacant j h ∙ sym (get_or-append a b vacant j h)
    go (no h) (yes m) f =
        shifted_read (length a) (length (a ++ x ∷ b)) 1 vacant ys j size_all (omega arith) (omega arith) (omega (arith, few)) m
        ∙ padded_at ys (a ++ x ∷ b) free (j + 1) is
        ∙ behind (j - length a) (omega arith)
    go (no h) (no m) (yes f) =
        shifted_new (length a) (length (a ++ x ∷ b)) 1 vacant ys j size_all (omega arith) f (omega (arith, few)) (omega arith) (omega arith)
        ∙ sym (past_all (omega arith))
    go (no h) (no m) (no f) =
        outside (inr (omega arith)) ∙ get_or-eq_default (a ++ x ∷ b) vacant (omega arith) ∙ sym (past_all (omega arith))

pub one_dropped : (ys a b : List Entry) (x : Entry) (free : ℕ) → ys ≡ (a ++ x ∷ b) ++ replicate free vacant → length ys ≤ 256
    → rearranged (shifted (length a) (length (a ++ x ∷ b)) 1 vacant) ys ≡ records_of (length ys) (a ++ b)
one_dropped ys a b x free is few =
    records_are _ (length ys) (a ++ b) (length_changed (shifted (length a) (length (a ++ x ∷ b)) 1 vacant) ys)
    (omega (arith, ap length is, length-append (a ++ x ∷ b) (replicate free vacant), length-append a (x ∷ b), length-append a b)) (λ j l. dropped ys a b x free is few j l)
