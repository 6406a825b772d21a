-- The change of a turn makes the records of the next queue: those passed over, then those taken. Assumes nothing.
--     read-passed, read-taken    where the records of the next queue are read
--     one-turn
use mathlib.Core.Path.{◌≡◌, refl, ap, sym, ◌∙◌}
use mathlib.Core.Logic.{inr}
use mathlib.Core.List.{List, [], ◌∷◌, ◌++◌}
use mathlib.Core.Bool.{Bool, true, false}
use Prim.Native.Nat.{ℕ, zero, suc, ◌+◌, ◌-◌, ◌≤◌, ◌<◌}
use native.Mathlib.Omega.{arith}
use native.Mathlib.Decide.{dec_lt}
use lib.ListN.{length, get_or, replicate, length-append, get_or-append, get_or-eq_default}
use lib.Seq.{get_or-append-add}
use borrow.Author.Tests.{le-leb, lt-leb}
use Rattle.requests.specs.declared.Setup.{Setup}
use Rattle.requests.specs.declared.Entry.{Entry}
use Rattle.requests.specs.Devices.{capacity}
use Rattle.sessions.specs.Choose.{taken_after, passed_after}
use Rattle.sessions.specs.Turns.{fits, taken, passed}
use Rattle.sessions.specs.Sessions.{vacant}
use Rattle.sessions.proofs.Takes.{taken_none, passed_none, taken_yes, taken_no, passed_yes, passed_no}
use Rattle.sessions.proofs.Rearranged.{length_turned}
use Rattle.planner.specs.Selections.{in_array}
use Rattle.lent_sessions.specs.Records.{records_of}
use Rattle.lent_planner.specs.Changes.{past, past_all_lem, ahead, source, nowhere, rearranged}
use Rattle.lent_planner.specs.Choices.{marks_after, marks}
use Rattle.lent_planner.specs.declared.Change.{Change}
use Rattle.lent_planner.proofs.Marks.{marks_yes, marks_no, marks_nothing}
use Rattle.lent_planner.proofs.ChangeLaws.{length_changed, changed_in, changed_out, placed_ahead, placed_fresh, all_nowhere}
use Rattle.lent_planner.proofs.QueueChanges.{at_padded, records_are}

past_at : (a k : ℕ) → a ≤ k → past a k ≡ k + 1
unfolding past
past_at a k l = rw (le-leb a k l)

past_before : (a k : ℕ) → k < a → past a k ≡ k
unfolding past
past_before a k l = rw (lt-leb a k l)

all_cons : (a : ℕ) (l : List ℕ) (k : ℕ) → past_all_lem (a ∷ l) k ≡ past_all_lem l (past a k)
unfolding past_all_lem
all_cons a l k = refl

all_none : (k : ℕ) → past_all_lem [] k ≡ k
unfolding past_all_lem
all_none k = refl

all_append : (a b : List ℕ) (k : ℕ) → past_all_lem (a ++ b) k ≡ past_all_lem b (past_all_lem a k)
all_append [] b k = ap (past_all_lem b) (sym (all_none k))
all_append (x ∷ a) b k = all_cons x (a ++ b) k ∙ all_append a b (past x k) ∙ ap (past_all_lem b) (sym (all_cons x a k))

-- where a record of the next queue is read
record Read (q : List Entry) (l : List ℕ) (i j : ℕ) (x : Entry) : Type 0 where
  place : ℕ
  read : past_all_lem l (i + j) ≡ i + place
  inside : place < length q
  same : get_or q place vacant ≡ x

module _ (s : Setup) where
  -- places before the queue are before those taken
  low : (i : ℕ) (done q : List Entry) (m : ℕ) → m < i → past_all_lem (marks_after s i done q) m ≡ m
  low i done [] m l = ap (λ (a : List ℕ). past_all_lem a m) (marks_nothing s i done) ∙ all_none m
  low i done (e ∷ q) m l = go (fits s (done ++ e ∷ [])) refl (λ d. low (i + 1) d q m (omega arith))
    where
      go : (b : Bool) → fits s (done ++ e ∷ []) ≡ b → ((d : List Entry) → past_all_lem (marks_after s (i + 1) d q) m ≡ m) → past_all_lem (marks_after s i done (e ∷ q)) m ≡ m
      go true k below =
          ap (λ (a : List ℕ). past_all_lem a m) (marks_yes s i done e q k) ∙ all_cons i (marks_after s (i + 1) (done ++ e ∷ []) q) m
          ∙ ap (past_all_lem (marks_after s (i + 1) (done ++ e ∷ []) q)) (past_before i m l) ∙ below (done ++ e ∷ [])
      go false k below = ap (λ (a : List ℕ). past_all_lem a m) (marks_no s i done e q k) ∙ below done

  read_passed : (i : ℕ) (done q : List Entry) (j : ℕ) → j < length (passed_after (fits s) done q) → Read q (marks_after s i done q) i j (get_or (passed_after (fits s) done q) j vacant)
  read_passed i done [] j l = absurd (omega (arith, l, ap length (passed_none (fits s) done)))
  read_passed i done (e ∷ q) j l = go (fits s (done ++ e ∷ [])) refl j l (λ d. read_passed (i + 1) d q)
    where
      shift : (j m : ℕ) → i + 1 + j ≡ i + (j + 1)
      shift j m = omega arith

      further : (m : ℕ) → i + 1 + m ≡ i + suc m
      further m = omega arith

      go : (b : Bool) → fits s (done ++ e ∷ []) ≡ b → (j : ℕ) → j < length (passed_after (fits s) done (e ∷ q))
          → ((d : List Entry) (k : ℕ) → k < length (passed_after (fits s) d q) → Read q (marks_after s (i + 1) d q) (i + 1) k (get_or (passed_after (fits s) d q) k vacant))
          → Read (e ∷ q) (marks_after s i done (e ∷ q)) i j (get_or (passed_after (fits s) done (e ∷ q)) j vacant)
      go true k j l below =
          let p = passed_yes (fits s) done e q k in
          let r = below (done ++ e ∷ []) j (omega (arith, l, ap length p)) in
          record {
            place = suc r.place;
            read =
                ap (λ (a : List ℕ). past_all_lem a (i + j)) (marks_yes s i done e q k) ∙ all_cons i (marks_after s (i + 1) (done ++ e ∷ []) q) (i + j)
                ∙ ap (past_all_lem (marks_after s (i + 1) (done ++ e ∷ []) q)) (past_at i (i + j) (omega arith) ∙ ahead_one j) ∙ r.read ∙ further r.place;
            inside = omega (arith, r.inside);
            same = r.same ∙ ap (λ (a : List Entry). get_or a j vacant) (sym p);
          }
        where
          ahead_one : (m : ℕ) → i + m + 1 ≡ i + 1 + m
          ahead_one m = omega arith
      go false k zero l below =
          let p = passed_no (fits s) done e q k in
          record {
            place = 0;
            read = ap (λ (a : List ℕ). past_all_lem a (i + 0)) (marks_no s i done e q k) ∙ low (i + 1) done q (i + 0) (omega arith);
            inside = omega arith;
            same = ap (λ (a : List Entry). get_or a 0 vacant) (sym p);
          }
      go false k (suc j) l below =
          let p = passed_no (fits s) done e q k in
          let r = below done j (omega (arith, l, ap length p)) in
          record {
            place = suc r.place;
            read = ap (λ (a : List ℕ). past_all_lem a (i + suc j)) (marks_no s i done e q k) ∙ ap (past_all_lem (marks_after s (i + 1) done q)) (sym (further j)) ∙ r.read ∙ further r.place;
            inside = omega (arith, r.inside);
            same = r.same ∙ ap (λ (a : List Entry). get_or a (suc j) vacant) (sym p);
          }

  read_taken : (i : ℕ) (done q : List Entry) (j : ℕ) → length (passed_after (fits s) done q) ≤ j → past_all_lem (marks_after s i done q) (i + j) ≡ i + j + length (taken_after (fits s) done q)
  read_taken i done [] j l = ap (λ (a : List ℕ). past_all_lem a (i + j)) (marks_nothing s i done) ∙ all_none (i + j) ∙ plus_none (i + j) ∙ ap (λ (a : List Entry). i + j + length a) (sym (taken_none (fits s) done))
    where
      plus_none : (m : ℕ) → m ≡ m + 0
      plus_none m = omega arith
  read_taken i done (e ∷ q) j l = go (fits s (done ++ e ∷ [])) refl j l (λ d. read_taken (i + 1) d q)
    where
      go : (b : Bool) → fits s (done ++ e ∷ []) ≡ b → (j : ℕ) → length (passed_after (fits s) done (e ∷ q)) ≤ j
          → ((d : List Entry) (k : ℕ) → length (passed_after (fits s) d q) ≤ k → past_all_lem (marks_after s (i + 1) d q) (i + 1 + k) ≡ i + 1 + k + length (taken_after (fits s) d q))
          → past_all_lem (marks_after s i done (e ∷ q)) (i + j) ≡ i + j + length (taken_after (fits s) done (e ∷ q))
      go true k j l below =
          let p = passed_yes (fits s) done e q k in
          let t = taken_yes (fits s) done e q k in
          ap (λ (a : List ℕ). past_all_lem a (i + j)) (marks_yes s i done e q k) ∙ all_cons i (marks_after s (i + 1) (done ++ e ∷ []) q) (i + j)
          ∙ ap (past_all_lem (marks_after s (i + 1) (done ++ e ∷ []) q)) (past_at i (i + j) (omega arith) ∙ ahead_one j)
          ∙ below (done ++ e ∷ []) j (omega (arith, l, ap length p))
          ∙ count j (length (taken_after (fits s) (done ++ e ∷ []) q)) ∙ ap (λ (a : List Entry). i + j + length a) (sym t)
        where
          ahead_one : (m : ℕ) → i + m + 1 ≡ i + 1 + m
          ahead_one m = omega arith

          count : (m n : ℕ) → i + 1 + m + n ≡ i + m + suc n
          count m n = omega arith
      go false k zero l below = absurd (omega (arith, l, ap length (passed_no (fits s) done e q k)))
      go false k (suc j) l below =
          let p = passed_no (fits s) done e q k in
          let t = taken_no (fits s) done e q k in
          ap (λ (a : List ℕ). past_all_lem a (i + suc j)) (marks_no s i done e q k) ∙ ap (past_all_lem (marks_after s (i + 1) done q)) (sym (further j))
          ∙ below done j (omega (arith, l, ap length p)) ∙ ap (λ (m : ℕ). m + length (taken_after (fits s) done q)) (further j) ∙ ap (λ (a : List Entry). i + suc j + length a) (sym t)
        where
          further : (m : ℕ) → i + 1 + m ≡ i + suc m
          further m = omega arith

-- ---- the change of a turn

-- a change that takes the records at these places out of the first `end` and puts them behind
abbrev pub turning : Setup → List Entry → Change
turning s q = record { from = 0; end = length q; skip = 0; at = in_array capacity nowhere (marks s q); fresh = in_array capacity vacant (taken s q) }

module _ (s : Setup) (q ys : List Entry) (free : ℕ) (is : ys ≡ q ++ replicate free vacant) (few : length ys ≤ 256) (small : length (taken s q) ≤ 8) where
  abbrev c : Change
  c = turning s q

  size : length q ≤ length ys
  size = omega (arith, ap length is, length-append q (replicate free vacant))

  counts : length (passed s q) + length (taken s q) ≡ length q
  unfolding passed taken
  counts = sym (length-append (passed_after (fits s) [] q) (taken_after (fits s) [] q)) ∙ length_turned (fits s) [] q

  -- past the places of those taken, and no further
  ahead_is : (j : ℕ) → past_all_lem (marks s q) j < nowhere → ahead c j ≡ past_all_lem (marks s q) j
  unfolding ahead
  ahead_is j l =
      ap (past_all_lem (in_array capacity nowhere (marks s q))) (plus_none j)
      ∙ all_append (marks s q) (replicate (capacity - length (marks s q)) nowhere) j
      ∙ all_nowhere (capacity - length (marks s q)) (past_all_lem (marks s q) j) l
    where
      plus_none : (m : ℕ) → m + 0 ≡ m
      plus_none m = omega arith

  reads : (j : ℕ) → get_or ys j vacant ≡ get_or q j vacant
  reads j = ap (λ (l : List Entry). get_or l j vacant) is ∙ at_padded q free j

  zero_plus : (m : ℕ) → 0 + m ≡ m
  zero_plus m = omega arith

  front : (j : ℕ) → j < length (passed s q) → get_or (rearranged c ys) j vacant ≡ get_or (passed s q ++ taken s q) j vacant
  unfolding marks passed nowhere
  front j l =
      let r = read_passed s 0 [] q j l in
      let at : past_all_lem (marks s q) j ≡ r.place = ap (past_all_lem (marks s q)) (sym (zero_plus j)) ∙ r.read ∙ zero_plus r.place in
      let ahead-at : ahead c j ≡ r.place = ahead_is j (omega (arith, at, r.inside, size, few)) ∙ at in
      changed_in c ys j size (omega arith) (omega (arith, l, counts))
      ∙ placed_ahead c ys j (omega (arith, ahead-at, r.inside))
      ∙ ap (λ (k : ℕ). get_or ys k vacant) ahead-at
      ∙ reads r.place
      ∙ r.same
      ∙ sym (get_or-append (passed s q) (taken s q) vacant j l)

  back : (j : ℕ) → length (passed s q) ≤ j → j < length q → get_or (rearranged c ys) j vacant ≡ get_or (passed s q ++ taken s q) j vacant
  unfolding marks passed taken nowhere
  back j l h =
      let t : List Entry = taken s q in
      let m : ℕ = j - length (passed s q) in
      let at : past_all_lem (marks s q) j ≡ j + length t = ap (past_all_lem (marks s q)) (sym (zero_plus j)) ∙ read_taken s 0 [] q j l ∙ ap (λ (k : ℕ). k + length t) (zero_plus j) in
      let ahead-at : ahead c j ≡ j + length t = ahead_is j (omega (arith, at, size, few, h, small)) ∙ at in
      let past_end : j + length t - length q ≡ m = omega (arith, counts, l, h) in
      changed_in c ys j size (omega arith) h
      ∙ placed_fresh c (get_or ys (source c j) vacant) j (omega (arith, ahead-at, counts, l))
      ∙ ap (λ (k : ℕ). get_or (in_array capacity vacant (taken s q)) (k - length q) vacant) ahead-at
      ∙ ap (λ (k : ℕ). get_or (in_array capacity vacant (taken s q)) k vacant) past_end
      ∙ at_padded (taken s q) (capacity - length (taken s q)) m
      ∙ sym (get_or-append-add (passed s q) (taken s q) m vacant)
      ∙ ap (λ (k : ℕ). get_or (passed s q ++ taken s q) k vacant) (rejoin j l)
    where
      rejoin : (j : ℕ) → length (passed s q) ≤ j → length (passed s q) + (j - length (passed s q)) ≡ j
      rejoin j l = omega arith

  each : (j : ℕ) → j < length ys → get_or (rearranged c ys) j vacant ≡ get_or (passed s q ++ taken s q) j vacant
  each j l = go (dec_lt j (length (passed s q))) (dec_lt j (length q))
    where
      go : Dec (j < length (passed s q)) → Dec (j < length q) → get_or (rearranged c ys) j vacant ≡ get_or (passed s q ++ taken s q) j vacant
      go (yes h) d = front j h
      go (no h) (yes m) = back j (omega arith) m
      go (no h) (no m) =
          changed_out c ys j (inr (omega arith)) (omega arith)
          ∙ reads j
          ∙ get_or-eq_default q vacant (omega arith)
          ∙ sym (get_or-eq_default (passed s q ++ taken s q) vacant (omega (arith, length-append (passed s q) (taken s q), counts)))

  pub one_turn : rearranged (turning s q) ys ≡ records_of (length ys) (passed s q ++ taken s q)
  one_turn = records_are _ (length ys) (passed s q ++ taken s q) (length_changed (turning s q) ys) (omega (arith, length-append (passed s q) (taken s q), counts, size)) (λ j l. each j l)
