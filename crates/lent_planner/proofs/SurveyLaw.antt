-- What the pass over the records finds. Assumes nothing.
--     survey-broken    the pass is broken exactly where the rules are
--     survey-found     where they are kept, it counts those that wait, and finds the id among them
use mathlib.Core.Path.{◌≡◌, refl, ap, sym, ◌∙◌}
use mathlib.Core.List.{List, [], ◌∷◌, ◌++◌}
use Rattle.std.specs.Prelude.{Option, Some, None, is_some}
use mathlib.Core.Bool.{Bool, true, false, not, false≢true, true≢false}
use Prim.Native.Nat.{ℕ, suc, ◌+◌}
use native.Mathlib.Omega.{arith}
use lib.Dec.{eqb}
use lib.ListN.{length}
use borrow.Author.Tests.{eqb-true, eqb-false}
use Rattle.requests.specs.declared.Setup.{Setup}
use Rattle.requests.specs.declared.Entry.{Entry}
use Rattle.requests.specs.Choice.{both}
use Rattle.sessions.specs.Calls.{waits}
use Rattle.sessions.specs.RefusalTable.{IsId}
use Rattle.lent_sessions.specs.Records.{standing, all_zero, is_vacant, all_vacant, may_wait, kept_rules}
use Rattle.lent_planner.specs.Surveys.{all_left_lem, is_left, taken_id, fresh, may_count, counted, ended, spoiled, survey_step, survey_from, surveyed}
use Rattle.lent_planner.specs.declared.Survey.{Survey}
use Rattle.lent_sessions.proofs.RowRules.{standing_vacant, standing_waiting, standing_none, may_id, all_vacant_none, all_vacant_next}
use Rattle.lent_planner.proofs.SurveySteps.{step_broken, step_ended, step_counted, step_spoiled}
use Rattle.lent_planner.proofs.IdBits.{left_self, left_other, all_ids}
use Rattle.lent_planner.proofs.PassedRules.{kept_after, after_vacant, after_waiting, after_none, waits_next, waits_nothing, waits_front, not_waits_both, both_not, either_second, after_kept, after_is}

from_next : (left : List ℕ) (t : Survey) (e : Entry) (es : List Entry) (x : Survey × List ℕ) → survey_step left t e ≡ x → survey_from left t (e ∷ es) ≡ survey_from x.1 x.0 es
unfolding survey_from
from_next left t e es x h = ap (λ (y : Survey × List ℕ). survey_from y.1 y.0 es) h

from_none : (left : List ℕ) (t : Survey) → survey_from left t [] ≡ t
unfolding survey_from
from_none left t = refl

broken_stays : (left : List ℕ) (t : Survey) (rows : List Entry) → t.broken ≡ true → survey_from left t rows ≡ t
broken_stays left t [] h = from_none left t
broken_stays left t (e ∷ es) h = from_next left t e es (t, left) (step_broken left t e h) ∙ broken_stays left t es h

-- past a record that breaks the rules
spoils : (left : List ℕ) (t : Survey) (rows : List Entry) → (survey_from left (spoiled t) rows).broken ≡ true
unfolding spoiled
spoils left t rows = ap (λ (x : Survey). x.broken) (broken_stays left (spoiled t) rows refl)

not_vacant : (e : Entry) (es : List Entry) → eqb e.id 0 ≡ false → all_vacant (e ∷ es) ≡ false
unfolding is_vacant both
not_vacant e es h = all_vacant_next e es ∙ rw h

vacant_by : (e : Entry) → eqb e.id 0 ≡ true → is_vacant e ≡ all_zero e.request
unfolding is_vacant both
vacant_by e h = rw h

vacant_split : (e : Entry) (es : List Entry) → eqb e.id 0 ≡ true → all_vacant (e ∷ es) ≡ both (all_zero e.request) (all_vacant es)
vacant_split e es h = all_vacant_next e es ∙ ap (λ (b : Bool). both b (all_vacant es)) (vacant_by e h)

-- once vacant records have begun, all that follow are vacant where the rules are kept
record AfterEnd (t r : Survey) (b : Bool) : Type 0 where
  broken : r.broken ≡ not b
  same : b ≡ true → (r.len ≡ t.len) × (r.at ≡ t.at)

no_count : (left : List ℕ) (t : Survey) (e : Entry) → t.ended ≡ true → may_count left t e ≡ false
unfolding may_count both
no_count left t e h = rw h

ended_broken : (t : Survey) (z : Bool) → (ended t z).broken ≡ not z
unfolding ended
ended_broken t z = refl

ended_ended : (t : Survey) (z : Bool) → (ended t z).ended ≡ true
unfolding ended
ended_ended t z = refl

ended_same : (t : Survey) (z : Bool) (r : Survey) (b : Bool) → AfterEnd (ended t z) r b → AfterEnd t r b
unfolding ended
ended_same t z r b a = record { broken = a.broken; same = a.same }

both_first : (t : Survey) (xs : List Entry) (left : List ℕ) → AfterEnd t (survey_from left t xs) (all_vacant xs) → AfterEnd t (survey_from left t xs) (both true (all_vacant xs))
unfolding both
both_first t xs left a = a

ended_spoils : (t : Survey) (xs : List Entry) (left : List ℕ) → AfterEnd (ended t false) (survey_from left (ended t false) xs) (both false (all_vacant xs))
unfolding both ended
ended_spoils t xs left = record { broken = ap (λ (x : Survey). x.broken) (broken_stays left (ended t false) xs refl); same = λ h. absurd (false≢true h) }

-- the first vacant record, given what becomes of those behind it
first_vacant : (left : List ℕ) (t : Survey) (x : Entry) (xs : List Entry) → ((u : Survey) → u.broken ≡ false → u.ended ≡ true → AfterEnd u (survey_from left u xs) (all_vacant xs))
    → t.broken ≡ false → eqb x.id 0 ≡ true → AfterEnd t (survey_from left t (x ∷ xs)) (all_vacant (x ∷ xs))
first_vacant left t x xs law b k = zero (all_zero x.request) refl
  where
    again : (z : Bool) → all_zero x.request ≡ z → AfterEnd (ended t z) (survey_from left (ended t z) xs) (both z (all_vacant xs)) → AfterEnd t
        (survey_from left t (x ∷ xs)) (all_vacant (x ∷ xs))
    again z hz rest =
        rw (from_next left t x xs (ended t (all_zero x.request), left) (step_ended left t x b k), vacant_split x xs k, hz)
        (ended_same t z (survey_from left (ended t z) xs) (both z (all_vacant xs)) rest)

    zero : (z : Bool) → all_zero x.request ≡ z → AfterEnd t (survey_from left t (x ∷ xs)) (all_vacant (x ∷ xs))
    zero true hz = again true hz (both_first (ended t true) xs left (law (ended t true) (ended_broken t true) (ended_ended t true)))
    zero false hz = again false hz (ended_spoils t xs left)

ended_law : (left : List ℕ) (t : Survey) (rows : List Entry) → t.broken ≡ false → t.ended ≡ true → AfterEnd t (survey_from left t rows) (all_vacant rows)
ended_law left t [] b e = rw (all_vacant_none, from_none left t) (record { broken = b; same = λ h. (refl, refl) })
ended_law left t (x ∷ xs) b e = go (eqb x.id 0) refl (λ u. ended_law left u xs)
  where
    go : (v : Bool) → eqb x.id 0 ≡ v → ((u : Survey) → u.broken ≡ false → u.ended ≡ true → AfterEnd u (survey_from left u xs) (all_vacant xs))
        → AfterEnd t (survey_from left t (x ∷ xs)) (all_vacant (x ∷ xs))
    go false k below =
        rw (from_next left t x xs (spoiled t, left) (step_spoiled left t x b k (no_count left t x e)), not_vacant x xs k)
        (record { broken = spoils left t xs; same = λ h. absurd (false≢true h) })
    go true k below = first_vacant left t x xs below b k

-- ---- while records wait

-- the ids that are left are those of no record passed over
abbrev Rest : List ℕ → List Entry → Type 0
Rest left seen = (i : ℕ) → IsId i → is_left left i ≡ not (waits i seen)

plus_none : (n : ℕ) → n ≡ n + 0
plus_none n = omega arith

-- what is found of records that keep the rules
record Finds (t r : Survey) (q : List Entry) : Type 0 where
  len : r.len ≡ t.len + length q
  missing : waits t.id q ≡ false → r.at ≡ t.at
  place : waits t.id q ≡ true → (a : List Entry) × (e : Entry) × (b : List Entry) × (q ≡ a ++ e ∷ b) × (e.id ≡ t.id) × (r.at ≡ Some (t.len + length a))

record Surveying (t r : Survey) (q : List Entry) (b : Bool) : Type 0 where
  broken : r.broken ≡ not b
  finds : b ≡ true → Finds t r q

-- the pass after one more record that waits
record Counting (t u : Survey) (id : ℕ) : Type 0 where
  id_same : u.id ≡ t.id
  setup_same : u.setup ≡ t.setup
  next_len : u.len ≡ t.len + 1
  here : eqb t.id id ≡ true → u.at ≡ Some t.len
  there : eqb t.id id ≡ false → u.at ≡ t.at

counting : (t : Survey) (id : ℕ) → Counting t (counted t id) id
unfolding counted
counting t id = record { id_same = refl; setup_same = refl; next_len = refl; here = λ h. rw h; there = λ h. rw h }

-- what is found with one more record in front
finds_next : (t u r : Survey) (e : Entry) (q : List Entry) → Counting t u e.id → waits e.id q ≡ false → Finds u r q → Finds t r (e ∷ q)
finds_next t u r e q c alone f = go (eqb t.id e.id) refl
  where
    longer : r.len ≡ t.len + length (e ∷ q)
    longer = omega (arith, f.len, c.next_len)

    go : (b : Bool) → eqb t.id e.id ≡ b → Finds t r (e ∷ q)
    go true h =
        let same : t.id ≡ e.id = eqb-true t.id e.id h in
        let none : waits u.id q ≡ false = ap (λ (i : ℕ). waits i q) (c.id_same ∙ same) ∙ alone in
        let yes : waits t.id (e ∷ q) ≡ true = waits_front t.id e q same in
        record {
          len = longer;
          missing = λ no. absurd (true≢false (sym yes ∙ no));
          place = λ w. ([], e, q, refl, sym same, f.missing none ∙ c.here h ∙ ap Some (plus_none t.len));
        }
    go false h =
        let pass : waits t.id (e ∷ q) ≡ waits t.id q = waits_next t.id e q ∙ either_second (eqb t.id e.id) (waits t.id q) h in
        let ids : waits u.id q ≡ waits t.id q = ap (λ (i : ℕ). waits i q) c.id_same in
        record {
          len = longer;
          missing = λ no. f.missing (ids ∙ sym pass ∙ no) ∙ c.there h;
          place = λ w. let p = f.place (ids ∙ sym pass ∙ w) in (e ∷ p.0, p.1, p.2, ap (λ (l : List Entry). e ∷ l) p.3, p.4 ∙ c.id_same, p.5 ∙ ap Some (ahead (length p.0)));
        }
      where
        ahead : (k : ℕ) → u.len + k ≡ t.len + suc k
        ahead k = omega (arith, c.next_len)

rest_next : (left : List ℕ) (seen : List Entry) (e : Entry) → Rest left seen → is_left left e.id ≡ true → Rest (taken_id left e.id) (e ∷ seen)
rest_next left seen e rest here i is = go (eqb i e.id) refl
  where
    go : (b : Bool) → eqb i e.id ≡ b → is_left (taken_id left e.id) i ≡ not (waits i (e ∷ seen))
    go true h =
        let same : i ≡ e.id = eqb-true i e.id h in
        ap (is_left (taken_id left e.id)) same ∙ left_self left e.id here ∙ ap not (sym (waits_front i e seen same))
    go false h =
        left_other left e.id i here (λ same. eqb-false i e.id h (sym same))
        ∙ rest i is
        ∙ ap not (sym (waits_next i e seen ∙ either_second (eqb i e.id) (waits i seen) h))

-- a record may count exactly where it may wait and its id is met for the first time
counts : (left : List ℕ) (t : Survey) (e : Entry) → t.ended ≡ false → may_count left t e ≡ both (may_wait t.setup e) (is_left left e.id)
unfolding may_count both
counts left t e h = rw h

none_found : (t : Survey) → Finds t t []
none_found t =
    record {
      len = plus_none t.len;
      missing = λ h. refl;
      place = λ w. absurd (false≢true (sym (waits_nothing t.id) ∙ w));
    }

both_no : (a b : Bool) → a ≡ false → both a b ≡ false
unfolding both
both_no a b h = rw h

both_second : (a b : Bool) → a ≡ true → both a b ≡ b
unfolding both
both_second a b h = rw h

counted_broken : (t : Survey) (id : ℕ) → (counted t id).broken ≡ t.broken
unfolding counted
counted_broken t id = refl

counted_ended : (t : Survey) (id : ℕ) → (counted t id).ended ≡ t.ended
unfolding counted
counted_ended t id = refl

-- an id that no record has is not that of a record that waits
not_standing : (i : ℕ) (es : List Entry) → waits i es ≡ false → waits i (standing es) ≡ false
not_standing i [] h = ap (waits i) standing_none ∙ h
not_standing i (e ∷ es) h = go (eqb e.id 0) refl (not_standing i es)
  where
    go : (b : Bool) → eqb e.id 0 ≡ b → (waits i es ≡ false → waits i (standing es) ≡ false) → waits i (standing (e ∷ es)) ≡ false
    go true k below = ap (waits i) (standing_vacant e es k) ∙ waits_nothing i
    go false k below = let t = not_waits_both i e es h in ap (waits i) (standing_waiting e es k) ∙ both_not i e (standing es) t.0 (below t.1)

-- nothing waits from the first vacant record on
vacant_found : (t r : Survey) (b : Bool) → AfterEnd t r b → Surveying t r [] b
vacant_found t r b a =
    record {
      broken = a.broken;
      finds = λ h. let s = a.same h in record {
        len = s.0 ∙ plus_none t.len;
        missing = λ m. s.1;
        place = λ w. absurd (false≢true (sym (waits_nothing t.id) ∙ w));
      };
    }

surveys : (s : Setup) (left : List ℕ) (seen : List Entry) (t : Survey) (rows : List Entry) → t.setup ≡ s → t.broken ≡ false → t.ended ≡ false → Rest left seen
    → Surveying t (survey_from left t rows) (standing rows) (kept_after s seen rows)
surveys s left seen t [] hs hb he rest = rw (from_none left t, standing_none, after_none s seen) (record { broken = hb; finds = λ h. none_found t })
surveys s left seen t (e ∷ es) hs hb he rest = go (eqb e.id 0) refl (λ l sn u. surveys s l sn u es)
  where
    go : (b : Bool) → eqb e.id 0 ≡ b
        → ((l : List ℕ) (sn : List Entry) (u : Survey) → u.setup ≡ s → u.broken ≡ false → u.ended ≡ false → Rest l sn → Surveying u (survey_from l u es) (standing es) (kept_after s sn es))
        → Surveying t (survey_from left t (e ∷ es)) (standing (e ∷ es)) (kept_after s seen (e ∷ es))
    go true k below = rw (standing_vacant e es k, after_vacant s seen e es k) (vacant_found t (survey_from left t (e ∷ es)) (all_vacant (e ∷ es)) (begins k))
      where
        begins : eqb e.id 0 ≡ true → AfterEnd t (survey_from left t (e ∷ es)) (all_vacant (e ∷ es))
        begins h = first_vacant left t e es (λ u. ended_law left u es) hb h
    go false k below = which (may_wait s e) refl (is_left left e.id) refl
      where
        stuck : both (may_wait s e) (both (not (waits e.id seen)) (kept_after s (e ∷ seen) es)) ≡ false → may_count left t e ≡ false
            → Surveying t (survey_from left t (e ∷ es)) (standing (e ∷ es)) (kept_after s seen (e ∷ es))
        stuck fails m =
            rw (after_waiting s seen e es k, fails, from_next left t e es (spoiled t, left) (step_spoiled left t e hb k m))
            (record { broken = spoils left t es; finds = λ h. absurd (false≢true h) })

        may : may_count left t e ≡ both (may_wait s e) (is_left left e.id)
        may = counts left t e he ∙ ap (λ (x : Setup). both (may_wait x e) (is_left left e.id)) hs

        which : (w : Bool) → may_wait s e ≡ w → (f : Bool) → is_left left e.id ≡ f → Surveying t (survey_from left t (e ∷ es)) (standing (e ∷ es)) (kept_after s seen (e ∷ es))
        which false hw f hf = stuck (both_no _ _ hw) (may ∙ both_no _ _ hw)
        which true hw false hf =
            stuck (both_second _ _ hw ∙ both_no _ _ (sym (rest e.id (may_id s e hw)) ∙ hf)) (may ∙ both_second _ _ hw ∙ hf)
        which true hw true hf =
            let unseen : not (waits e.id seen) ≡ true = sym (rest e.id (may_id s e hw)) ∙ hf in
            let kept_is : kept_after s seen (e ∷ es) ≡ kept_after s (e ∷ seen) es = after_waiting s seen e es k ∙ both_second _ _ hw ∙ both_second _ _ unseen in
            let m : may_count left t e ≡ true = may ∙ both_second _ _ hw ∙ hf in
            let c : Counting t (counted t e.id) e.id = counting t e.id in
            let below-e = below (taken_id left e.id) (e ∷ seen) (counted t e.id) (c.setup_same ∙ hs) (counted_broken t e.id ∙ hb) (counted_ended t e.id ∙ he) (rest_next left seen e rest hf) in
            rw (from_next left t e es (counted t e.id, taken_id left e.id) (step_counted left t e hb k m), standing_waiting e es k, kept_is)
            (record {
              broken = below-e.broken;
              finds = λ h. finds_next t (counted t e.id) _ e (standing es) c
                  (not_standing e.id es ((after_kept s (e ∷ seen) es h).1 e.id (may_id s e hw) (waits_front e.id e seen refl))) (below-e.finds h);
            })

-- ---- the whole pass

zero_plus : (n : ℕ) → 0 + n ≡ n
zero_plus n = omega arith

pub record Found (s : Setup) (id : ℕ) (rows : List Entry) (r : Survey) : Type 0 where
  pub len : r.len ≡ length (standing rows)
  pub found : is_some r.at ≡ waits id (standing rows)
  pub place : (i : ℕ) → r.at ≡ Some i → (a : List Entry) × (e : Entry) × (b : List Entry) × (standing rows ≡ a ++ e ∷ b) × (e.id ≡ id) × (i ≡ length a)

module _ (s : Setup) (id : ℕ) (rows : List Entry) where
  whole : Surveying (fresh s id) (surveyed (fresh s id) rows) (standing rows) (kept_after s [] rows)
  unfolding surveyed fresh
  whole = surveys s all_left_lem [] (fresh s id) rows refl refl refl (λ i is. all_ids i (omega (arith, is.1)) ∙ ap not (sym (waits_nothing i)))

  pub survey_broken : (surveyed (fresh s id) rows).broken ≡ not (kept_rules s rows)
  survey_broken = whole.broken ∙ ap not (after_is s rows)

  pub survey_found : kept_rules s rows ≡ true → Found s id rows (surveyed (fresh s id) rows)
  unfolding fresh
  survey_found h =
      record { len = finds.len ∙ zero_plus (length (standing rows)); found = met (waits id (standing rows)) refl; place = λ i at. placed (waits id (standing rows)) refl i at }
    where
      r : Survey
      r = surveyed (fresh s id) rows

      finds : Finds (fresh s id) r (standing rows)
      finds = whole.finds (after_is s rows ∙ h)

      missed : waits id (standing rows) ≡ false → r.at ≡ None
      missed w = finds.missing w

      met : (b : Bool) → waits id (standing rows) ≡ b → is_some r.at ≡ waits id (standing rows)
      met true w = ap (λ (o : Option ℕ). is_some o) (finds.place w).5 ∙ sym w
      met false w = ap (λ (o : Option ℕ). is_some o) (missed w) ∙ sym w

      placed : (b : Bool) → waits id (standing rows) ≡ b → (i : ℕ) → r.at ≡ Some i
          → (a : List Entry) × (e : Entry) × (b : List Entry) × (standing rows ≡ a ++ e ∷ b) × (e.id ≡ id) × (i ≡ length a)
      placed true w i at =
          let p = finds.place w in
          let same : Some i ≡ Some (0 + length p.0) = sym at ∙ p.5 in
          let place : i ≡ 0 + length p.0 = cc in
          (p.0, p.1, p.2, p.3, p.4, place ∙ zero_plus (length p.0))
      placed false w i at = let z : None ≡ Some i = sym (missed w) ∙ at in absurd cc
