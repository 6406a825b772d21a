-- The test of a row set is exact. Assumes nothing.
--     vacant-is, vacant-test         a record passes as vacant exactly where it is the vacant one
--     stands-kept                    records that keep the rules are the queue that they stand for, and vacant ones
--     standing-placed                a queue of waiting records is read back from its records
use Rattle.std.specs.Prelude.{Option, None, Some}
use mathlib.Core.Path.{◌≡◌, refl, ap, ap₂, sym, ◌∙◌}
use mathlib.Core.Logic.{◌≢◌}
use mathlib.Core.List.{List, [], ◌∷◌, ◌++◌, map}
use mathlib.Core.Bool.{Bool, true, false, not, false≢true}
use Prim.Native.Nat.{ℕ, zero, suc}
use native.Mathlib.Omega.{arith}
use lib.Dec.{eqb, leb}
use lib.ListN.{length, replicate}
use borrow.Author.Tests.{eqb-true, eqb-false, ne_eqb, leb-true, le-leb, not-true}
use Rattle.requests.specs.declared.Setup.{Setup}
use Rattle.requests.specs.declared.Request.{Request}
use Rattle.requests.specs.declared.Request.TheVariants.{Event, Packet, Offcore, Latency}
use Rattle.requests.specs.declared.Entry.{Entry}
use Rattle.requests.specs.declared.Refusal.{Refusal}
use Rattle.requests.specs.Choice.{both, either, is_some}
use Rattle.requests.specs.Checks.{formed, Formed, request_refusal}
use Rattle.requests.proofs.Tests.{both_parts, true_both, either_parts}
use Rattle.plans.specs.Lists.{All, nil, cons, empty, add}
use Rattle.plans.specs.Legal.{HasPlan}
use Rattle.plans.specs.Search.{has_plan_lem}
use Rattle.plans.proofs.PlanTestHolds.{plan_test}
use Rattle.sessions.specs.Calls.{waits}
use Rattle.sessions.specs.Table.{outside_ids}
use Rattle.sessions.specs.RefusalTable.{IsId}
use Rattle.sessions.specs.DistinctIds.{Distinct}
use Rattle.sessions.specs.Sessions.{vacant}
use Rattle.sessions.proofs.Conditions.{inside, id_test}
use Rattle.lent_sessions.specs.Records.{most_records, is_count, standing, all_zero, is_vacant, all_vacant, may_wait, kept_rules, sound_rows}
use Rattle.lent_sessions.specs.RowRules.{IsCount, SoundRows, RowRules}

-- ---- vacant records

zero_request : (r : Request) → all_zero r ≡ true → r ≡ Event 0 0 (record { 0 = 0 })
unfolding all_zero
zero_request (Event c m a) h =
    let t = both_parts (eqb c 0) (both (eqb m 0) (eqb a.0 0)) h in
    let u = both_parts (eqb m 0) (eqb a.0 0) t.1 in
    let hc : c ≡ 0 = eqb-true c 0 t.0 in
    let hm : m ≡ 0 = eqb-true m 0 u.0 in
    let ha : a.0 ≡ 0 = eqb-true a.0 0 u.1 in
    let hs : a ≡ record { 0 = 0 } = ap (λ (n : ℕ). record { 0 = n }) ha in
    rw (hc, hm, hs)
zero_request (Packet x y a) h = absurd (false≢true h)
zero_request (Offcore w a) h = absurd (false≢true h)
zero_request (Latency t a b) h = absurd (false≢true h)

pub vacant_is : (e : Entry) → is_vacant e ≡ true → e ≡ vacant
unfolding is_vacant vacant
vacant_is e h =
    let t = both_parts (eqb e.id 0) (all_zero e.request) h in
    let hi : e.id ≡ 0 = eqb-true e.id 0 t.0 in
    let hr : e.request ≡ Event 0 0 (record { 0 = 0 }) = zero_request e.request t.1 in
    ap₂ (λ (i : ℕ) (r : Request). record { id = i; request = r }) hi hr

pub vacant_test : is_vacant vacant ≡ true
unfolding is_vacant vacant all_zero both
vacant_test = refl

vacant_id : eqb vacant.id 0 ≡ true
unfolding vacant
vacant_id = refl

all_vacant_is : (l : List Entry) → all_vacant l ≡ true → l ≡ replicate (length l) vacant
unfolding all_vacant
all_vacant_is [] h = refl
all_vacant_is (e ∷ es) h =
    let t = both_parts (is_vacant e) (all_vacant es) h in
    ap₂ (λ (x : Entry) (l : List Entry). x ∷ l) (vacant_is e t.0) (all_vacant_is es t.1)

pub all_vacant_lem : (n : ℕ) → all_vacant (replicate n vacant) ≡ true
unfolding all_vacant
all_vacant_lem zero = refl
all_vacant_lem (suc n) = true_both (is_vacant vacant) (all_vacant (replicate n vacant)) vacant_test (all_vacant_lem n)

-- ---- the steps of the test

pub kept_vacant : (s : Setup) (e : Entry) (es : List Entry) → eqb e.id 0 ≡ true → kept_rules s (e ∷ es) ≡ all_vacant (e ∷ es)
unfolding kept_rules
kept_vacant s e es h = rw (h, kept_rules)

pub kept_none : (s : Setup) → kept_rules s [] ≡ true
unfolding kept_rules
kept_none s = refl

pub kept_waiting : (s : Setup) (e : Entry) (es : List Entry) → eqb e.id 0 ≡ false → kept_rules s (e ∷ es) ≡ both (may_wait s e) (both (not (waits e.id es)) (kept_rules s es))
unfolding kept_rules
kept_waiting s e es h = rw (h, kept_rules)

pub standing_vacant : (e : Entry) (es : List Entry) → eqb e.id 0 ≡ true → standing (e ∷ es) ≡ []
unfolding standing
standing_vacant e es h = rw (h, standing)

pub standing_waiting : (e : Entry) (es : List Entry) → eqb e.id 0 ≡ false → standing (e ∷ es) ≡ e ∷ standing es
unfolding standing
standing_waiting e es h = rw (h, standing)

pub standing_none : standing [] ≡ []
unfolding standing
standing_none = refl

-- ---- what the test says of one record

record Waiting (s : Setup) (e : Entry) : Type 0 where
  is_id : IsId e.id
  formed : Formed s e.request
  alone : HasPlan s (e.request ∷ [])

formed_is : (s : Setup) (r : Request) → formed s r ≡ true → Formed s r
unfolding formed
formed_is s r h = go (request_refusal s r) refl
  where
    go : (x : Option Refusal) → request_refusal s r ≡ x → request_refusal s r ≡ None
    go None e = e
    go (Some x) e = let z : not (is_some (Some x)) ≡ true = rw e at h in absurd (false≢true z)

is_formed_lem : (s : Setup) (r : Request) → Formed s r → formed s r ≡ true
unfolding formed
is_formed_lem s r h = rw h

waiting_is : (s : Setup) (e : Entry) → may_wait s e ≡ true → Waiting s e
unfolding may_wait
waiting_is s e h =
    let t = both_parts (not (outside_ids e.id)) (both (formed s e.request) (has_plan_lem s (e.request ∷ []))) h in
    let u = both_parts (formed s e.request) (has_plan_lem s (e.request ∷ [])) t.1 in
    record { is_id = inside e.id (not-true (outside_ids e.id) t.0); formed = formed_is s e.request u.0; alone = plan_test.has_plan s (e.request ∷ []) u.1 }

not_outside : (id : ℕ) → IsId id → not (outside_ids id) ≡ true
not_outside id i = go (outside_ids id) refl
  where
    go : (b : Bool) → outside_ids id ≡ b → not b ≡ true
    go true h = absurd ((id_test id).0 h i)
    go false h = refl

is_waiting : (s : Setup) (e : Entry) → IsId e.id → Formed s e.request → HasPlan s (e.request ∷ []) → may_wait s e ≡ true
unfolding may_wait
is_waiting s e i f p =
    true_both (not (outside_ids e.id)) _ (not_outside e.id i) (true_both (formed s e.request) _ (is_formed_lem s e.request f) (plan_test.planned s (e.request ∷ []) p))

-- an id is not 0
id_not_0 : (id : ℕ) → IsId id → eqb id 0 ≡ false
id_not_0 id i = ne_eqb id 0 (λ z. omega (arith, i.0))

-- ---- ids apart

-- the ids that records stand for, by a record in front of them
apart_from : (id : ℕ) (es : List Entry) → waits id es ≡ false → All (λ (i : ℕ). id ≢ i) (map (λ (e : Entry). e.id) (standing es))
unfolding waits
apart_from id [] h = rw standing_none nil
apart_from id (e ∷ es) h = go (eqb e.id 0) refl (either_parts (eqb id e.id) (waits id es) h) (apart_from id es)
  where
    go : (b : Bool) → eqb e.id 0 ≡ b → (eqb id e.id ≡ false) × (waits id es ≡ false)
        → (waits id es ≡ false → All (λ (i : ℕ). id ≢ i) (map (λ (x : Entry). x.id) (standing es)))
        → All (λ (i : ℕ). id ≢ i) (map (λ (x : Entry). x.id) (standing (e ∷ es)))
    go true k t below = rw (standing_vacant e es k) nil
    go false k t below = rw (standing_waiting e es k) (cons (eqb-false id e.id t.0) (below t.1))

-- an id that no record has does not wait, nor does one in vacant records
not_waits_vacant : (id n : ℕ) → IsId id → waits id (replicate n vacant) ≡ false
unfolding waits either vacant
not_waits_vacant id zero i = refl
not_waits_vacant id (suc n) i = rw (id_not_0 id i, either) (not_waits_vacant id n i)

not_waits : (id : ℕ) (q : List Entry) (n : ℕ) → IsId id → All (λ (i : ℕ). id ≢ i) (map (λ (e : Entry). e.id) q) → waits id (q ++ replicate n vacant) ≡ false
unfolding waits either
not_waits id [] n i nil = not_waits_vacant id n i
not_waits id (e ∷ q) n i (cons h p) = rw (ne_eqb id e.id h, either) (not_waits id q n i p)

-- ---- the rules

-- what the test shows of records
record Kept (s : Setup) (rows : List Entry) : Type 0 where
  free : ℕ
  placed : rows ≡ standing rows ++ replicate free vacant
  distinct : Distinct (standing rows)
  ids : All (λ (e : Entry). IsId e.id) (standing rows)
  formed : All (λ (e : Entry). Formed s e.request) (standing rows)
  alone : All (λ (e : Entry). HasPlan s (e.request ∷ [])) (standing rows)

kept_is : (s : Setup) (rows : List Entry) → kept_rules s rows ≡ true → Kept s rows
kept_is s [] h = (record { free = 0; placed = rw standing_none; distinct = rw standing_none empty; ids = rw standing_none nil; formed = rw standing_none nil; alone = rw standing_none nil })
kept_is s (e ∷ es) h = go (eqb e.id 0) refl (kept_is s es)
  where
    go : (b : Bool) → eqb e.id 0 ≡ b → (kept_rules s es ≡ true → Kept s es) → Kept s (e ∷ es)
    go true k below =
        let v : all_vacant (e ∷ es) ≡ true = sym (kept_vacant s e es k) ∙ h in
        let stands = standing_vacant e es k in
        record {
          free = length (e ∷ es);
          placed = all_vacant_is (e ∷ es) v ∙ ap (λ (l : List Entry). l ++ replicate (length (e ∷ es)) vacant) (sym stands);
          distinct = rw stands empty;
          ids = rw stands nil;
          formed = rw stands nil;
          alone = rw stands nil;
        }
    go false k below =
        let t = both_parts (may_wait s e) (both (not (waits e.id es)) (kept_rules s es)) (sym (kept_waiting s e es k) ∙ h) in
        let u = both_parts (not (waits e.id es)) (kept_rules s es) t.1 in
        let w = waiting_is s e t.0 in
        let rest = below u.1 in
        let stands = standing_waiting e es k in
        record {
          free = rest.free;
          placed = ap (λ (l : List Entry). e ∷ l) rest.placed ∙ ap (λ (l : List Entry). l ++ replicate rest.free vacant) (sym stands);
          distinct = rw stands (add (apart_from e.id es (not-true (waits e.id es) u.0)) rest.distinct);
          ids = rw stands (cons w.is_id rest.ids);
          formed = rw stands (cons w.formed rest.formed);
          alone = rw stands (cons w.alone rest.alone);
        }

-- ---- and back

module _ (s : Setup) (n : ℕ) where
  is_kept : (q : List Entry) → Distinct q → All (λ (e : Entry). IsId e.id) q → All (λ (e : Entry). Formed s e.request) q
      → All (λ (e : Entry). HasPlan s (e.request ∷ [])) q → kept_rules s (q ++ replicate n vacant) ≡ true
  is_kept [] d i f a = nothing n
    where
      nothing : (k : ℕ) → kept_rules s (replicate k vacant) ≡ true
      nothing zero = kept_none s
      nothing (suc k) = kept_vacant s vacant (replicate k vacant) vacant_id ∙ all_vacant_lem (suc k)
  is_kept (e ∷ q) (add h d) (cons i more-ids) (cons f more-formed) (cons a more-alone) =
      let rest = is_kept q d more-ids more-formed more-alone in
      kept_waiting s e (q ++ replicate n vacant) (id_not_0 e.id i)
      ∙ true_both (may_wait s e) _ (is_waiting s e i f a) (true_both (not (waits e.id (q ++ replicate n vacant))) _ (ap not (not_waits e.id q n i h)) rest)

  pub standing_placed : (q : List Entry) → All (λ (e : Entry). IsId e.id) q → standing (q ++ replicate n vacant) ≡ q
  standing_placed [] nil = nothing n
    where
      nothing : (k : ℕ) → standing (replicate k vacant) ≡ []
      nothing zero = standing_none
      nothing (suc k) = standing_vacant vacant (replicate k vacant) vacant_id
  standing_placed (e ∷ q) (cons i is) = standing_waiting e (q ++ replicate n vacant) (id_not_0 e.id i) ∙ ap (λ (l : List Entry). e ∷ l) (standing_placed q is)

-- ---- the number of records

pub count_is : (n : ℕ) → is_count n ≡ true → IsCount n
unfolding is_count most_records
count_is n h = let t = both_parts (leb 1 n) (leb n most_records) h in (leb-true 1 n t.0, leb-true n most_records t.1)

pub is_count_lem : (n : ℕ) → IsCount n → is_count n ≡ true
unfolding is_count most_records
is_count_lem n c = true_both (leb 1 n) (leb n most_records) (le-leb 1 n c.0) (le-leb n most_records c.1)

sound_is : (s : Setup) (rows : List Entry) → sound_rows s rows ≡ true → SoundRows s rows
unfolding sound_rows vacant
sound_is s rows h =
    let t = both_parts (is_count (length rows)) (kept_rules s rows) h in
    let k = kept_is s rows t.1 in
    record { number = count_is (length rows) t.0; queue = standing rows; free = k.free; placed = k.placed; distinct = k.distinct; ids = k.ids; formed = k.formed; alone = k.alone }

is_sound : (s : Setup) (rows : List Entry) → SoundRows s rows → sound_rows s rows ≡ true
unfolding sound_rows vacant
is_sound s rows k =
    true_both (is_count (length rows)) (kept_rules s rows) (is_count_lem (length rows) k.number)
    (ap (kept_rules s) k.placed ∙ is_kept s k.free k.queue k.distinct k.ids k.formed k.alone)

queue_is : (s : Setup) (rows : List Entry) (k : SoundRows s rows) → k.queue ≡ standing rows
unfolding vacant
queue_is s rows k = sym (ap standing k.placed ∙ standing_placed s k.free k.queue k.ids)

pub row_rules : RowRules
row_rules = record { count = count_is; counts = is_count_lem; sound = sound_is; holds = is_sound; stands = queue_is }

-- ---- for the pass over the records

-- an id does not wait in vacant records
pub vacant_waits : (id : ℕ) (l : List Entry) → IsId id → all_vacant l ≡ true → waits id l ≡ false
vacant_waits id l i v = ap (waits id) (all_vacant_is l v) ∙ not_waits_vacant id (length l) i

-- a record that may wait has an id
pub may_id : (s : Setup) (e : Entry) → may_wait s e ≡ true → IsId e.id
may_id s e h = (waiting_is s e h).is_id

pub all_vacant_none : all_vacant [] ≡ true
unfolding all_vacant
all_vacant_none = refl

pub all_vacant_next : (e : Entry) (es : List Entry) → all_vacant (e ∷ es) ≡ both (is_vacant e) (all_vacant es)
unfolding all_vacant
all_vacant_next e es = refl
