-- What the search answers over the rows of a turn: with one request more behind those taken, and of one request alone; and the number of
-- usable counters, past which nothing is searched. Assumes nothing.
use Rattle.std.specs.Prelude.{Some}
use mathlib.Core.Path.{◌≡◌, refl, ap, sym, ◌∙◌}
use Prim.Native.Nat.{ℕ, ◌+◌, ◌*◌, ◌^◌, ◌≤◌, ◌<◌}
use mathlib.Core.Bool.{true, not, not-not}
use mathlib.Core.List.{List, [], ◌∷◌, ◌++◌}
use native.Mathlib.Numerals.{add-one}
use native.Mathlib.Omega.{arith}
use lib.Dec.{eqb}
use lib.ListN.{length, take}
use lib.Seq.{take_at}
use Rattle.requests.specs.declared.Setup.{Setup}
use Rattle.requests.specs.declared.Request.{Request}
use Rattle.requests.specs.declared.Request.TheVariants.{Event}
use Rattle.requests.specs.Devices.{size}
use Rattle.plans.specs.Legal.{HasPlan}
use Rattle.plans.specs.declared.Place.{Place}
use Rattle.plans.specs.Search.{first_plan, has_plan_lem}
use Rattle.plans.specs.Parts.{usable_count}
use Rattle.plans.specs.Extends.{LeastUnused}
use Rattle.search.specs.Rows.{request_at, rows_from, set_request}
use Rattle.plans.specs.Packed.{packed}
use Rattle.search.specs.Beside.{Beside, event}
use Rattle.plans.proofs.FirstFound.{first_plan_lem}
use Rattle.search.proofs.RequestRows.{put_length, rows_length, rows_last, rows_put}
use Rattle.search.proofs.Unpacking.{some_packed, none_packed, plan_packed, plan_unpacked, first_code}
use Rattle.search.proofs.Giving.{places_length}
use Rattle.plans.proofs.ExtendsHold.{extends}
use Rattle.plans.specs.Reach.{left_of}
use Rattle.plans.specs.FilterWords.{crowded}
use Rattle.plans.proofs.PlanTestHolds.{plan_test}
use Rattle.plans.proofs.ReachHolds.{reach}
use Rattle.plans.proofs.FilterWordsHold.{filter_words}
use Rattle.plans.proofs.PlanLengthHolds.{plan_length}
use Rattle.planner.specs.Selections.{Searched}
use borrow.Author.Tests.{eqb-true}

-- ---- what the search answers

-- the number is 0 exactly where no plan is legal
module _ (s : Setup) (rs : List Request) where
  pub found_plan : (packed (first_plan s rs) ≡ 0 → ⊥) → HasPlan s rs
  found_plan h = let f = some_packed (first_plan s rs) h in (f.0, (first_plan_lem.sound s rs f.0 f.1).legal)

  pub found_none : packed (first_plan s rs) ≡ 0 → ¬ HasPlan s rs
  found_none h = first_plan_lem.complete s rs (none_packed (first_plan s rs) h)

  no_plan : ¬ HasPlan s rs → 0 ≡ packed (first_plan s rs)
  no_plan h = sym (eqb-true (packed (first_plan s rs)) 0 (plan_packed s rs ∙ ap not (plan_test.unplanned s rs h)))

-- the answer is 0 where there is no plan
searched_no : (s : Setup) (rows : List ℕ) (count : ℕ) (r : Request) → ¬ HasPlan s (rows_from rows 0 count ++ (r ∷ [])) → length rows ≡ 32 → Searched s rows count r rows 0
searched_no s rows count r unplanned size =
    record {
      answer = no_plan s (rows_from rows 0 count ++ (r ∷ [])) unplanned;
      kept = refl;
      behind = λ exists. absurd (exists refl);
      size = size;
    }

-- so where as many requests are taken as counters are usable
pub searched_none : (s : Setup) (rows : List ℕ) (count : ℕ) (r : Request) → usable_count s ≤ count → length rows ≡ 32 → Searched s rows count r rows 0
searched_none s rows count r full size =
    searched_no s rows count r (plan_length.full s (rows_from rows 0 count) r (rw rows_length full)) size

-- and where the requests leave no set of counters
pub searched_unreached : (s : Setup) (rows : List ℕ) (count : ℕ) (r : Request) → s.usable.0 < 64 → left_of s (rows_from rows 0 count ++ (r ∷ [])) ≡ 0 → length rows ≡ 32 → Searched s rows count r rows 0
searched_unreached s rows count r fits gone size =
    searched_no s rows count r (reach.unplanned s (rows_from rows 0 count ++ (r ∷ [])) fits gone) size

-- the rows in front stay
rows_front : (old new : List ℕ) (i : ℕ) (r : Request) → new ≡ set_request old i r → request_at new i ≡ r → rows_from new 0 i ≡ rows_from old 0 i
rows_front old new i r put back =
    sym (take_at (rows_from new 0 i) (request_at new (0 + i) ∷ []) i (rows_length new 0 i))
    ∙ ap (take i) (sym (rows_last new 0 i) ∙ rw (← add-one i) (rows_put old new i r put back))
    ∙ take_at (rows_from old 0 i) (r ∷ []) i (rows_length old 0 i)

-- otherwise it is that of the rows with the request put behind them
pub searched_rows : (s : Setup) (rows : List ℕ) (count : ℕ) (r : Request) (next : List ℕ) → next ≡ set_request rows count r → request_at next count ≡ r → length rows ≡ 32
    → (found : ℕ) → found ≡ packed (first_plan s (rows_from next 0 (count + 1))) → Searched s rows count r next found
searched_rows s rows count r next put back size found e =
    let behind = rows_put rows next count r put back in
    record {
      answer = e ∙ rw behind;
      kept = rows_front rows next count r put back;
      behind = λ exists. behind;
      size = rw (put, put_length) size;
    }

-- so that it is 0 where the requests ask for more filter words than the registers hold
pub searched_crowded : (s : Setup) (rows : List ℕ) (count : ℕ) (r : Request) (next : List ℕ) → next ≡ set_request rows count r → request_at next count ≡ r → length rows ≡ 32
    → crowded (rows_from next 0 (count + 1)) ≡ true → Searched s rows count r next 0
searched_crowded s rows count r next put back size more =
    let rs = rows_from next 0 (count + 1) in
    searched_rows s rows count r next put back size 0 (no_plan s rs (filter_words.unplanned s rs more))

-- ---- an event beside the plan

-- its counter is one of the few that a device has
pub beside_few : {s : Setup} {rs : List Request} {code : ℕ} {r : Request} {k : ℕ} → Beside s rs code r k → k < 8
beside_few {s} (event u n) = omega (arith, n.unused.0.0, reach.few s.device)

-- and the number of the plan has room for it
pub code_few : (s : Setup) (rows : List ℕ) (count code : ℕ) → code ≡ packed (first_plan s (rows_from rows 0 count)) → count ≤ 7 → code < 8796093022208
code_few s rows count code e h = rw e (first_code s (rows_from rows 0 count) (rw rows_length h))

-- the number of the plan with the event's counter behind it
extended : (s : Setup) (rs : List Request) (r : Request) (k : ℕ) → (packed (first_plan s rs) ≡ 0 → ⊥) → Beside s rs (packed (first_plan s rs)) r k
    → packed (first_plan s rs) + (63 + k * 8) * 2 ^ (6 * length rs) ≡ packed (first_plan s (rs ++ (r ∷ [])))
unfolding packed
extended s rs r k exists (event {c = c} {m = m} {a = a} may n) =
    let f = some_packed (first_plan s rs) exists in
    let back = plan_unpacked s rs f.0 f.1 in
    let long : length rs ≡ length f.0 = sym (places_length (packed (first_plan s rs)) 0 rs) ∙ ap length back in
    go f.0 f.1 long (rw back at n)
  where
    go : (ps : List Place) → first_plan s rs ≡ Some ps → length rs ≡ length ps → LeastUnused s a ps k
        → packed (first_plan s rs) + (63 + k * 8) * 2 ^ (6 * length rs) ≡ packed (first_plan s (rs ++ (Event c m a ∷ [])))
    go ps e long least = rw (extends.event s rs c m a ps k may least e, e, long) (sym (extends.number ps k))

pub searched_extended : (s : Setup) (rows : List ℕ) (count : ℕ) (r : Request) (next : List ℕ) → next ≡ set_request rows count r → request_at next count ≡ r → length rows ≡ 32
    → (code : ℕ) → code ≡ packed (first_plan s (rows_from rows 0 count)) → (code ≡ 0 → ⊥) → (k : ℕ) → Beside s (rows_from rows 0 count) code r k
    → (found : ℕ) → found ≡ code + (63 + k * 8) * 2 ^ (6 * count) → Searched s rows count r next found
searched_extended s rows count r next put back size code e exists k b found f =
    let rs = rows_from rows 0 count in
    let more = rw rows_length at (extended s rs r k (λ z. exists (e ∙ z)) (rw e at b)) in
    searched_rows s rows count r next put back size found (f ∙ rw (e, rows_put rows next count r put back) more)

-- ---- one request

-- whether it has a plan alone: the search over the first row
pub plan_alone : (s : Setup) (r : Request) (rows next : List ℕ) → next ≡ set_request rows 0 r → request_at next 0 ≡ r
    → (found : ℕ) → found ≡ packed (first_plan s (rows_from next 0 1)) → not (eqb found 0) ≡ has_plan_lem s (r ∷ [])
unfolding rows_from
plan_alone s r rows next put back found e = rw (e, rows_put rows next 0 r put back, plan_packed s (r ∷ [])) (not-not (has_plan_lem s (r ∷ [])))
