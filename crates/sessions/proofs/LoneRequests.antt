-- What a session on B does with a lone request: its plans are those of `PrecisePlans`. Assumes nothing.
--     refused-otherwise    without the usable set 15 it has no plan alone
--     taken-alone          a turn that takes it has a plan with nothing else
--     left-behind          where a turn takes only its head, the rest is passed over
use Rattle.std.specs.Prelude.{Some}
use mathlib.Core.Path.{◌≡◌, refl, ap, sym, subst, ◌∙◌}
use mathlib.Core.Logic.{◌≢◌}
use mathlib.Core.List.{List, [], ◌∷◌, ◌++◌, map, Memᴰ}
use mathlib.Core.Bool.{Bool, true, false}
use mathlib.Mathlib.Data.Bool.Basic.{eq-false_of_not-eq-true}
use Prim.Native.Nat.{ℕ, ◌≤◌}
use native.Mathlib.Omega.{arith}
use lib.ListN.{length}
use Rattle.requests.specs.declared.CounterSet.{CounterSet}
use Rattle.requests.specs.declared.Device.{Device}
use Rattle.requests.specs.declared.Device.TheVariants.{B}
use Rattle.requests.specs.declared.Setup.{Setup}
use Rattle.requests.specs.declared.Request.{Request}
use Rattle.requests.specs.declared.Request.TheVariants.{Event}
use Rattle.requests.specs.declared.Refusal.{Refusal}
use Rattle.requests.specs.declared.Refusal.TheVariants.{NoPlanAlone}
use Rattle.requests.specs.declared.Entry.{Entry}
use Rattle.requests.specs.Refusals.{number_of}
use Rattle.requests.specs.Choice.{both, either}
use Rattle.requests.specs.Devices.{counter_count, all_counters}
use Rattle.requests.specs.MaskRules.{allows}
use Rattle.requests.specs.Catalogue.{architectural_events, precise_events, events_of, pair_in}
use Rattle.requests.specs.Checks.{request_refusal, Formed}
use Rattle.requests.specs.WellFormedRequests.{event}
use Rattle.requests.proofs.WellFormed.{well_formed_requests}
use Rattle.plans.specs.Legal.{HasPlan}
use Rattle.plans.proofs.PlanTestHolds.{plan_test}
use Rattle.plans.proofs.PrecisePlans.{precise_plans}
use Rattle.sessions.specs.Choose.{taken_after, passed_after}
use Rattle.sessions.specs.Turns.{requests_of, fits, taken, passed, turned, places_of}
use Rattle.sessions.specs.Calls.{Call, Add, not_open_lem, opened}
use Rattle.sessions.specs.Table.{refusal}
use Rattle.sessions.specs.Plain.{run}
use Rattle.sessions.specs.RefusalTable.{IsId, Waits}
use Rattle.sessions.specs.LoneRequests.{AsksPdir, LoneRequests}
use Rattle.sessions.proofs.Conditions.{id_test, waits_test}
use Rattle.sessions.proofs.TableAnswers.{add_no_plan}
use Rattle.sessions.proofs.TakenPlan.{taken_first}
use Rattle.sessions.proofs.Takes.{taken_yes, taken_no, passed_yes, passed_no}
use Rattle.sessions.proofs.HeadTaken.{head_taken}

-- ---- 12

listed_on_b : pair_in (events_of B) 0xC0 0x01 ≡ true
unfolding pair_in events_of architectural_events precise_events allows both either
listed_on_b = refl

pdir_formed : (s : Setup) (a : CounterSet) → s.device ≡ B → a.0 ≤ 15 → Formed s (Event 0xC0 0x01 a)
unfolding all_counters counter_count
pdir_formed s a on few =
    well_formed_requests.formed s (Event 0xC0 0x01 a)
    (event (subst (λ (d : Device). pair_in (events_of d) 0xC0 0x01 ≡ true) (sym on) listed_on_b) (subst (λ (d : Device). a.0 ≤ all_counters d) (sym on) few))

refused_otherwise : (limit : ℕ) (s : Setup) (q : List Entry) (id : ℕ) (a : CounterSet) → s.device ≡ B → s.usable.0 ≢ 15 → IsId id → ¬ Waits id q → a.0 ≤ 15
    → (x : Refusal) × (refusal limit (opened s q) (Add id (Event 0xC0 0x01 a)) ≡ Some x) × (number_of x ≡ 12)
unfolding number_of request_refusal
refused_otherwise limit s q id a on other good new few = (
  NoPlanAlone,
  add_no_plan limit s q id (Event 0xC0 0x01 a) (eq-false_of_not-eq-true (λ h. (id_test id).0 h good)) (eq-false_of_not-eq-true (λ h. new ((waits_test id q).0 h))) (pdir_formed s a on few)
      (plan_test.unplanned s (Event 0xC0 0x01 a ∷ []) (λ p. other ((precise_plans.instructions_alone s a on).0 p).0)),
  refl,
)

-- ---- what a turn takes

request_among : (e : Entry) (es : List Entry) → Memᴰ e es → Memᴰ e.request (requests_of es)
unfolding requests_of
request_among e (x ∷ es) (Memᴰ.head h) = Memᴰ.head (ap (λ (y : Entry). y.request) h)
request_among e (x ∷ es) (Memᴰ.tail m) = Memᴰ.tail (request_among e es m)
request_among e [] x' = elim x' [ ]

-- entries of one request are one entry
one_entry : (e : Entry) (r : Request) (es : List Entry) → requests_of es ≡ r ∷ [] → Memᴰ e es → es ≡ e ∷ []
unfolding requests_of
one_entry e r (x ∷ []) h (Memᴰ.head is) = ap (λ (y : Entry). y ∷ []) (sym is)
one_entry e r (x ∷ y ∷ es) h m = let z : ◌≡◌ {A = ℕ} (length (map (λ (n : Entry). n.request) (x ∷ y ∷ es))) 1 = ap length h in absurd (omega arith)
one_entry e r [] h m = elim m [ ]
one_entry e r (x ∷ []) h (mathlib.Core.List.Memᴰ.tail x11) = elim x11 [ ]

taken_alone : (s : Setup) (q : List Entry) (e : Entry) → s.device ≡ B → AsksPdir e → Memᴰ e (taken s q) → taken s q ≡ e ∷ []
taken_alone s q e on (a, asks) m =
    one_entry e (Event 0xC0 0x01 a) (taken s q)
    (precise_plans.instructions s (requests_of (taken s q)) (places_of s (taken s q)) a on
    (subst (λ (r : Request). Memᴰ r (requests_of (taken s q))) asks (request_among e (taken s q) m)) (taken_first s q).legal).1
    m

-- ---- the head

same_head : {a b : Entry} {more : List Entry} → a ∷ more ≡ b ∷ [] → a ≡ b
same_head {a} e = ap (λ (l : List Entry). elim l [ [] ↦ a | x ∷ xs ↦ x ]) e

at_the_head : (limit : ℕ) (calls : List Call) (s : Setup) (q : List Entry) (e : Entry) → run limit not_open_lem calls ≡ opened s q → s.device ≡ B → AsksPdir e
    → Memᴰ e (taken s q) → (rest : List Entry) × (q ≡ e ∷ rest)
unfolding taken taken_after
at_the_head limit calls s [] e left on asks m = elim m [ ]
at_the_head limit calls s (x ∷ rest) e left on asks m =
    let first = head_taken limit calls s x rest left in
    (rest, ap (λ (y : Entry). y ∷ rest) (same_head (sym first.1 ∙ taken_alone s (x ∷ rest) e on asks m)))

-- where nothing is taken all is passed over
none_taken : (test : List Entry → Bool) (done q : List Entry) → taken_after test done q ≡ [] → passed_after test done q ≡ q
unfolding passed_after
none_taken test done [] h = refl
none_taken test done (e ∷ q) h = go (test (done ++ e ∷ [])) refl (none_taken test done q)
  where
    go : (b : Bool) → test (done ++ e ∷ []) ≡ b → (taken_after test done q ≡ [] → passed_after test done q ≡ q) → passed_after test done (e ∷ q) ≡ e ∷ q
    go true t below = let z : ◌≡◌ {A = ℕ} (length (taken_after test done (e ∷ q))) 0 = ap length h in absurd (omega (arith, ap length (taken_yes test done e q t)))
    go false t below = passed_no test done e q t ∙ ap (λ (l : List Entry). e ∷ l) (below (sym (taken_no test done e q t) ∙ h))

left_behind : (s : Setup) (e : Entry) (rest : List Entry) → taken s (e ∷ rest) ≡ e ∷ [] → passed s (e ∷ rest) ≡ rest
unfolding taken passed fits
left_behind s e rest h =
    passed_yes (fits s) [] e rest fit ∙ none_taken (fits s) (e ∷ []) rest (tail (sym (taken_yes (fits s) [] e rest fit) ∙ h))
  where
    -- those taken have a plan
    fit : fits s (e ∷ []) ≡ true
    fit = plan_test.planned s (requests_of (e ∷ [])) (subst (λ (es : List Entry). HasPlan s (requests_of es)) h (places_of s (taken s (e ∷ rest)), (taken_first s (e ∷ rest)).legal))

    tail : {x y : Entry} {xs ys : List Entry} → x ∷ xs ≡ y ∷ ys → xs ≡ ys
    tail {xs = xs} same = ap (λ (l : List Entry). elim l [ [] ↦ xs | z ∷ zs ↦ zs ]) same

passed_over : (limit : ℕ) (calls : List Call) (s : Setup) (e : Entry) (rest : List Entry) → run limit not_open_lem calls ≡ opened s (e ∷ rest) → s.device ≡ B → AsksPdir e
    → (taken s (e ∷ rest) ≡ e ∷ []) × (turned s (e ∷ rest) ≡ rest ++ e ∷ [])
unfolding turned
passed_over limit calls s e rest left on asks =
    let first = head_taken limit calls s e rest left in
    let only = taken_alone s (e ∷ rest) e on asks (rw first.1 (Memᴰ.head refl)) in
    (only, rw (only, left_behind s e rest only) refl)

pub lone_requests : LoneRequests
lone_requests = record { refused = refused_otherwise; alone = taken_alone; at_the_head = at_the_head; passed_over = passed_over }
