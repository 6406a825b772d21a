-- Requests in rows, as the rules of events leave them: one row more. Assumes nothing.
use mathlib.Core.Path.{◌≡◌, refl, ap, sym, ◌∙◌}
use mathlib.Core.Bool.{Bool, true, false, not}
use mathlib.Core.List.{List, [], ◌∷◌, ◌++◌, map, map-append}
use Prim.Native.Nat.{ℕ, zero, suc, ◌+◌, ◌<◌}
use native.Mathlib.Numerals.{add-one}
use native.Mathlib.Omega.{arith}
use lib.Dec.{eqb}
use lib.ListN.{length}
use Rattle.std.specs.Bool.{MatchBool}
use Rattle.std.specs.List.{range_with_len, AllWithin, HoldsAt}
use Rattle.std.proofs.lemmas.List.FromFn.{length-range_with_len, get_or-range_with_len}
use borrow.Author.Tests.{ne_eqb, not-true, not-false}
use Rattle.requests.specs.declared.Device.{Device}
use Rattle.requests.specs.declared.Request.{Request}
use Rattle.requests.specs.declared.Setup.{Setup}
use Rattle.requests.specs.Choice.{both, either}
use Rattle.requests.specs.Devices.{counter_count, all_counters}
use Rattle.requests.specs.EventRules.{rule_for, wants_quiet}
use Rattle.requests.specs.RuledEvents.{Unruled}
use Rattle.plans.specs.Narrowed.{narrowed, any_lone, quiet_kept}
use Rattle.plans.specs.Search.{empty_room, plan_in, first_plan}
use Rattle.plans.specs.Packed.{packed}
use Rattle.plans.proofs.Narrowing.{all_kept, unnarrowed}
use Rattle.search.specs.Counters.{with_counters}
use Rattle.search.specs.Rows.{request_at, set_request, rows_from}
use Rattle.search.proofs.RequestRows.{rows_last, rows_put}

-- ---- a lone request among the rows

module _ (d : Device) (rows : List ℕ) where
  -- whether the request in row i wants every other counter quiet
  abbrev pub lone_at : ℕ → Bool
  lone_at i = wants_quiet (rule_for d (request_at rows i))

  some_lone : (n i k : ℕ) → k < n → lone_at (i + k) ≡ true → any_lone d (rows_from rows i n) ≡ true
  unfolding any_lone rows_from either
  some_lone zero i k l h = absurd (omega arith)
  some_lone (suc n) i zero l h = let here : i + 0 ≡ i = omega arith in rw (rw here at h)
  some_lone (suc n) i (suc k) l h =
      let there : i + suc k ≡ i + 1 + k = omega arith in
      rw (some_lone n (i + 1) k (omega arith) (rw there at h)) (go (lone_at i))
    where
      go : (b : Bool) → either b true ≡ true
      go true = refl
      go false = refl

  none_lone : (n i : ℕ) → ((k : ℕ) → k < n → lone_at (i + k) ≡ false) → any_lone d (rows_from rows i n) ≡ false
  unfolding any_lone rows_from either
  none_lone zero i h = refl
  none_lone (suc n) i h =
      let here : i + 0 ≡ i = omega arith in
      rw (rw here at (h 0 (omega arith))) (none_lone n (i + 1) (λ k l. let there : i + suc k ≡ i + 1 + k = omega arith in rw there at (h (suc k) (omega arith))))

  -- `any` over the rows
  pub lone_any : (n : ℕ) (b : Bool) → let at = range_with_len 0 n in
      MatchBool b ((k : ℕ) × (k < length at) × HoldsAt (λ i. lone_at i ≡ true) at k) (AllWithin (λ i. lone_at i ≡ false) at 0 (length at)) → b ≡ any_lone d (rows_from rows 0 n)
  lone_any n true (k, l, h) =
      let within : k < n = rw (length-range_with_len 0 n) at l in
      sym (some_lone n 0 k within (rw (get_or-range_with_len 0 n k 0 within) at (h 0)))
  lone_any n false h =
      sym (none_lone n 0 (λ k l. rw (get_or-range_with_len 0 n k 0 l) at (h k 0 (omega arith) (rw (length-range_with_len 0 n) l))))

-- ---- whether the rules let requests through

module _ (s : Setup) (rs : List Request) where
  pub kept_none : any_lone s.device rs ≡ false → quiet_kept s rs ≡ true
  unfolding quiet_kept either
  kept_none e = rw e

  pub kept_one : any_lone s.device rs ≡ true → length rs ≡ 1 → quiet_kept s rs ≡ eqb s.usable.0 (all_counters s.device)
  unfolding quiet_kept either both
  kept_one e one = rw (e, one)

  pub kept_more : any_lone s.device rs ≡ true → (length rs ≡ 1 → ⊥) → quiet_kept s rs ≡ false
  unfolding quiet_kept either both
  kept_more e more = rw (e, ne_eqb (length rs) 1 more)

-- ---- narrowed rows

pub narrowed_on : (d : Device) (rows old new : List ℕ) (i : ℕ) (r q : Request) → q ≡ request_at rows i → r ≡ narrowed d q → new ≡ set_request old i r → request_at new i ≡ r
    → rows_from old 0 i ≡ map (narrowed d) (rows_from rows 0 i) → rows_from new 0 (i + 1) ≡ map (narrowed d) (rows_from rows 0 (i + 1))
narrowed_on d rows old new i r q at is put back same =
    let from : 0 + i ≡ i = omega arith in
    let here : rows_from rows 0 (i + 1) ≡ rows_from rows 0 i ++ request_at rows i ∷ [] = ap (rows_from rows 0) (add-one i) ∙ rows_last rows 0 i ∙ rw from in
    rows_put old new i r put back ∙ rw (same, is, at, here) (sym (map-append (narrowed d) (rows_from rows 0 i) (request_at rows i ∷ [])))

-- ---- the search of what is left

-- a plan asks of a setup its device and its usable counters
pub plan_alike : (s : Setup) (rs : List Request) (x : ℕ) → x ≡ packed (first_plan (with_counters s.device s.usable) rs) → x ≡ packed (first_plan s rs)
unfolding first_plan quiet_kept
plan_alike s rs x e = e

module _ (s : Setup) (rs : List Request) where
  -- where the rules let nothing through, there is no plan
  pub plan_unkept : (b : Bool) → b ≡ quiet_kept s rs → not b ≡ true → 0 ≡ packed (first_plan s rs)
  unfolding first_plan packed
  plan_unkept b is off = rw (sym is ∙ not-true b off, first_plan)

  pub plan_kept : (b : Bool) → b ≡ quiet_kept s rs → not b ≡ false → (qs : List Request) → qs ≡ map (narrowed s.device) rs
      → (x : ℕ) → x ≡ packed (plan_in (counter_count s.device) qs (empty_room s)) → x ≡ packed (first_plan s rs)
  unfolding first_plan
  plan_kept b is on qs as-left x found = found ∙ rw (sym is ∙ not-false b on, first_plan, as-left)

  -- where no event has a rule, they are searched as they are
  pub plan_unruled : Unruled s.device → (x : ℕ) → x ≡ packed (plan_in (counter_count s.device) rs (empty_room s)) → x ≡ packed (first_plan s rs)
  plan_unruled free x found = plan_kept true (sym (all_kept s free rs)) refl rs (sym (unnarrowed s free rs)) x found
