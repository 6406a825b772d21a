-- Laws on the entries taken, one after another: where they stand in the queue, their requests, and their plan. Assumes nothing.
use mathlib.Core.Path.{◌≡◌, refl, ap, ◌∙◌}
use Prim.Native.Nat.{ℕ, suc, ◌+◌, ◌≤◌, ◌<◌}
use mathlib.Core.List.{List, [], ◌∷◌, ◌++◌, map-append}
use native.Mathlib.Nat.{add-zero, zero-add}
use native.Mathlib.Numerals.{add-one}
use native.Mathlib.Omega.{arith}
use lib.ListN.{length, take, get_or, set, length-map}
use lib.Seq.{take-suc-set, length-take-le}
use Rattle.requests.specs.declared.Entry.{Entry}
use Rattle.plans.specs.Packed.{place_at_lem, places_from}
use Rattle.sessions.specs.declared.Assigned.{Assigned}
use Rattle.sessions.specs.Turns.{requests_of, assign}
use Rattle.sessions.specs.Sessions.{vacant}
use Rattle.planner.specs.Selections.{entries_at, planned}
use Rattle.requests.proofs.Windows.{take_next}

-- ---- where the entries stand

module _ (queue : List Entry) (n : ℕ) (places : List ℕ) where
  pub entries_length : n ≤ length places → length (entries_at queue n places) ≡ n
  unfolding entries_at
  entries_length h = length-map (take n places) _ ∙ length-take-le n places h

  -- one place more is gone through
  pub entries_next : n < length places → entries_at queue (n + 1) places ≡ entries_at queue n places ++ (get_or queue (get_or places n 0) vacant ∷ [])
  unfolding entries_at
  entries_next h = rw (take_next places n 0 h) (map-append _ (take n places) (get_or places n 0 ∷ []))

  -- one place more is noted
  pub entries_noted : (i : ℕ) → n < length places → entries_at queue (n + 1) (set places n i) ≡ entries_at queue n places ++ (get_or queue i vacant ∷ [])
  unfolding entries_at
  entries_noted i h = rw (add-one n, take-suc-set places n i h) (map-append _ (take n places) (i ∷ []))

-- ---- their requests and their plan

pub requests_next : (es : List Entry) (e : Entry) → requests_of (es ++ (e ∷ [])) ≡ requests_of es ++ (e.request ∷ [])
unfolding requests_of
requests_next es e = map-append _ es (e ∷ [])

plan_last : (code i : ℕ) (es : List Entry) (e : Entry) → assign (es ++ (e ∷ [])) (places_from code i (requests_of (es ++ (e ∷ []))))
    ≡ assign es (places_from code i (requests_of es)) ++ (record { id = e.id; place = place_at_lem code (i + length es) e.request } ∷ [])
unfolding assign places_from requests_of
plan_last code i [] e = rw (add-zero i)
plan_last code i (d ∷ es) e =
    let s : i + 1 + length es ≡ i + suc (length es) = omega arith in
    ap (λ (l : List Assigned). record { id = d.id; place = place_at_lem code i d.request } ∷ l) (rw (← s) (plan_last code (i + 1) es e))

plan_size : (code i : ℕ) (es : List Entry) → length (assign es (places_from code i (requests_of es))) ≡ length es
unfolding assign places_from requests_of
plan_size code i [] = refl
plan_size code i (e ∷ es) = ap suc (plan_size code (i + 1) es)

-- one entry more
pub planned_next : (code n : ℕ) (es : List Entry) (e : Entry) → length es ≡ n
    → planned code (es ++ (e ∷ [])) ≡ planned code es ++ (record { id = e.id; place = place_at_lem code n e.request } ∷ [])
unfolding planned
planned_next code n es e h = plan_last code 0 es e ∙ rw (zero-add, h)

pub planned_length : (code : ℕ) (es : List Entry) → length (planned code es) ≡ length es
unfolding planned
planned_length code es = plan_size code 0 es
