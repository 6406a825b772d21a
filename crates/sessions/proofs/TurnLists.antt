-- The write lists of n turns are those of the first legal plans. Assumes nothing.
use mathlib.Core.Path.{◌≡◌, refl, ap, ◌∙◌}
use mathlib.Core.List.{List, ◌∷◌}
use Prim.Native.Nat.{ℕ, zero, suc}
use Rattle.requests.specs.declared.Setup.{Setup}
use Rattle.requests.specs.declared.Entry.{Entry}
use Rattle.plans.specs.declared.Place.{Place}
use Rattle.plans.proofs.FirstFound.{first_plan_lem}
use Rattle.layouts.specs.Writes.{Write, writes}
use Rattle.sessions.specs.Turns.{requests_of, taken, turned, places_of, writes_of, lists_of}
use Rattle.sessions.specs.RefusalTable.{Lists, no_turn, a_turn}
use Rattle.sessions.proofs.TakenPlan.{taken_first}

pub lists_hold : (s : Setup) (n : ℕ) (q : List Entry) → Lists s n q (lists_of s n q)
unfolding lists_of writes_of
lists_hold s zero q = no_turn
lists_hold s (suc n) q = a_turn (taken_first s q) (lists_hold s n (turned s q))

pub lists_are : {s : Setup} {n : ℕ} {q : List Entry} {lists : List (List Write)} → Lists s n q lists → lists ≡ lists_of s n q
unfolding lists_of writes_of
lists_are no_turn = refl
lists_are {s} (a_turn {n = n} {q = q} {ps = ps} {lists = lists} first rest) =
    ap (λ (x : List Place). writes s (requests_of (taken s q)) x ∷ lists) (first_plan_lem.only s (requests_of (taken s q)) ps (places_of s (taken s q)) first (taken_first s q))
    ∙ ap (λ (l : List (List Write)). writes s (requests_of (taken s q)) (places_of s (taken s q)) ∷ l) (lists_are rest)
