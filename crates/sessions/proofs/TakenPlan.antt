-- The plan of those that a turn takes is their first legal plan. Assumes nothing.
--     taken-fit      those taken have a plan
--     taken-first    so theirs is the first legal one
--     taken-few      so they are no more than arrays have room for
use Rattle.std.specs.Prelude.{Option, None, Some}
use mathlib.Core.Path.{◌≡◌, refl, ap, sym, subst, ◌∙◌}
use mathlib.Core.List.{List, [], ◌∷◌, ◌++◌, append-nil, append_assoc}
use mathlib.Core.Bool.{Bool, true, false, false≢true}
use Prim.Native.Nat.{◌≤◌}
use native.Mathlib.Omega.{arith}
use lib.ListN.{length, length-map}
use Rattle.requests.specs.declared.Setup.{Setup}
use Rattle.requests.specs.declared.Request.{Request}
use Rattle.requests.specs.declared.Entry.{Entry}
use Rattle.requests.specs.Choice.{either}
use Rattle.requests.specs.Devices.{capacity}
use Rattle.plans.specs.declared.Place.{Place}
use Rattle.plans.specs.Order.{First}
use Rattle.plans.specs.Narrowed.{any_lone, quiet_kept}
use Rattle.plans.specs.Search.{plan_in, first_plan, has_plan_lem}
use Rattle.plans.proofs.FirstFound.{first_plan_lem}
use Rattle.plans.proofs.PartsHold.{parts}
use Rattle.plans.proofs.PlanLengthHolds.{plan_length}
use Rattle.sessions.specs.Choose.{taken_after}
use Rattle.sessions.specs.Turns.{requests_of, fits, taken, places_of}
use Rattle.sessions.proofs.Takes.{taken_yes, taken_no}

kept_fits : (test : List Entry → Bool) (done q : List Entry) → test done ≡ true → test (done ++ taken_after test done q) ≡ true
unfolding taken_after
kept_fits test done [] h = ap test (append-nil done) ∙ h
kept_fits test done (e ∷ q) h = go (test (done ++ e ∷ [])) refl (λ d. kept_fits test d q)
  where
    go : (b : Bool) → test (done ++ e ∷ []) ≡ b → ((d : List Entry) → test d ≡ true → test (d ++ taken_after test d q) ≡ true) → test (done ++ taken_after test done (e ∷ q)) ≡ true
    go true k below =
        ap (λ (l : List Entry). test (done ++ l)) (taken_yes test done e q k)
        ∙ ap test (sym (append_assoc done (e ∷ []) (taken_after test (done ++ e ∷ []) q)))
        ∙ below (done ++ e ∷ []) k
    go false k below = ap (λ (l : List Entry). test (done ++ l)) (taken_no test done e q k) ∙ below done h

none_fits : (s : Setup) → fits s [] ≡ true
unfolding fits has_plan_lem first_plan quiet_kept any_lone either plan_in requests_of
none_fits s = refl

-- the places of the plan that is found
abbrev places_in : Option (List Place) → List Place
places_in None = []
places_in (Some ps) = ps

-- the places of entries are those of the first plan of their requests
places_are : (s : Setup) (es : List Entry) → places_of s es ≡ places_in (first_plan s (requests_of es))
unfolding places_of
places_are s es = refl

has_none : (s : Setup) (rs : List Request) → first_plan s rs ≡ None → has_plan_lem s rs ≡ false
unfolding has_plan_lem
has_none s rs e = rw e

first_places : (s : Setup) (es : List Entry) → fits s es ≡ true → First s (requests_of es) (places_of s es)
unfolding fits
first_places s es h = go (first_plan s (requests_of es)) refl
  where
    go : (o : Option (List Place)) → first_plan s (requests_of es) ≡ o → First s (requests_of es) (places_of s es)
    go None e = absurd (false≢true (sym (has_none s (requests_of es) e) ∙ h))
    go (Some ps) e = subst (λ (x : List Place). First s (requests_of es) x) (sym (places_are s es ∙ ap places_in e)) (first_plan_lem.sound s (requests_of es) ps e)

taken_fit : (s : Setup) (q : List Entry) → fits s (taken s q) ≡ true
unfolding taken
taken_fit s q = kept_fits (fits s) [] q (none_fits s)

pub taken_first : (s : Setup) (q : List Entry) → First s (requests_of (taken s q)) (places_of s (taken s q))
taken_first s q = first_places s (taken s q) (taken_fit s q)

pub requests_length : (es : List Entry) → length (requests_of es) ≡ length es
unfolding requests_of
requests_length es = length-map es _

pub taken_few : (s : Setup) (q : List Entry) → length (taken s q) ≤ capacity
taken_few s q =
    let m = parts.at_most s (requests_of (taken s q)) (places_of s (taken s q), (taken_first s q).legal) in
    omega (arith, requests_length (taken s q), plan_length.usable_at_most s, plan_length.device_at_most s.device)
