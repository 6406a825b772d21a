-- An event that is listed with its mask. Assumes nothing.
--     event-formed     it is well-formed, where it allows no counter above the device's
use mathlib.Core.Path.{◌≡◌, refl}
use mathlib.Core.List.{List, [], ◌∷◌}
use mathlib.Core.Bool.{Bool, true, false, not}
use Prim.Native.Nat.{ℕ}
use lib.Dec.{eqb}
use Rattle.requests.specs.Choice.{both, either, pick, is_some, first_holding}
use Rattle.requests.specs.MaskRules.{allows, ListedEvent}
use Rattle.requests.specs.Catalogue.{events_of, code_in, pair_in, mask_not_listed}
use Rattle.requests.specs.Lookup.{listing_of}
use Rattle.requests.specs.Devices.{pairs_judged}
use Rattle.requests.specs.Checks.{kind_not_on, not_listed_lem, too_wide, out_of_range, incomplete, conflicting, request_rows, request_refusal, formed}
use Rattle.requests.specs.declared.CounterSet.{CounterSet}
use Rattle.requests.specs.declared.Setup.{Setup}
use Rattle.requests.specs.declared.Request.TheVariants.{Event}
use Rattle.requests.specs.declared.Refusal.TheVariants.{KindNotOnDevice, NotListed, OutOfRange, Incomplete, Conflicting}

-- the code of a listed pair is listed
code_listed : (es : List ListedEvent) (c m : ℕ) → pair_in es c m ≡ true → code_in es c ≡ true
unfolding pair_in code_in both either
code_listed [] c m h = h
code_listed (e ∷ es) c m h = go (eqb c e.code) h (code_listed es c m)
  where
    go : (b : Bool) → either (both b (allows e.masks m)) (pair_in es c m) ≡ true → (pair_in es c m ≡ true → code_in es c ≡ true) → either b (code_in es c) ≡ true
    go true p below = refl
    go false p below = below p

pub event_formed : (s : Setup) (c m : ℕ) (a : CounterSet) → (listing_of s.device c m).pair ≡ true → too_wide s.device a ≡ false → formed s (Event c m a) ≡ true
unfolding listing_of formed request_refusal request_rows kind_not_on not_listed_lem out_of_range incomplete conflicting mask_not_listed first_holding both either
event_formed s c m a pair wide = rw (pair, code_listed (events_of s.device) c m pair, wide) (go (pairs_judged s.device) (eqb m 0))
  where
    go : (p z : Bool) → not (is_some (first_holding ((false, KindNotOnDevice) ∷ (not (pick p true true), NotListed)
        ∷ (either (both (not z) (both (not p) (both true (not true)))) false, OutOfRange) ∷ (both z (both (not p) (both true (not true))), Incomplete) ∷ (false, Conflicting) ∷ []))) ≡ true
    go true true = refl
    go true false = refl
    go false true = refl
    go false false = refl
