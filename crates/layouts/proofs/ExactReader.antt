-- The reader accepts exactly the values that a legal plan of well-formed requests leaves: `ExactReader`, by LeftValues one way and FoundValues the other.
use Rattle.std.proofs.lemmas.Option.{none-some}
use Rattle.std.specs.Prelude.{None, Some, Err}
use mathlib.Core.Path.{◌≡◌, refl, sym, ap, ◌∙◌}
use mathlib.Core.Bool.{Bool, true, false}
use Rattle.requests.specs.declared.Opening.{Opening}
use Rattle.requests.specs.declared.Setup.{Setup}
use Rattle.requests.specs.declared.Refusal.{Refusal}
use Rattle.requests.specs.declared.Refusal.TheVariants.{BadOpening, NotLeftByPlan}
use Rattle.requests.specs.Refusals.{number_of, answer_number}
use Rattle.requests.specs.Devices.{capacity, setup_of}
use Rattle.layouts.specs.Read.{accepts, answer_of, reading_of, read_of}
use Rattle.layouts.specs.Told.{told, told_by, told_plan}
use Rattle.layouts.specs.ExactReader.{LeavesValues, RefusedWith, ExactReader}
use Rattle.layouts.specs.declared.CounterState.TheVariants.{NotOurs}
use Rattle.layouts.specs.declared.RegisterValues.{RegisterValues}
use Rattle.layouts.specs.Read.{Reading}
use Rattle.layouts.proofs.ListLaws.{map_replicate}
use Rattle.layouts.proofs.UsableSets.{usable_within}
use Rattle.layouts.proofs.ReaderAnswers.{read_unopened, read_accepted, read_not_left}
use Rattle.layouts.proofs.LeftValues.{left_accepted, left_told}
use Rattle.layouts.proofs.FoundValues.{accepted_left}

-- a refusal has its number, and nothing is told
refused_with_lem : (x : Refusal) → RefusedWith (number_of x) (Err x)
unfolding answer_number told_by told
refused_with_lem x = (refl, map_replicate told capacity NotOurs)

reading_accepted : (s : Setup) (v : RegisterValues) → answer_number (answer_of (reading_of s v)) ≡ None
unfolding reading_of answer_number
reading_accepted s v = refl

module _ (o : Opening) (s : Setup) (v : RegisterValues) (opened : setup_of o ≡ Some s) where
  accepted : (plan : LeavesValues s v) → (answer_number (answer_of (read_of o v)) ≡ None) × (told_by (read_of o v) ≡ told_plan s plan.requests plan.places)
  accepted plan =
      let within = usable_within o s opened in
      let read = read_accepted o s v opened (left_accepted s v within plan) in
      (ap (λ (r : Reading). answer_number (answer_of r)) read ∙ reading_accepted s v, ap told_by read ∙ left_told s v within plan)

  -- an accepted reading passes the test
  pub accepted_test : answer_number (answer_of (read_of o v)) ≡ None → accepts s v ≡ true
  accepted_test e = go (accepts s v) refl
    where
      go : (b : Bool) → accepts s v ≡ b → b ≡ true
      go true h = refl
      go false h =
          absurd (none-some (number_of NotLeftByPlan)
          (sym e ∙ ap (λ (r : Reading). answer_number (answer_of r)) (read_not_left o s v opened h) ∙ (refused_with_lem NotLeftByPlan).0))

  only : answer_number (answer_of (read_of o v)) ≡ None → LeavesValues s v
  only e = accepted_left s v (usable_within o s opened) (accepted_test e)

  refused : ¬ LeavesValues s v → RefusedWith 15 (read_of o v)
  unfolding number_of
  refused n = go (accepts s v) refl
    where
      go : (b : Bool) → accepts s v ≡ b → RefusedWith 15 (read_of o v)
      go true h = absurd (n (accepted_left s v (usable_within o s opened) h))
      go false h = rw (read_not_left o s v opened h) (refused_with_lem NotLeftByPlan)

opening : (o : Opening) (v : RegisterValues) → setup_of o ≡ None → RefusedWith 3 (read_of o v)
unfolding number_of
opening o v e = rw (read_unopened o v e) (refused_with_lem BadOpening)

pub exact_reader : ExactReader
exact_reader = record { opening = opening; accepted = accepted; only = only; refused = refused }
