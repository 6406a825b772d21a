-- The writes of a plan, applied to any registers and read, give that plan: `RoundTrip`, by the law of the values that a plan leaves (LeftValues).
use Rattle.std.specs.Prelude.{Ok}
use mathlib.Core.Path.{◌≡◌, refl, ap, ◌∙◌}
use Prim.Native.Nat.{ℕ}
use borrow.Author.Tests.{lt-ltb}
use lib.Dec.{ltb}
use Rattle.requests.specs.Choice.{pick}
use Rattle.requests.specs.declared.Device.{Device}
use Rattle.requests.specs.declared.Device.TheVariants.{G, S, C, B}
use Rattle.requests.specs.declared.Setup.{Setup}
use Rattle.requests.specs.Devices.{counter_count, capacity, opening_of}
use Rattle.layouts.specs.Layout.{control_at}
use Rattle.layouts.specs.Writes.{writes, apply}
use Rattle.layouts.specs.Read.{reading_of, answer_of}
use Rattle.layouts.specs.Told.{told_by}
use Rattle.layouts.specs.RoundTrip.{values_in, RoundTrip}
use Rattle.layouts.specs.ExactReader.{FiltersShow, Shows, LeavesValues}
use Rattle.layouts.proofs.Tabulated.{get_d_tabulate}
use Rattle.layouts.proofs.DeviceFacts.{in_room}
use Rattle.layouts.proofs.UsableSets.{usable_within}
use Rattle.layouts.proofs.ReaderAnswers.{read_accepted}
use Rattle.layouts.proofs.LeftValues.{left_accepted, left_told}

filters_show : (d : Device) (r : ℕ → ℕ) → FiltersShow d (values_in d r).filters r
unfolding values_in
filters_show G r = (refl, refl)
filters_show S r = (refl, refl, refl)
filters_show (C b) r = tt
filters_show B r = tt

-- the values in registers are theirs
values_show : (d : Device) (r : ℕ → ℕ) → Shows d (values_in d r) r
unfolding values_in
values_show d r =
    record {
      control = λ k l. get_d_tabulate capacity (λ j. pick (ltb j (counter_count d)) (r (control_at d j)) 0) k 0 (in_room d k l) ∙ rw (lt-ltb k (counter_count d) l);
      filters = filters_show d r;
      global = refl;
      ubox = refl;
      pebs = refl;
    }

answer_accepted : (s : Setup) → (v : _) → answer_of (reading_of s v) ≡ Ok tt
unfolding reading_of
answer_accepted s v = refl

pub round_trip : RoundTrip
round_trip s rs ps opened formed legal registers =
    let v = values_in s.device (apply (writes s rs ps) registers) in
    let within = usable_within (opening_of s) s opened in
    let plan : LeavesValues s v =
    record { requests = rs; places = ps; before = registers; formed = formed; legal = legal; shown = values_show s.device (apply (writes s rs ps) registers) } in
    let read = read_accepted (opening_of s) s v opened (left_accepted s v within plan) in
    record {
      accepted = ap answer_of read ∙ answer_accepted s v;
      plan = ap told_by read ∙ left_told s v within plan;
    }
