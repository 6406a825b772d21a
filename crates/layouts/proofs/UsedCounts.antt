-- What a plan's writes leave in the counts: `UsedCounts`, by `counter-after`. Assumes nothing.
use mathlib.Core.Path.{◌≡◌, refl, ◌∙◌}
use mathlib.Core.Bool.{Bool, true, false}
use mathlib.Core.List.{List, Memᴰ}
use Prim.Native.Nat.{ℕ, ◌<◌}
use Rattle.requests.specs.Choice.{pick}
use Rattle.requests.specs.declared.Setup.{Setup}
use Rattle.requests.specs.declared.Request.{Request}
use Rattle.requests.specs.Bits.{in_list}
use Rattle.requests.specs.Devices.{counter_count}
use Rattle.requests.proofs.BitMembers.{in_member, member_in}
use Rattle.plans.specs.declared.Place.{Place}
use Rattle.plans.specs.Legal.{counters}
use Rattle.layouts.specs.Layout.{counter_at_lem}
use Rattle.layouts.specs.Settings.{settings_of}
use Rattle.layouts.specs.Writes.{writes, apply}
use Rattle.layouts.specs.UsedCounts.{UsedCounts}
use Rattle.layouts.proofs.RegistersAfter.{apply_after, counter_after}
use Rattle.layouts.proofs.GlobalValues.{used_has}

module _ (s : Setup) (rs : List Request) (ps : List Place) (registers : ℕ → ℕ) (k : ℕ) (l : k < counter_count s.device) where
  count_left : apply (writes s rs ps) registers (counter_at_lem s.device k) ≡ pick (in_list (counters ps) k) 0 (registers (counter_at_lem s.device k))
  unfolding writes
  count_left =
      apply_after (writes s rs ps) registers (counter_at_lem s.device k)
      ∙ counter_after s (settings_of s rs ps) k (registers (counter_at_lem s.device k)) l
      ∙ rw (used_has s rs ps k l)

  zeroed : Memᴰ k (counters ps) → apply (writes s rs ps) registers (counter_at_lem s.device k) ≡ 0
  zeroed m = count_left ∙ rw (member_in (counters ps) k m)

  kept : ¬ Memᴰ k (counters ps) → apply (writes s rs ps) registers (counter_at_lem s.device k) ≡ registers (counter_at_lem s.device k)
  kept none = count_left ∙ go (in_list (counters ps) k) refl
    where
      go : (b : Bool) → in_list (counters ps) k ≡ b → pick b 0 (registers (counter_at_lem s.device k)) ≡ registers (counter_at_lem s.device k)
      go true e = absurd (none (in_member (counters ps) k e))
      go false e = refl

pub used_counts : UsedCounts
used_counts = record { zeroed = zeroed; kept = kept }
