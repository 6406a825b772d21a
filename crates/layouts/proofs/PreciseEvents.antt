-- IA32_PEBS_ENABLE, its value and its place: `PreciseEvents`, by PreciseValues, PreciseWrites and PreciseReadings, each for B.
use mathlib.Core.Path.{◌≡◌, sym, ap, ◌∙◌}
use mathlib.Core.Logic.{◌≢◌}
use mathlib.Core.Bool.{true, false}
use mathlib.Core.List.{List, [], ◌∷◌}
use Prim.Native.Nat.{ℕ, ◌+◌, ◌*◌, ◌<◌}
use native.Mathlib.Omega.{arith}
use borrow.Author.Tests.{ne_eqb}
use lib.Dec.{ltb}
use lib.ListN.{get_or}
use Rattle.requests.specs.Choice.{either}
use Rattle.requests.specs.declared.Device.{Device}
use Rattle.requests.specs.declared.Device.TheVariants.{G, S, C, B}
use Rattle.requests.specs.declared.Opening.{Opening}
use Rattle.requests.specs.declared.Setup.{Setup}
use Rattle.requests.specs.declared.Request.{Request}
use Rattle.requests.specs.Bits.{bit, in_list}
use Rattle.requests.specs.Devices.{counter_count}
use Rattle.requests.specs.Checks.{Formed}
use Rattle.requests.proofs.Tests.{both_false}
use Rattle.plans.specs.declared.Place.{Place}
use Rattle.plans.specs.Lists.{All}
use Rattle.plans.specs.Legal.{Legal, Usable, counters}
use Rattle.layouts.specs.Layout.{layout_of, control_at}
use Rattle.layouts.specs.Writes.{Write, writes, apply}
use Rattle.layouts.specs.Read.{accepts}
use Rattle.layouts.specs.ExactReader.{LeavesValues}
use Rattle.layouts.specs.PreciseEvents.{TakesPdir, Enables, WrittenLast, Without, on_g, AcceptedOnB, PreciseEvents}
use Rattle.layouts.specs.declared.RegisterValues.{RegisterValues}
use Rattle.layouts.proofs.UsableSets.{on}
use Rattle.layouts.proofs.FormedRequests.{describe_all}
use Rattle.layouts.proofs.PlanWords.{control_left}
use Rattle.layouts.proofs.PlanFilters.{b_not_g, b_not_s, c_not_b}
use Rattle.layouts.proofs.UsedEnabled.{used_enabled}
use Rattle.layouts.proofs.ExactReader.{accepted_test}
use Rattle.layouts.proofs.PreciseValues.{pdir_alone}
use Rattle.layouts.proofs.PreciseWrites.{written_last, not_written, otherwise_same}
use Rattle.layouts.proofs.PreciseReadings.{in_fifteen, plan_read, read_pdir, read_stores, read_neither}

-- what holds of every session on B
by_device : (P : Setup → Type 0) → ((u : Setup) → P (on B u)) → (s : Setup) → s.device ≡ B → P s
by_device P h s e = go s.device e
  where
    go : (d : Device) → d ≡ B → P (on d s)
    go G e = absurd (b_not_g (sym e))
    go S e = absurd (b_not_s (sym e))
    go (C b) e = absurd (c_not_b b e)
    go B e = h s

not_one : (k : ℕ) → k ≢ 1 → in_list (1 ∷ []) k ≡ false
unfolding in_list either
not_one k other = rw (ne_eqb 1 k (λ e. other (sym e)))

quiet : (u : Setup) (rs : List Request) (ps : List Place) → Legal (on B u) rs ps → TakesPdir rs
    → (registers : ℕ → ℕ) (k : ℕ) → k < 4 → k ≢ 1
    → (apply (writes (on B u) rs ps) registers (0x0186 + k) ≡ 0) × (bit k (apply (writes (on B u) rs ps) registers 0x038F) ≡ false)
unfolding layout_of control_at counter_count either
quiet u rs ps legal taken registers k l other =
    let alone = pdir_alone u rs ps legal taken in
    let mine = in_fifteen u k alone.1 l in
    let unused : in_list (counters ps) k ≡ false = ap (λ (ks : List ℕ). in_list ks k) alone.0 ∙ not_one k other in
    let at : 0x0186 + k ≡ 0x0186 + 1 * k = omega arith in (
      ap (apply (writes (on B u) rs ps) registers) at ∙ control_left (on B u) rs ps registers k l ∙ rw (unused, mine),
      used_enabled (on B u) rs ps legal registers k (omega arith) ∙ rw (unused, mine) (both_false (ltb k 4)),
    )

-- the test of an accepted reading
passed : (o : Opening) (s : Setup) (v : RegisterValues) → AcceptedOnB o s v → accepts s v ≡ true
passed o s v h = accepted_test o s v h.0 h.2

pub precise_events_lem : PreciseEvents
precise_events_lem =
    record {
      written = λ s rs ps e. by_device (λ s. All (Formed s) rs → Legal s rs ps → WrittenLast rs (writes s rs ps)) (λ u f l. written_last u rs ps (describe_all (on B u) f) l) s e;
      elsewhere = not_written;
      otherwise_as_on_g = λ s rs ps e. by_device (λ s. (rest : List Write) × Without (0x03F1 ∷ []) (writes s rs ps) rest × Without (0x01A6 ∷ 0x01A7 ∷ []) (writes (on_g s) rs ps) rest) (λ u. otherwise_same u rs ps) s e;
      quiet = λ s rs ps e. by_device (λ s. Legal s rs ps → TakesPdir rs → (registers : ℕ → ℕ) (k : ℕ) → k < 4 → k ≢ 1
          → (apply (writes s rs ps) registers (0x0186 + k) ≡ 0) × (bit k (apply (writes s rs ps) registers 0x038F) ≡ false)) (λ u. quiet u rs ps) s e;
      read = λ s v e. by_device (λ s. (plan : LeavesValues s v) → Enables plan.requests v.pebs) (λ u. plan_read u v) s e;
      read_pdir = λ o s v h. by_device (λ s. accepts s v ≡ true → (k : ℕ) → Usable s k → get_or v.control k 0 ≡ 0x4301C0
          → (k ≡ 1) × (s.usable.0 ≡ 15) × ((j : ℕ) → j < 4 → j ≢ 1 → get_or v.control j 0 ≡ 0) × (v.pebs ≡ 2)) (λ u. read_pdir u v) s h.1 (passed o s v h);
      read_stores = λ o s v h. by_device (λ s. accepts s v ≡ true → (k : ℕ) → Usable s k → get_or v.control k 0 ≡ 0x4302CD
          → (k ≡ 3) × (v.pebs ≡ 0x8000000000000008)) (λ u. read_stores u v) s h.1 (passed o s v h);
      read_neither = λ o s v h. by_device (λ s. accepts s v ≡ true
          → ((k : ℕ) → Usable s k → (get_or v.control k 0 ≢ 0x4301C0) × (get_or v.control k 0 ≢ 0x4302CD)) → v.pebs ≡ 0) (λ u. read_neither u v) s h.1 (passed o s v h);
    }
