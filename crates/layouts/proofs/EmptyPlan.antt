-- The writes of the empty plan turn the usable counters off: `EmptyPlan`, by the round trip of a plan without requests.
use mathlib.Core.Path.{◌≡◌, refl, ap, ◌∙◌}
use mathlib.Core.Bool.{false, not}
use mathlib.Core.List.Memᴰ
use mathlib.Core.List.{[], flat_map}
use Prim.Native.Nat.{ℕ, zero, suc, ◌+◌, ◌≤◌, ◌<◌}
use native.Mathlib.Decide.{dec_lt}
use native.Mathlib.Omega.{arith}
use borrow.Author.Tests.{lt-ltb, le-ltb}
use lib.Dec.{ltb}
use Rattle.requests.specs.Choice.{both}
use Rattle.requests.specs.declared.Setup.{Setup}
use Rattle.requests.specs.Bits.{bit, in_list}
use Rattle.requests.specs.Devices.{has, counter_count, fixed_count}
use Rattle.plans.specs.Lists.{nil, empty, none}
use Rattle.plans.specs.Legal.{Usable, Legal, of_all, counters}
use Rattle.layouts.specs.Layout.{layout_of, control_at}
use Rattle.layouts.specs.Settings.{set_from}
use Rattle.layouts.specs.Writes.{first_global, last_global}
use Rattle.layouts.specs.Told.{told_at, told_plan}
use Rattle.layouts.specs.EmptyPlan.{all_off, turned_off, EmptyPlan}
use Rattle.layouts.proofs.GlobalValues.{first_bit, first_none, first_fixed, last_unused}
use Rattle.layouts.proofs.PlanWords.{control_left, global_left}
use Rattle.layouts.proofs.RoundTrip.{round_trip}

empty_legal : (s : Setup) → Legal s [] []
unfolding counters flat_map of_all
empty_legal s = record { differ = empty; usable_only = nil; allowed = none; one_word = λ i l. (0, nil); one_packet = ((0, 0), nil); ruled = none; alone = λ r m. absurd (Memᴰ.not-nil m); quiet = λ r m. absurd (Memᴰ.not-nil m) }

controls : (s : Setup) (registers : ℕ → ℕ) (k : ℕ) → Usable s k → turned_off s registers (control_at s.device k) ≡ 0
unfolding counters flat_map in_list
controls s registers k u = control_left s [] [] registers k u.0 ∙ rw u.1

none_used : (n j : ℕ) → set_from n j (λ k. false) ≡ 0
unfolding set_from
none_used zero j = refl
none_used (suc n) j = omega (arith, none_used n (suc j))

-- the global value is the first one
global_value : (s : Setup) (registers : ℕ → ℕ) → turned_off s registers (layout_of s.device).global ≡ first_global s
unfolding counters flat_map in_list
global_value s registers =
    global_left s [] [] registers
    ∙ ap (last_global s) (none_used (counter_count s.device) 0)
    ∙ last_unused s

global : (s : Setup) (registers : ℕ → ℕ) (k : ℕ) → k < 32
    → bit k (turned_off s registers (layout_of s.device).global) ≡ both (ltb k (counter_count s.device)) (not (has s.usable k))
unfolding both
global s registers k low =
    ap (bit k) (global_value s registers)
    ∙ elim (dec_lt k (counter_count s.device)) [
      | yes l ↦ rw (lt-ltb k (counter_count s.device) l) (first_bit s k l)
      | no o ↦
          let past : counter_count s.device ≤ k = let y = o in omega arith in
          rw (le-ltb k (counter_count s.device) past) (first_none s k past low)
    ]

fixed : (s : Setup) (registers : ℕ → ℕ) (k : ℕ)
    → bit (32 + k) (turned_off s registers (layout_of s.device).global) ≡ both (ltb k (fixed_count s.device)) (bit k s.fixed)
fixed s registers k = ap (bit (32 + k)) (global_value s registers) ∙ first_fixed s k

told_off : (s : Setup) → told_plan s [] [] ≡ all_off s
unfolding told_plan all_off of_all told_at
told_off s = refl

pub empty_plan : EmptyPlan
empty_plan =
    record {
      controls = controls;
      global = global;
      fixed = fixed;
      accepted = λ s registers opened. (round_trip s [] [] opened nil (empty_legal s) registers).accepted;
      told_off = λ s registers opened. (round_trip s [] [] opened nil (empty_legal s) registers).plan ∙ told_off s;
    }
