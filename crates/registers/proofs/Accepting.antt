-- The reader's tests, one counter after another, and the control values that it looks at.
use Rattle.std.specs.Prelude.{Option, None, Some}
use Rattle.std.specs.Result.{is_ok}
use mathlib.Core.Path.{◌≡◌, refl, sym, ap, ◌∙◌, fun_ext}
use mathlib.Core.Bool.{Bool, true, false, not}
use Prim.Native.Nat.{ℕ, suc, ◌+◌, ◌*◌, ◌-◌, ◌%◌, ◌^◌, ◌≤◌, ◌<◌}
use native.Mathlib.Decide.{dec_lt}
use native.Mathlib.Omega.{arith}
use lib.Bits.{bit_and, and_le_r}
use lib.Pow.{pow_mono}
use lib.ListN.{length, get_or, get_or-eq_default}
use borrow.Author.Tests.{ne_eqb}
use Rattle.std.specs.Int.{from_bool}
use Rattle.requests.specs.declared.CounterSet.{CounterSet}
use Rattle.requests.specs.declared.Device.{Device}
use Rattle.requests.specs.declared.Setup.{Setup}
use Rattle.requests.specs.declared.Request.TheVariants.{Latency}
use Rattle.requests.specs.declared.Refusal.{Refusal}
use Rattle.requests.specs.Choice.{both, either, pick, is_some, first_holding}
use Rattle.requests.specs.Bits.{only_bits, type_bits, outstanding}
use Rattle.requests.specs.Masks.{type_mask}
use Rattle.requests.specs.Devices.{has, capacity, offcore_on}
use Rattle.requests.specs.Refusals.{answer_for}
use Rattle.requests.specs.Checks.{kind_not_on, not_listed_lem, out_of_range, request_rows, request_refusal, formed}
use Rattle.requests.proofs.MaskTests.{only_by_mask}
use Rattle.requests.proofs.Tests.{both_false}
use Rattle.layouts.specs.Layout.{tabulate}
use Rattle.layouts.specs.Settings.{set_from}
use Rattle.layouts.specs.Read.{ours, latency_fits}
use Rattle.layouts.specs.declared.RegisterValues.{RegisterValues}
use Rattle.layouts.proofs.Tabulated.{length_tabulate, get_d_tabulate}
use Rattle.layouts.proofs.CounterSets.{set_below}
use Rattle.layouts.proofs.UsableSets.{on}

-- ---- well-formed

-- the answer to a request's check says whether it is well-formed
pub answer_formed : (x : Option Refusal) → is_ok (answer_for x) ≡ not (is_some x)
unfolding answer_for
answer_formed None = refl
answer_formed (Some y) = refl

-- types above all request types have a reserved bit
wide_types : (t : ℕ) → t < 2 ^ 64 → 0xFFBF < t → only_bits type_bits t ≡ false
wide_types t fits wide =
    rw (← type_mask, ← only_by_mask 0xFFBF t fits) (ne_eqb (bit_and t 0xFFBF) t (λ e. omega (arith, e, and_le_r t 0xFFBF)))

both_left : (b : Bool) → both false b ≡ false
unfolding both
both_left b = refl

wide_refused : (d : Device) (u : Setup) (t : ℕ) (a b : CounterSet) → only_bits type_bits t ≡ false → formed (on d u) (Latency t a b) ≡ false
unfolding formed request_refusal request_rows first_holding kind_not_on not_listed_lem out_of_range either
wide_refused d u t a b e = go (offcore_on d) refl
  where
    go : (x : Bool) → offcore_on d ≡ x → formed (on d u) (Latency t a b) ≡ false
    go true h = rw (h, e, first_holding)
    go false h = rw (h, first_holding)

-- .. and are no latency word's
pub latency_wide : (s : Setup) (n0 n1 w0 w1 : ℕ) → 0xFFBF < w0 % 2 ^ outstanding → false ≡ latency_fits s n0 n1 w0 w1
unfolding latency_fits outstanding
latency_wide s n0 n1 w0 w1 wide =
    rw (wide_refused s.device s (w0 % 2 ^ outstanding) _ _ (wide_types (w0 % 2 ^ outstanding) (omega arith) wide))
    (sym (ap (both _) (both_left _) ∙ both_false _))

-- ---- one counter after another

-- a test as a number
pub flag : (b : Bool) → from_bool b ≡ pick b 1 0
flag true = refl
flag false = refl

-- the set from counter k on, with the counter before it
pub set_before : (n k bits flag : ℕ) (on : ℕ → Bool) → 0 < k → k ≤ n → bits ≡ set_from (n - k) k on → flag ≡ pick (on (k - 1)) 1 0
    → flag + 2 * bits ≡ set_from (n - (k - 1)) (k - 1) on
unfolding set_from
set_before n k bits flag on positive within e g =
    let count : n - (k - 1) ≡ suc (n - k) = omega arith in
    let next : suc (k - 1) ≡ k = omega arith in
    rw (count, next, e, g)

-- it is a number of at most 8 bits
pub set_bound : (n k bits : ℕ) (on : ℕ → Bool) → n ≤ capacity → bits ≡ set_from (n - k) k on → bits < 256
unfolding capacity
set_bound n k bits on small e = omega (arith, set_below (n - k) k on, pow_mono (let l : n - k ≤ 8 = omega arith in l))

-- ---- the control values that are looked at

past : (s : Setup) (v : RegisterValues) (k : ℕ) → 0 ≡ pick (has s.usable k) (get_or v.control k 0) 0 → 0 ≡ ours s v k
unfolding ours
past s v k e = e

-- an array of them has at each place the value that is looked at
pub looked : (s : Setup) (v : RegisterValues) → length v.control ≡ capacity → (λ k. get_or (tabulate capacity (ours s v)) k 0) ≡ ours s v
looked s v e = fun_ext (λ k. at k (dec_lt k capacity))
  where
    none_there : (b : Bool) (x : ℕ) → x ≡ 0 → 0 ≡ pick b x 0
    none_there true x z = sym z
    none_there false x z = refl

    at : (k : ℕ) → Dec (k < capacity) → get_or (tabulate capacity (ours s v)) k 0 ≡ ours s v k
    at k (yes l) = get_d_tabulate capacity (ours s v) k 0 l
    at k (no f) =
        get_or-eq_default (tabulate capacity (ours s v)) 0 {n = k} (let g = f in omega (arith, length_tabulate capacity (ours s v)))
        ∙ past s v k (none_there (has s.usable k) (get_or v.control k 0) (get_or-eq_default v.control 0 {n = k} (let g = f in omega arith)))
