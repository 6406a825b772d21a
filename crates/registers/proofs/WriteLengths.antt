-- How long the write list is, and what the writer answers where it has room and where not.
use Rattle.requests.specs.declared.Refusal.TheVariants.{SliceTooShort}
use Rattle.std.specs.Prelude.{Ok, Err}
use mathlib.Core.Path.{◌≡◌, refl, ap, ◌∙◌}
use mathlib.Core.List.{List, [], ◌∷◌, ◌++◌}
use mathlib.Core.Bool.{Bool, true, false}
use Prim.Native.Nat.{ℕ, ◌+◌, ◌*◌, ◌≤◌, ◌<◌}
use native.Mathlib.Nat.{le_refl, zero-add}
use native.Mathlib.Omega.{arith}
use borrow.Author.Tests.{lt-ltb, le-ltb}
use lib.ListN.{length, drop, length-append}
use lib.Seq.{sets-eq}
use Rattle.requests.specs.declared.CounterSet.{CounterSet}
use Rattle.requests.specs.declared.Device.{Device}
use Rattle.requests.specs.declared.Setup.{Setup}
use Rattle.requests.specs.Choice.{pick}
use Rattle.requests.specs.Refusals.{number_of, answer_number}
use Rattle.requests.specs.Askings.{asked}
use Rattle.requests.specs.Devices.{size, counter_count, capacity}
use Rattle.plans.proofs.Members.{size_at_most}
use Rattle.plans.proofs.PlanLengthHolds.{plan_length}
use Rattle.layouts.proofs.DeviceFacts.{facts}
use Rattle.layouts.proofs.WriteCount.{filter_length, precise_length}
use Rattle.layouts.specs.Layout.{layout_of, ubox_at, pebs_on}
use Rattle.layouts.specs.Writes.{Write, row, rows, zeros, flat, filled, first_global, last_global, filter_writes, precise_writes, ubox_value, box_writes, writes_for}
use Rattle.layouts.specs.Slices.{Appended, Wrote, too_short, write_answer, written_answer, written_count, write_slice}
use Rattle.layouts.specs.declared.Layout.{Layout}
use Rattle.layouts.specs.declared.Settings.{Settings}
use Rattle.layouts.proofs.FilledSlices.{length_flat}
use Rattle.registers.specs.declared.writer.WriteList.{WriteList}
use Rattle.registers.specs.WriteLists.{Puts}
use Rattle.registers.proofs.Appending.{puts_then, length_row, length_rows}

-- a test counts at most once
pub pick_small : (b : Bool) → pick b 1 0 ≤ 1
pick_small true = le_refl 1
pick_small false = omega arith

-- the size of a device's counter set
pub device_size : (d : Device) (s : CounterSet) → size (counter_count d) s ≤ 8
unfolding capacity
device_size d s = omega (arith, size_at_most (counter_count d) s, plan_length.device_at_most d)

pub extra_small : (d : Device) (t : Settings) → length (filter_writes d t) + length (precise_writes d t) ≤ 5
extra_small d t = omega (arith, filter_length d t, (facts d).filter_small, precise_length d t, pick_small (pebs_on d))

-- the parts of the list, with the number of counters and the layout as the code has them
module _ (s : Setup) (t : Settings) (n : ℕ) (l : Layout) (count : n ≡ counter_count s.device) (layout : l ≡ layout_of s.device) where
  writes_parts :
      ((l.global, first_global s) ∷ [])
      ++ rows n s.usable l.control l.step zeros
      ++ filter_writes s.device t
      ++ rows n t.used l.counter l.step zeros
      ++ rows n t.used l.control l.step t.words
      ++ precise_writes s.device t
      ++ ((l.global, last_global s t.used.0) ∷ [])
      ≡ box_writes s t
  unfolding box_writes
  writes_parts = rw (count, layout)

  -- the parts one after another
  pub box_puts : {start first second third fourth fifth sixth end : WriteList} {others value : ℕ}
      → others ≡ first_global s
      → value ≡ last_global s t.used.0
      → Puts start (row true l.global others) first
      → Puts first (rows n s.usable l.control l.step zeros) second
      → Puts second (filter_writes s.device t) third
      → Puts third (rows n t.used l.counter l.step zeros) fourth
      → Puts fourth (rows n t.used l.control l.step t.words) fifth
      → Puts fifth (precise_writes s.device t) sixth
      → Puts sixth (row true l.global value) end
      → Puts start (box_writes s t) end
  box_puts stopping counting stopped cleared filtered zeroed selected sampled started =
      rw (← writes_parts)
      (puts_then
      (puts_then (puts_then (puts_then (puts_then (puts_then (rw stopping at stopped) cleared) filtered) zeroed) selected) sampled)
      (rw counting at started))

  pub length_parts : length (box_writes s t) ≡ 2 + size n s.usable + (length (filter_writes s.device t) + length (precise_writes s.device t)) + 2 * size n t.used
  length_parts =
      let parts = simp length-append at (ap length writes_parts) in
      omega (
        arith,
        parts,
        length_rows n s.usable l.control l.step zeros,
        length_rows n t.used l.counter l.step zeros,
        length_rows n t.used l.control l.step t.words,
      )

-- addresses and the number of counters are small
pub parts_small : (s : Setup) (n : ℕ) (l : Layout) → n ≡ counter_count s.device → l ≡ layout_of s.device
    → (n ≤ capacity) × (l.control ≤ 0xFFFF) × (l.counter ≤ 0xFFFF) × (l.step ≤ 2)
parts_small s n l count layout =
    let f = facts s.device in
    rw (count, layout) (plan_length.device_at_most s.device, f.control_small, f.counter_small, f.step_small)

module _ (s : Setup) (t : Settings) where
  -- between the two writes of the U-Box, where something is asked
  pub length_framed : length (writes_for s t) ≡ length (box_writes s t) + 2 * pick (asked s) 1 0
  unfolding writes_for
  length_framed = simp length-append (omega (arith, length_row (asked s) ubox_at 0, length_row (asked s) ubox_at (ubox_value s)))

  pub list_puts : {start first second end : WriteList} {value : ℕ}
      → value ≡ ubox_value s
      → Puts start (row (asked s) ubox_at 0) first
      → Puts first (box_writes s t) second
      → Puts second (row (asked s) ubox_at value) end
      → Puts start (writes_for s t) end
  unfolding writes_for
  list_puts last frozen written started = puts_then (puts_then frozen written) (rw last at started)

  pub length_writes :
      length (writes_for s t)
      ≡ 2 + size (counter_count s.device) s.usable + (length (filter_writes s.device t) + length (precise_writes s.device t)) + 2 * size (counter_count s.device) t.used + 2 * pick (asked s) 1 0
  length_writes = omega (arith, length_framed, length_parts s t (counter_count s.device) (layout_of s.device) refl refl)

  -- twice the number of writes fits a number of the code
  pub writes_small : length (writes_for s t) ≤ 33
  writes_small =
      omega (
        arith,
        length_writes,
        device_size s.device s.usable,
        extra_small s.device t,
        device_size s.device t.used,
        pick_small (asked s),
      )

-- the two answers of the writer
pub wrote_nothing : {ws : List Write} {n : ℕ} (out : List ℕ) → n ≡ length ws → length out < 2 * n → Wrote ws out out (Err SliceTooShort)
unfolding write_answer written_answer write_slice too_short answer_number number_of
wrote_nothing {ws} {n} out e short =
    let l = lt-ltb (length out) (2 * length ws) (omega arith) in
    record { answer = rw l; slice = rw l; refused = λ h. refl; accepted = λ room. absurd (omega arith) }

pub wrote_list : {ws : List Write} {n next : ℕ} {out after : List ℕ} → n ≡ length ws → 2 * n ≤ length out → Appended out 0 ws after next → Wrote ws out after (Ok n)
unfolding write_answer written_answer written_count write_slice too_short filled answer_number
wrote_list {ws} {n} {next} {out} {after} e room p =
    let l = le-ltb (length out) (2 * length ws) (omega arith) in
    record {
      answer = rw l (ap Ok e);
      slice =
          rw l
          (p.list
          ∙ sets-eq (flat ws) out 0 (omega (arith, length_flat ws))
          ∙ ap (λ (k : ℕ). flat ws ++ drop k out) (zero-add (length (flat ws)) ∙ length_flat ws));
      refused = λ short. absurd (omega arith);
      accepted = λ h. (refl, e);
    }
