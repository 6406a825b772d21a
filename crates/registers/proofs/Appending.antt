-- Write lists in a slice: one list after another, and one counter after another.
use mathlib.Core.Path.{◌≡◌, refl, sym, ap, ◌∙◌}
use mathlib.Core.List.{List, [], ◌++◌}
use mathlib.Core.Bool.{Bool, true, false}
use Prim.Native.Nat.{ℕ, zero, suc, ◌+◌, ◌*◌, ◌-◌, ◌≤◌, ◌<◌}
use native.Mathlib.Nat.{le_refl}
use native.Mathlib.Numerals.{add-one}
use native.Mathlib.Omega.{arith}
use lib.ListN.{length, get_or, length-append}
use lib.Seq.{sets, length-sets}
use Rattle.requests.specs.declared.CounterSet.{CounterSet}
use Rattle.requests.specs.Choice.{pick}
use Rattle.requests.specs.Devices.{has, size}
use Rattle.layouts.specs.Writes.{Write, row, rows, flat}
use Rattle.layouts.specs.Slices.{Appended}
use Rattle.registers.specs.declared.writer.WriteList.{WriteList}
use Rattle.registers.specs.WriteLists.{Puts}
use Rattle.layouts.proofs.ListLaws.{sets_append}
use Rattle.layouts.proofs.FilledSlices.{flat_append, length_flat}

-- stores of the list leave the slice's length
pub appended : {before after : List ℕ} {at next : ℕ} {ws : List Write} → next ≡ at + 2 * length ws → after ≡ sets before at (flat ws) → Appended before at ws after next
appended {before} {after} {at} {next} {ws} e l = record { end = e; list = l; kept = ap length l ∙ length-sets before at (flat ws) }

-- no writes
pub appended_none : (out : List ℕ) (at : ℕ) → Appended out at [] out at
unfolding flat
appended_none out at = appended (omega arith) refl

-- two lists one after the other are their join
pub appended_then : {first second third : List ℕ} {at next last : ℕ} {xs ys : List Write}
    → Appended first at xs second next → Appended second next ys third last → Appended first at (xs ++ ys) third last
appended_then {first} {second} {third} {at} {next} {last} {xs} {ys} p q =
    appended (omega (arith, p.end, q.end, length-append xs ys))
    (q.list
    ∙ ap (λ (l : List ℕ). sets l next (flat ys)) p.list
    ∙ ap (λ (k : ℕ). sets (sets first at (flat xs)) k (flat ys)) (let e : next ≡ at + length (flat xs) = omega (arith, p.end, length_flat xs) in e)
    ∙ sym (sets_append first at (flat xs) (flat ys))
    ∙ ap (sets first at) (sym (flat_append xs ys)))

pub length_row : (wanted : Bool) (a v : ℕ) → length (row wanted a v) ≡ pick wanted 1 0
length_row true a v = refl
length_row false a v = refl

-- as many rows as the set has counters
pub length_rows : (n : ℕ) (s : CounterSet) (base step : ℕ) (values : List ℕ) → length (rows n s base step values) ≡ size n s
unfolding rows size
length_rows zero s base step values = refl
length_rows (suc k) s base step values =
    omega (
      arith,
      length-append (rows k s base step values) (row (has s k) (base + step * k) (get_or values k 0)),
      length_row (has s k) (base + step * k) (get_or values k 0),
      length_rows k s base step values,
    )

-- more counters, no smaller size
size_more : (j n : ℕ) (s : CounterSet) → size n s ≤ size (n + j) s
unfolding size
size_more zero n s = rw (let e : n + 0 ≡ n = omega arith in e) (le_refl _)
size_more (suc j) n s = rw (let e : n + suc j ≡ suc (n + j) = omega arith in e) (omega (arith, size_more j n s))

-- ---- the same, of the code's write list

pub puts_none : (l : WriteList) → Puts l [] l
puts_none l = record { list = appended_none l.out.now l.at; same = refl }

pub puts_then : {first second third : WriteList} {xs ys : List Write} → Puts first xs second → Puts second ys third → Puts first (xs ++ ys) third
puts_then p q = record { list = appended_then p.list q.list; same = q.same ∙ p.same }

-- one turn of the loop over the counters
module _ (s : CounterSet) (base step : ℕ) (values : List ℕ) where
  pub rows_with : {before after last : WriteList} (k : ℕ) → has s k ≡ true
      → Puts before (rows k s base step values) after → Puts after (row true (base + step * k) (get_or values k 0)) last
      → Puts before (rows (k + 1) s base step values) last
  unfolding rows
  rows_with k on p q = rw (add-one, on) (puts_then p q)

  pub rows_without : {before after : WriteList} (k : ℕ) → has s k ≡ false
      → Puts before (rows k s base step values) after → Puts before (rows (k + 1) s base step values) after
  unfolding rows
  rows_without {after = after} k off p = rw (add-one, off) (puts_then p (puts_none after))

  -- the next row has room
  pub rows_room : {before after : WriteList} (n k : ℕ) → has s k ≡ true → k < n
      → before.at + 2 * size n s ≤ length before.out.now → Puts before (rows k s base step values) after
      → after.at + 2 ≤ length after.out.now
  unfolding size
  rows_room n k on l room p =
      let more = rw (let e : suc k + (n - suc k) ≡ n = omega arith in e, on) at (size_more (n - suc k) (suc k) s) in
      omega (arith, more, p.list.end, p.list.kept, length_rows k s base step values)
