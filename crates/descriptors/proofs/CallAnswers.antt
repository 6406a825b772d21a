-- What the definitions make of an answer and of errno, as the code's tests find them. Assumes nothing.
use mathlib.Core.Bool.{Bool, true, false, true≢false}
use mathlib.Core.List.{List}
use mathlib.Core.Path.{◌≡◌, refl, sym, ap, ◌∙◌, subst}
use Prim.Native.Nat.{ℕ, ◌-◌, ◌≤◌}
use native.Mathlib.Omega.{arith}
use lib.Dec.{eqb}
use lib.IntN.{ℤ, pos, negsuc}
use mir.Syntax.{w32}
use mir.Val.{of_z}
use lib.ListN.{length, take, drop, length-drop}
use lib.Seq.{take_all}
use borrow.Author.Tests.{eqb-false, ne_eqb}
use Rattle.std.specs.Prelude.{Result, Ok, Err, MatchResult, IsErr}
use Rattle.std.specs.Io.{WritesAtMost}
use Rattle.descriptors.specs.Io.{Moved}
use Rattle.descriptors.specs.Failures.{failure_of, interrupted, would_block, closed_pipe}
use Rattle.descriptors.specs.Reads.{read_after, read_step, read_again_lem, bytes_read, ReadWithin}
use Rattle.descriptors.specs.Writes.{write_step, goes_on_lem, Reached, called}
use Rattle.descriptors.specs.declared.Failure.{Failure}
use Rattle.descriptors.specs.declared.Failure.TheVariants.{Interrupted, WouldBlock, Closed, Other}
use Rattle.descriptors.specs.declared.Reading.{Reading}
use Rattle.descriptors.specs.declared.Reading.TheVariants.{Bytes, End, Again, Wait, Failed}
use Rattle.descriptors.specs.declared.Writing.{Writing}

-- an errno that is none of the three
pub other_failure : (z : ℤ) → (of_z w32 z ≡ 4 → ⊥) → (of_z w32 z ≡ 11 → ⊥) → (of_z w32 z ≡ 32 → ⊥) → failure_of z ≡ Other
unfolding failure_of interrupted would_block closed_pipe
other_failure (pos n) a b c = rw (ne_eqb n 4 a, ne_eqb n 11 b, ne_eqb n 32 c, failure_of)
other_failure (negsuc n) a b c = refl

-- so many bytes are a part of the block
pub bytes_within : (block : List ℕ) (reading : Reading) → ReadWithin block reading → bytes_read reading ≤ length block
bytes_within block (Bytes n) w = w.1
bytes_within block End w = omega arith
bytes_within block Again w = absurd w
bytes_within block Wait w = absurd w
bytes_within block Failed w = omega arith

-- a call of read that is not made again comes to what reading does in the end
pub read_within : (block : List ℕ) (answer : Result ℕ ℤ) → Moved (length block) answer → read_again_lem (read_step answer) ≡ false → ReadWithin block (read_step answer)
unfolding read_step
read_within block (Ok k) moved last = go (eqb k 0) refl
  where
    go : (b : Bool) → eqb k 0 ≡ b → ReadWithin block (elim b [ true ↦ End | false ↦ Bytes k ])
    go true e = tt
    go false e = (omega (arith, eqb-false k 0 e), moved)
read_within block (Err errno) moved last = go (failure_of errno) last
  where
    go : (f : Failure) → read_again_lem (read_after f) ≡ false → ReadWithin block (read_after f)
    go Interrupted e = absurd (true≢false e)
    go WouldBlock e = absurd (true≢false e)
    go Closed e = tt
    go Other e = tt

-- what a call that returned this moved is within what it was handed
pub moved_at_most : {E : Type 0} (r : Result ℕ E) (rest : List ℕ) (answer : Result ℕ ℤ) → WritesAtMost r rest → MatchResult r (λ n. answer ≡ Ok n) (λ e. IsErr answer)
    → Moved (length rest) answer
moved_at_most (Ok n) rest answer few e = rw e few
moved_at_most (Err x) rest (Ok k) few e = absurd (true≢false (sym e))
moved_at_most (Err x) rest (Err errno) few e = tt

-- so a call of write on the bytes of a text that are not yet done reaches the next state
pub write_reached : (text : List ℕ) (w v : Writing) (answer : Result ℕ ℤ) → Reached (length text) w → goes_on_lem w.next ≡ true
    → Moved (length (take (length text - w.done) (drop w.done text))) answer → v ≡ write_step (length text) w.done answer → Reached (length text) v
write_reached text w v answer reached goes moved e =
    rw e
    (called reached goes answer (subst (λ (n : ℕ). Moved n answer)
    (ap length (take_all (length text - w.done) (drop w.done text) (omega (arith, length-drop w.done text))) ∙ length-drop w.done text) moved))
