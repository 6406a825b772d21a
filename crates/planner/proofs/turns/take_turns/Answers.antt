use native.Mathlib.Omega.{arith}
use Prim.Native.Nat.{◌+◌, ◌*◌, ◌<◌}
use lib.ListN.{length, drop, length-take, take-append-drop}
use Rattle.std.proofs.lemmas.List.{set-append_left}
use Rattle.planner.proofs.TakingTurns.{written_none, written_all, written_next}
use Rattle.planner.proofs.turns.take_turns.Goals as goal
use Rattle.planner.proofs.turns.take_turns.Goals.{In-loop-end}

less : (c : In-loop-end) → c.loop-end.end-index < c.args.n
less c = omega (arith, length-take c.args.n c.args.ends.now)

pub loop-end-init : goal.loop-end-init
loop-end-init c =
    let a = c.args in
    rw (take-append-drop a.n a.ends.now) (written_none a.session a.n a.out.now a.ends.now c.requires.opened_value c.requires.session_in_bounds c.requires.n_in_bounds)

pub overflow_mul-at : goal.overflow_mul-at
overflow_mul-at c =
    let again = written_next c.loop-end.invariant (less (goal.at.overflow_mul-at c).In-loop-end) c.turn-answered.ensures.value c.turn-answered.ensures.out_after in
    omega (arith, again.room, again.same_out, c.well_formed)

pub overflow_add-at : goal.overflow_add-at
overflow_add-at c =
    let again = written_next c.loop-end.invariant (less (goal.at.overflow_add-at c).In-loop-end) c.turn-answered.ensures.value c.turn-answered.ensures.out_after in
    omega (arith, again.room, again.same_out, c.well_formed)

pub loop-end-preserved : goal.loop-end-preserved
loop-end-preserved c =
    let l = c.loop-end in
    let inside : l.end-index < length l.end-items = omega arith in
    rw (← set-append_left l.end-items (drop c.args.n c.args.ends.now) l.end-index (l.at + 2 * c.turn-answered.result.writes) inside)
    (written_next l.invariant (less (goal.at.loop-end-preserved c).In-loop-end) c.turn-answered.ensures.value c.turn-answered.ensures.out_after)

pub returns : goal.returns
returns c =
    let t = written_all c.loop-end.invariant (omega (arith, length-take c.args.n c.args.ends.now)) in
    record { value = t.0; out_after = t.1; ends_after = t.2 }
