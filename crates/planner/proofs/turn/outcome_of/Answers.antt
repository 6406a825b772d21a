use Prim.Native.Nat.{min}
use native.Mathlib.Omega.{arith}
use Rattle.requests.specs.Devices.{capacity}
use Rattle.layouts.specs.Slices.{Wrote}
use Rattle.sessions.specs.Turns.{taken, writes_of}
use Rattle.sessions.specs.Sessions.{queued}
use Rattle.std.proofs.lemmas.Result.{err_from_is_err_and}
use Rattle.planner.proofs.Turning.{chosen_writes, chosen_session, chosen_plan, turn_order, turn_refused_lem, turn_written}
use Rattle.planner.proofs.turn.outcome_of.Goals as goal
use Rattle.planner.proofs.turn.outcome_of.Goals.{After-write_list}

wrote : (c : After-write_list) → let a = c.args in Wrote (writes_of a.session.setup (taken a.session.setup (queued a.session))) a.out.now c.write_list.new.out c.write_list.result
unfolding capacity
wrote c =
    let choice = c.select-chosen.result in
    let few = c.select-chosen.ensures.within.few in
    rw (← chosen_writes c.args.session c.select-chosen.ensures _ (min choice.count 8) (omega arith) c.settings_in-settings.ensures) c.write_list.ensures

pub returns-then-not-opened : goal.returns-then-not-opened
returns-then-not-opened c =
    let t = turn_order c.args.session c.args.out.now (c.if-not-opened.true) in
    record { settled = t.0; out_after = t.1 }

pub returns-in_err-writes : goal.returns-in_err-writes
returns-in_err-writes c =
    let a = c.args in
    let o = rw c.in_err-writes.was at (wrote (goal.at.returns-in_err-writes c).After-write_list) in
    let t = turn_refused_lem a.session a.out.now (c.if-not-opened.false) c.write_list.new.out _ o in
    let p = err_from_is_err_and c.from_residual.result c.from_residual.ensures.1 in
    record { settled = rw (p.1, p.2) t.0; out_after = t.1 }

pub returns : goal.returns
returns c =
    let s = c.args.session in
    let opened = c.if-not-opened.false in
    let o = rw c.in_ok-writes.was at (wrote (goal.at.returns c).After-write_list) in
    let t = turn_written s c.args.out.now opened c.write_list.new.out _ o in
    record {
      settled = record { within = c.select-chosen.ensures.within; opened = opened; accepted = rw (chosen_session s c.select-chosen.ensures, chosen_plan s c.select-chosen.ensures) t.0 };
      out_after = t.1;
    }
