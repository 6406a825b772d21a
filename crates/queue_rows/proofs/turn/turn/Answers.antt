use mathlib.Core.Path.{◌≡◌}
use native.Mathlib.Omega.{arith}
use Rattle.requests.specs.Devices.{capacity}
use Rattle.layouts.specs.Writes.{writes_for}
use Rattle.sessions.specs.Turns.{taken, writes_of}
use Rattle.sessions.specs.Sessions.{queued}
use Rattle.registers.proofs.WriteLengths.{wrote_list}
use Rattle.queue_rows.specs.Heads.{session_in}
use Rattle.queue_rows.proofs.HeadSessions.{in_queued}
use Rattle.queue_rows.proofs.Turning.{turn_closed, turn_opened, parted_limits, parted_writes}
use Rattle.queue_rows.proofs.turn.turn.Goals as goal

pub returns-then-not-opened : goal.returns-then-not-opened
returns-then-not-opened c =
    let a = c.args in
    let t = turn_closed a.head a.ids.now a.rows.now a.out.now c.if-not-opened.true c.requires.sized in
    rw c.closed_turn.ensures (record { turns_in = t.0; out_after = t.1 })

pub put_behind-requires : goal.put_behind-requires
put_behind-requires c =
    let a = c.args in
    let p = c.part-chosen.ensures in
    let l = parted_limits a.head a.ids.now a.rows.now _ c.bounded-n.ensures p.parted in
    record { count_bound = (l.0, l.1); sized = p.sized_2 }

pub put_list-numbers-requires : goal.put_list-numbers-requires
unfolding capacity
put_list-numbers-requires c =
    let writes_are : (let a = c.args in writes_for a.head.setup c.settings_in-settings.result ≡ writes_of a.head.setup (taken a.head.setup (queued (session_in a.head a.ids.now a.rows.now)))) = let a = c.args in
    parted_writes a.head a.ids.now a.rows.now _ c.bounded-n.ensures c.part-chosen.ensures.parted _ c.settings_in-settings.ensures in
    let a = c.args in
    rw (writes_are, in_queued a.head a.ids.now a.rows.now) c.requires.rows_in_bounds

pub returns : goal.returns
unfolding capacity
returns c =
    let writes_are : (let a = c.args in writes_for a.head.setup c.settings_in-settings.result ≡ writes_of a.head.setup (taken a.head.setup (queued (session_in a.head a.ids.now a.rows.now)))) = let a = c.args in
    parted_writes a.head a.ids.now a.rows.now _ c.bounded-n.ensures c.part-chosen.ensures.parted _ c.settings_in-settings.ensures in
    let a = c.args in
    let put = c.put_list-numbers.ensures in
    let end = put.end in
    let room = rw (← in_queued a.head a.ids.now a.rows.now, ← writes_are) at c.requires.rows_in_bounds in
    let t =
    turn_opened a.head a.ids.now a.rows.now a.out.now _ c.bounded-n.ensures c.part-chosen.ensures.parted c.put_behind.ensures c.if-not-opened.false _
    (rw (← writes_are) (wrote_list (omega arith) (omega arith) put)) in
    rw c.taken_turn.ensures (record { turns_in = t.0; out_after = t.1 })
