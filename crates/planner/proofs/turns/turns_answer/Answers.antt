use Rattle.std.specs.Prelude.{None, Some}
use mathlib.Core.Path.{◌≡◌, ap, ◌∙◌}
use mathlib.Core.Bool.{true, false}
use Prim.Native.Nat.{◌*◌}
use borrow.Author.Tests.{lt-ltb, le-ltb}
use native.Mathlib.Omega.{arith}
use lib.Dec.{ltb}
use lib.ListN.{length}
use Rattle.requests.specs.declared.Refusal.TheVariants.{CallOrder, OutOfRange, SliceTooShort}
use Rattle.requests.specs.Choice.{either}
use Rattle.requests.specs.Refusals.{answer_for}
use Rattle.requests.proofs.Tests.{either_true}
use Rattle.sessions.specs.Turns.{lists_of, joined}
use Rattle.sessions.specs.Calls.{Turns}
use Rattle.sessions.specs.Table.{turns_limit}
use Rattle.sessions.specs.Sessions.{queue_limit, queued}
use Rattle.sessions.proofs.TableAnswers.{turns_closed, turns_many, turns_short, turns_accepted, answer_closed, answer_opened}
use Rattle.planner.proofs.turns.turns_answer.Goals as goal

pub returns-then-not-opened : goal.returns-then-not-opened
unfolding answer_for
returns-then-not-opened c =
    let a = c.args in
    answer_closed a.session (Turns a.n a.room a.places) (Some CallOrder) (c.if-not-opened.true) (turns_closed queue_limit a.n a.room a.places)

pub returns-then-n-gt-TURNS_LIMIT : goal.returns-then-n-gt-TURNS_LIMIT
unfolding answer_for turns_limit
returns-then-n-gt-TURNS_LIMIT c =
    let a = c.args in
    let s = a.session in
    answer_opened s (Turns a.n a.room a.places) (Some OutOfRange) (c.if-not-opened.false)
    (turns_many queue_limit s.setup (queued s) a.n a.room a.places (lt-ltb 64 a.n (omega arith)))

pub returns-then-places-n : goal.returns-then-places-n
unfolding answer_for turns_limit
returns-then-places-n c =
    let a = c.args in
    let s = a.session in
    let needed = 2 * length (joined (lists_of s.setup a.n (queued s))) in
    answer_opened s (Turns a.n a.room a.places) (Some SliceTooShort) (c.if-not-opened.false)
    (turns_short queue_limit s.setup (queued s) a.n a.room a.places (le-ltb 64 a.n (omega arith))
    (ap (either (ltb a.room needed)) (lt-ltb a.places a.n (omega arith)) ∙ either_true (ltb a.room needed)))

pub returns-then-room-numbers_of : goal.returns-then-room-numbers_of
unfolding answer_for either turns_limit
returns-then-room-numbers_of c =
    let late : let a = c.args in (a.session.opened ≡ true) × (ltb turns_limit a.n ≡ false) × (ltb a.places a.n ≡ false) = let a = c.args in
    (c.if-not-opened.false, le-ltb 64 a.n (omega arith), le-ltb a.places a.n (omega arith)) in
    let t = late in
    let a = c.args in
    let s = a.session in
    answer_opened s (Turns a.n a.room a.places) (Some SliceTooShort) t.0
    (turns_short queue_limit s.setup (queued s) a.n a.room a.places t.1
    (rw (lt-ltb a.room (2 * length (joined (lists_of s.setup a.n (queued s)))) (omega (arith, c.numbers_of.ensures)))))

pub returns : goal.returns
unfolding answer_for either turns_limit
returns c =
    let late : let a = c.args in (a.session.opened ≡ true) × (ltb turns_limit a.n ≡ false) × (ltb a.places a.n ≡ false) = let a = c.args in
    (c.if-not-opened.false, le-ltb 64 a.n (omega arith), le-ltb a.places a.n (omega arith)) in
    let t = late in
    let a = c.args in
    let s = a.session in
    answer_opened s (Turns a.n a.room a.places) None t.0
    (turns_accepted queue_limit s.setup (queued s) a.n a.room a.places t.1
    (rw (le-ltb a.room (2 * length (joined (lists_of s.setup a.n (queued s)))) (omega (arith, c.numbers_of.ensures)), t.2)))
