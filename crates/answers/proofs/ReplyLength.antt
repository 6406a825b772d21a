-- No reply is longer than the room for one: a turn has at most 8 requests of 136 bytes, 22 writes of 26 bytes and the answer, any other reply the answer alone.
use Rattle.std.specs.Prelude.{Ok, Err}
use mathlib.Core.List.{List}
use Prim.Native.Nat.{ℕ, ◌*◌, ◌≤◌}
use native.Mathlib.Omega.{arith}
use lib.ListN.{length, take, replicate, length-append, length-take}
use Rattle.requests.specs.Devices.{opening_of}
use Rattle.sessions.specs.Sessions.{open_of, add_of, drop_of, turn_of, turn_slice, plan_of}
use Rattle.sessions.specs.declared.Session.{Session}
use Rattle.sessions.specs.declared.TurnAnswered.{TurnAnswered}
use Rattle.grammar.specs.declared.Record.{Record}
use Rattle.grammar.specs.declared.Record.TheVariants.{Open, Add, Drop, Turn}
use Rattle.grammar.specs.declared.Line.{Line}
use Rattle.requests.specs.Answers.{Answer}
use Rattle.answers.specs.Replies.{turn_room, answer_text, take_lines, reply_at, reply_of, turn_reply, record_reply, named_reply, parsed_reply}
use Rattle.answers.specs.ReplyLength.{reply_room, ReplyLength}
use Rattle.answers.proofs.Lengths.{joined_length, take_lines_length, set_lines_length, answer_length}
use Rattle.answers.proofs.TurnLimits.{turn_at_most}

-- an answer alone
answer_short : (a : Answer) (k : ℕ) → length (answer_text a k) ≤ reply_room
unfolding reply_room
answer_short a k = omega (arith, answer_length a k)

-- the reply to a turn whose plan has at most 8 requests and whose writes fit the slice that a line lends
turn_short : (a : TurnAnswered) (slice : List ℕ) → length (plan_of a) ≤ 8 → 2 * a.writes ≤ turn_room → length (turn_reply a slice).text ≤ reply_room
unfolding turn_reply turn_room reply_room
turn_short a slice few room =
    simp length-append
    (omega (
      arith,
      joined_length take_lines 136 take_lines_length (plan_of a),
      set_lines_length (take (2 * a.writes) slice),
      length-take (2 * a.writes) slice,
      answer_length a.answer 0,
    ))

record_short : (s : Session) (r : Record) → length (record_reply s r).text ≤ reply_room
unfolding record_reply reply_of reply_at
record_short s (Open given) = answer_short (open_of s (opening_of given)).answer _
record_short s (Add id r) = answer_short (add_of s id r).answer _
record_short s (Drop id) = answer_short (drop_of s id).answer _
record_short s Turn = let l = turn_at_most s turn_room in turn_short (turn_of s turn_room) (turn_slice s (replicate turn_room 0)) l.plan l.writes

pub reply_length : ReplyLength
unfolding parsed_reply named_reply reply_at
reply_length s (Ok (Line.Record r)) = record_short s r
reply_length s (Ok (Line.Named id r)) = answer_short (add_of s id r).answer _
reply_length s (Err k) = answer_short _ k
