-- Document 01, 'Lines' and 'Bench tries': the lines of a reply as they are written there, by a table of them, and what a reader makes of such lines.
use Rattle.std.specs.Prelude.{◌≡◌, List, [], ◌∷◌, map, ℕ, Option, None, Some, Ok, Err}
use Prim.Native.String.{String}
use Rattle.requests.specs.declared.Refusal.TheVariants.{NotInGrammar, CallOrder, BadOpening, BadId, IdWaiting, IdNotWaiting, KindNotOnDevice, NotListed, Incomplete, OutOfRange, Conflicting, NoPlanAlone, QueueFull, SliceTooShort, NotLeftByPlan}
use Rattle.plans.specs.declared.Place.TheVariants.{Counter, WithRsp, Pair}
use Rattle.sessions.specs.declared.Assigned.{Assigned}
use Rattle.sessions.specs.Sessions.{new_session, turn_answer}
use Rattle.grammar.specs.Examples.{tabbed, typed}
use Rattle.answers.specs.Replies.{answer_text, take_lines, turn_reply}
use Rattle.answers.specs.Reader.{Said, Takes, Sets, Answers, reply_says}

-- a text, and how it is typed
pub record Example : Type 0 where
  pub text : List ℕ
  pub lines : List String

-- what a turn takes, in an order that is not that of the counters: a latency request, an event, an offcore request
unfoldable pub taken : List Assigned
taken = record { id = 2; place = Pair 1 2 } ∷ record { id = 1; place = Counter 0 } ∷ record { id = 3; place = WithRsp 3 0 } ∷ []

-- the answers with their numbers, `take` lines, and whole replies to turns
abbrev pub examples : List Example
examples =
    record { text = answer_text (Ok tt) 0; lines = "ok" ∷ [] }
    ∷ record { text = answer_text (Err NotInGrammar) 2; lines = "no 1 2" ∷ [] }
    ∷ record { text = answer_text (Err CallOrder) 0; lines = "no 2 0" ∷ [] }
    ∷ record { text = answer_text (Err BadOpening) 3; lines = "no 3 3" ∷ [] }
    ∷ record { text = answer_text (Err BadId) 1; lines = "no 4 1" ∷ [] }
    ∷ record { text = answer_text (Err IdWaiting) 1; lines = "no 5 1" ∷ [] }
    ∷ record { text = answer_text (Err IdNotWaiting) 1; lines = "no 6 1" ∷ [] }
    ∷ record { text = answer_text (Err KindNotOnDevice) 0; lines = "no 7 0" ∷ [] }
    ∷ record { text = answer_text (Err NotListed) 2; lines = "no 8 2" ∷ [] }
    ∷ record { text = answer_text (Err Incomplete) 3; lines = "no 9 3" ∷ [] }
    ∷ record { text = answer_text (Err OutOfRange) 4; lines = "no 10 4" ∷ [] }
    ∷ record { text = answer_text (Err Conflicting) 2; lines = "no 11 2" ∷ [] }
    ∷ record { text = answer_text (Err NoPlanAlone) 0; lines = "no 12 0" ∷ [] }
    ∷ record { text = answer_text (Err QueueFull) 0; lines = "no 13 0" ∷ [] }
    ∷ record { text = answer_text (Err SliceTooShort) 0; lines = "no 14 0" ∷ [] }
    ∷ record { text = answer_text (Err NotLeftByPlan) 0; lines = "no 15 0" ∷ [] }
    ∷ record { text = take_lines (record { id = 1; place = Counter 0 }); lines = "take 1 0 -" ∷ [] }
    ∷ record { text = take_lines (record { id = 65535; place = WithRsp 3 1 }); lines = "take 65535 3 1" ∷ [] }
    ∷ record { text = take_lines (record { id = 2; place = Pair 1 2 }); lines = "take 2 1 0" ∷ "take 2 2 1" ∷ [] }
    -- two writes, and two numbers past them
    ∷ record {
      text = (turn_reply (turn_answer (Ok tt) new_session taken 2) (0x038F ∷ 0 ∷ 0x01A6 ∷ 0x4000000001 ∷ 7 ∷ 8 ∷ [])).text;
      lines = "take 2 1 0" ∷ "take 2 2 1" ∷ "take 1 0 -" ∷ "take 3 3 0" ∷ "set 038F 0000000000000000" ∷ "set 01A6 0000004000000001" ∷ "ok" ∷ [];
    }
    ∷ record { text = (turn_reply (turn_answer (Err CallOrder) new_session [] 0) (0x038F ∷ 0 ∷ [])).text; lines = "no 2 0" ∷ [] }
    ∷ []

-- each is typed so
abbrev pub Examples : Type 0
Examples = map (λ (e : Example). e.text) examples ≡ map (λ (e : Example). typed e.lines) examples

-- a reply, and what a reader makes of it
pub record Reading : Type 0 where
  pub reply : List ℕ
  pub said : Option (List Said)

abbrev pub readings : List Reading
readings =
    record {
      reply = typed ("take 2 1 0" ∷ "take 2 2 1" ∷ "take 65535 0 -" ∷ "set 01A6 0000004000000001" ∷ "ok" ∷ []);
      said = Some (Takes 2 1 (Some 0) ∷ Takes 2 2 (Some 1) ∷ Takes 65535 0 None ∷ Sets 0x01A6 0x4000000001 ∷ Answers None ∷ []);
    }
    ∷ record { reply = typed ("no 10 4" ∷ []); said = Some (Answers (Some (10, 4)) ∷ []) }
    ∷ record { reply = typed ("no 12 0" ∷ []); said = Some (Answers (Some (12, 0)) ∷ []) }
    -- a leading zero, a field too few, lower case, a verb that no reply has, an empty line, and a line that is not closed
    ∷ record { reply = typed ("take 02 1 0" ∷ "ok" ∷ []); said = None }
    ∷ record { reply = typed ("take 2 1" ∷ "ok" ∷ []); said = None }
    ∷ record { reply = typed ("no 12" ∷ []); said = None }
    ∷ record { reply = typed ("set 01a6 0000004000000001" ∷ "ok" ∷ []); said = None }
    ∷ record { reply = typed ("turn" ∷ []); said = None }
    ∷ record { reply = typed ("ok" ∷ "" ∷ []); said = None }
    ∷ record { reply = tabbed "ok"; said = None }
    ∷ []

-- each is read so
abbrev pub Readings : Type 0
Readings = map (λ (r : Reading). reply_says r.reply) readings ≡ map (λ (r : Reading). r.said) readings
