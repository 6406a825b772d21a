-- Every reply says its answer last and only there, by what is known of the replies to records, and texts one after another say what each says.
-- Assumes nothing.
use Rattle.std.specs.Prelude.{Some, Ok, Err}
use mathlib.Core.Path.{◌≡◌, refl}
use mathlib.Core.Logic.{◌≢◌}
use mathlib.Core.List.{List, [], ◌∷◌, ◌++◌, map, flat_map}
use mathlib.Core.Bool.{false}
use Prim.Native.Nat.{ℕ, ◌≤◌}
use native.Mathlib.Omega.{arith}
use Rattle.requests.specs.declared.Refusal.TheVariants.{NotInGrammar}
use Rattle.requests.specs.declared.Request.{Request}
use Rattle.requests.specs.Refusals.{number_of, answer_for}
use Rattle.plans.specs.Lists.{All, nil, cons}
use Rattle.plans.specs.Places.{Counted, counted_of}
use Rattle.plans.proofs.Sets.{all_append}
use Rattle.layouts.specs.Writes.{Write}
use Rattle.sessions.specs.declared.Session.{Session}
use Rattle.sessions.specs.declared.Assigned.{Assigned}
use Rattle.sessions.specs.Calls.{waiting}
use Rattle.sessions.specs.Calls as calls
use Rattle.sessions.specs.Sessions.{plain_of, turn_of, plan_of}
use Rattle.names.specs.Lists.{NameLists}
use Rattle.parser.specs.ParseWith.{parse_line_with}
use Rattle.parser.proofs.LongLines.{long_lines}
use Rattle.grammar.specs.Parse.{parsed_refusal}
use Rattle.grammar.specs.declared.Record.{Record}
use Rattle.grammar.specs.Parsed.{Parsed}
use Rattle.grammar.specs.declared.Line.{Line}
use Rattle.grammar.specs.declared.Record.TheVariants.{Open, Add, Drop, Turn}
use Rattle.answers.specs.Replies.{answer_text, turn_room, record_reply, named_reply, parsed_reply, answer_line}
use Rattle.answers.specs.Reader.{Takes}
use Rattle.answers.specs.LinesAreCalls.{call_of, fault_said, by_name_lem, fault_of, takes_of, sets_of, Askable, TurnSays}
use Rattle.answers.specs.LineLists.{session_by, reply_after}
use Rattle.answers.specs.OutputSays.{NoAnswer, OneReply, OutputSays}
use Rattle.answers.proofs.ReadLines.{says_append, answer_reads, named_reads}
use Rattle.answers.proofs.FaultTexts.{fault_small}
use Rattle.answers.proofs.TurnsSaid.{turn_said}
use Rattle.answers.proofs.LinesAreCalls.{lines_are_calls}
use Rattle.answers.proofs.LineLists.{stands_after, askable_after}

-- ---- what a turn says before its answer

counters_no_answer : (id : ℕ) (cs : List Counted) → All NoAnswer (map (λ (c : Counted). Takes id c.0 c.1) cs)
counters_no_answer id [] = nil
counters_no_answer id (c ∷ cs) = cons tt (counters_no_answer id cs)

takes_no_answer : (plan : List Assigned) → All NoAnswer (takes_of plan)
unfolding takes_of flat_map
takes_no_answer [] = nil
takes_no_answer (a ∷ plan) = all_append (counters_no_answer a.id (counted_of a.place)) (takes_no_answer plan)

sets_no_answer : (ws : List Write) → All NoAnswer (sets_of ws)
unfolding sets_of
sets_no_answer [] = nil
sets_no_answer (w ∷ ws) = cons tt (sets_no_answer ws)

-- ---- the replies

-- a line that is neither a record nor a request by name
fault_alone : (k : ℕ) → k ≤ 7 → OneReply (answer_text (Err NotInGrammar) k)
fault_alone k h = record { details = []; refused = Some (number_of NotInGrammar, k); says = (answer_reads (Err NotInGrammar) k h).says; no_answer = nil }

-- a record that is no turn
record_alone : (s : Session) (r : Record) → r ≢ Turn → OneReply (record_reply s r).text
record_alone s r other = record { details = []; refused = fault_said (fault_of s (call_of r)); says = lines_are_calls.alone s r other; no_answer = nil }

named_alone : (s : Session) (id : ℕ) (r : Request) → OneReply (named_reply s id r).text
named_alone s id r =
    record {
      details = [];
      refused = fault_said (by_name_lem (fault_of s (calls.Add id r)));
      says = rw (lines_are_calls.named_answer s id r) (named_reads (fault_of s (calls.Add id r)) (fault_small s (calls.Add id r))).says;
      no_answer = nil;
    }

one_reply : (s : Session) → Askable (waiting (plain_of s)) → (p : Parsed) → ((k : ℕ) → p ≡ Err k → k ≤ 7) → OneReply (parsed_reply s p).text
unfolding parsed_reply answer_for parsed_refusal
one_reply s askable (Ok (Line.Record (Open given))) within = record_alone s (Open given) (λ e. let z : ◌≡◌ {A = ℕ} 0 1 = cc in omega arith)
one_reply s askable (Ok (Line.Record (Add id r))) within = record_alone s (Add id r) (λ e. let z : ◌≡◌ {A = ℕ} 0 1 = cc in omega arith)
one_reply s askable (Ok (Line.Record (Drop id))) within = record_alone s (Drop id) (λ e. let z : ◌≡◌ {A = ℕ} 0 1 = cc in omega arith)
one_reply s askable (Ok (Line.Record Turn)) within =
    let t : TurnSays s = turn_said s askable in
    record {
      details = takes_of (plan_of (turn_of s turn_room)) ++ sets_of t.list;
      refused = fault_said (fault_of s (calls.Turn turn_room));
      says = t.says;
      no_answer = all_append (takes_no_answer (plan_of (turn_of s turn_room))) (sets_no_answer t.list);
    }
one_reply s askable (Ok (Line.Named id r)) within = named_alone s id r
one_reply s askable (Err k) within = fault_alone k (within k refl)

-- the reply after any lines
reply_after_lem : (n : NameLists) (start : Session) → start.opened ≡ false → (lines : List (List ℕ)) (line : List ℕ) → OneReply (reply_after n start lines line)
unfolding reply_after answer_line
reply_after_lem n start closed lines line =
    let s = session_by n start lines in
    one_reply s (rw (stands_after n start closed lines) (askable_after n lines)) (parse_line_with n s.setup.device line)
    (λ k e. long_lines.within n s.setup.device line k e)

pub output_says : OutputSays
output_says = record { each = reply_after_lem; joined = says_append }
