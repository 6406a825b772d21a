-- What the replies to lines say, with any two lists of names, read off the plain queue of the calls that the lines before make: the refusal
-- table and demand 2 in the words of one who reads the output.
use Rattle.std.specs.Prelude.{◌≡◌, ◌≢◌, List, [], ◌∷◌, ◌++◌, false, ℕ, None, Some}
use Rattle.requests.specs.declared.CounterSet.{CounterSet}
use Rattle.requests.specs.declared.Setup.{Setup}
use Rattle.requests.specs.declared.Entry.{Entry}
use Rattle.requests.specs.declared.Fault.{Fault}
use Rattle.requests.specs.Refusals.{number_of}
use Rattle.requests.specs.Devices.{letter_of}
use Rattle.plans.specs.declared.Place.{Place}
use Rattle.plans.specs.Order.{First}
use Rattle.layouts.specs.Writes.{writes}
use Rattle.sessions.specs.declared.Session.{Session}
use Rattle.sessions.specs.Turns.{requests_of, taken, assign}
use Rattle.sessions.specs.Calls.{opened}
use Rattle.sessions.specs.Calls as calls
use Rattle.sessions.specs.Table.{refusal}
use Rattle.sessions.specs.FaultTable.{fault}
use Rattle.sessions.specs.RefusalTable.{IsId, Waits}
use Rattle.sessions.specs.Sessions.{queue_limit, session_after, queue_after}
use Rattle.grammar.specs.Records.{record_text, Fits}
use Rattle.grammar.specs.declared.Record.{Record}
use Rattle.grammar.specs.declared.Record.TheVariants.{Turn}
use Rattle.names.specs.Lists.{NameLists}
use Rattle.names.specs.Named.{request_named}
use Rattle.parser.specs.NamedText.{IsNamed}
use Rattle.names.specs.RowGrammar.{AreLists}
use Rattle.names.specs.RowsFound.{NoRow}
use Rattle.names.specs.declared.Row.{Row}
use Rattle.answers.specs.Reader.{Answers, reply_says}
use Rattle.answers.specs.LinesAreCalls.{call_of, fault_said, by_name_lem, takes_of, sets_of}
use Rattle.answers.specs.NamedLines.{RowOfName}
use Rattle.answers.specs.LineLists.{device_at, calls_by, session_by, reply_after}

-- the text says the first legal plan of the requests taken, in the order taken, that plan's writes, `ok`, and nothing else
pub record TurnTold (s : Setup) (q : List Entry) (text : List ℕ) : Type 0 where
  pub places : List Place
  pub first : First s (requests_of (taken s q)) places
  pub says : reply_says text ≡ Some (takes_of (assign (taken s q) places) ++ sets_of (writes s (requests_of (taken s q)) places) ++ Answers None ∷ [])

-- after any lines, from a session not yet opened
pub record SaidAfter (n : NameLists) (start : Session) (lines : List (List ℕ)) : Type 0 where
  -- the session is the one that their calls leave
  pub session : session_by n start lines ≡ session_after start (calls_by n lines)
  -- a record that the table refuses there is answered with the number and the field alone
  pub refused : (r : Record) → Fits r → (f : Fault) → fault queue_limit (queue_after (calls_by n lines)) (call_of r) ≡ Some f
      → reply_says (reply_after n start lines (record_text r)) ≡ Some (Answers (Some (number_of f.refusal, f.field)) ∷ [])
  -- any other open, add or drop with `ok` alone
  pub accepted : (r : Record) → Fits r → r ≢ Turn → refusal queue_limit (queue_after (calls_by n lines)) (call_of r) ≡ None
      → reply_says (reply_after n start lines (record_text r)) ≡ Some (Answers None ∷ [])
  -- every turn once it is open with the plan and its writes
  pub turn : (s : Setup) (q : List Entry) → queue_after (calls_by n lines) ≡ opened s q → TurnTold s q (reply_after n start lines (record_text Turn))
  -- and a request by name as the add that it stands for, on the device of the queue there: where it is refused, at the field of its own line
  pub named : (line : List ℕ) (id : ℕ) (name : List ℕ) (a : CounterSet) → IsNamed line id name a → AreLists n
      → reply_says (reply_after n start lines line)
      ≡ Some (Answers (fault_said (by_name_lem (fault queue_limit (queue_after (calls_by n lines)) (calls.Add id (request_named n name (device_at (queue_after (calls_by n lines))) a))))) ∷ [])
  -- it is answered 1 at field 0 beside an ill-formed list ..
  pub ill_formed : (line : List ℕ) (id : ℕ) (name : List ℕ) (a : CounterSet) → IsNamed line id name a → ¬ AreLists n
      → reply_says (reply_after n start lines line) ≡ Some (Answers (Some (1, 0)) ∷ [])
  -- .. 8 at the name where neither list has it, and 7 where its row is for another device
  pub missing : (s : Setup) (q : List Entry) → queue_after (calls_by n lines) ≡ opened s q
      → (line : List ℕ) (id : ℕ) (name : List ℕ) (a : CounterSet) → IsNamed line id name a → AreLists n → IsId id → ¬ Waits id q
      → NoRow name n.site → NoRow name n.house
      → reply_says (reply_after n start lines line) ≡ Some (Answers (Some (8, 2)) ∷ [])
  pub elsewhere : (s : Setup) (q : List Entry) → queue_after (calls_by n lines) ≡ opened s q
      → (line : List ℕ) (id : ℕ) (name : List ℕ) (a : CounterSet) → IsNamed line id name a → AreLists n → IsId id → ¬ Waits id q
      → (row : Row) → RowOfName n name row → ¬ (letter_of row.device ≡ letter_of s.device)
      → reply_says (reply_after n start lines line) ≡ Some (Answers (Some (7, 0)) ∷ [])

abbrev pub LinesSay : Type 0
LinesSay = (n : NameLists) (start : Session) → start.opened ≡ false → (lines : List (List ℕ)) → SaidAfter n start lines
