-- Document 02, order 9: how a request by name is answered, in the words of one who has the two lists and reads the reply.
use Rattle.std.specs.Prelude.{◌≡◌, ◌⊎◌, true, false, List, [], ◌∷◌, ◌++◌, ℕ, Err}
use Rattle.requests.specs.declared.CounterSet.{CounterSet}
use Rattle.requests.specs.Answers.{Answer}
use Rattle.requests.specs.declared.Refusal.{Refusal}
use Rattle.requests.specs.declared.Refusal.TheVariants.{NotInGrammar, CallOrder, BadId, IdWaiting, KindNotOnDevice, NotListed}
use Rattle.requests.specs.declared.Request.TheVariants.{Event}
use Rattle.requests.specs.Devices.{letter_of}
use Rattle.sessions.specs.declared.Session.{Session}
use Rattle.sessions.specs.RefusalTable.{IsId, Waits}
use Rattle.sessions.specs.Sessions.{queued}
use Rattle.grammar.specs.Text.{newline}
use Rattle.grammar.specs.Records.{record_text}
use Rattle.grammar.specs.declared.Record.TheVariants.{Add}
use Rattle.names.specs.Lists.{NameLists}
use Rattle.names.specs.Named.{named_field}
use Rattle.names.specs.RowGrammar.{RowFits, row_line, AreLists}
use Rattle.names.specs.RowsFound.{NoRow, FoundIn}
use Rattle.names.specs.declared.Row.{Row}
use Rattle.parser.specs.NamedText.{IsNamed}
use Rattle.answers.specs.Replies.{answer_text, answer_line}

-- the row that a name finds says this
pub record RowOfName (n : NameLists) (name : List ℕ) (row : Row) : Type 0 where
  pub text : List ℕ
  pub found : FoundIn n name text
  pub fits : RowFits (record { name = name; row = row })
  pub says : text ++ newline ∷ [] ≡ row_line (record { name = name; row = row })

-- the line is refused at a field, and changes nothing
abbrev pub RefusedWith : NameLists → Session → List ℕ → Refusal → ℕ → Type 0
RefusedWith n s line x k = ((answer_line n s line).text ≡ answer_text (Err x) k) × ((answer_line n s line).session ≡ s)

-- two lines are answered alike and leave the same session; where the second is refused at the field of an event, the first is at its own: the code
-- and the mask are the name, field 2, and the allowed set is field 3
pub record AsEvent (n : NameLists) (s : Session) (line numbers : List ℕ) : Type 0 where
  pub answer : Answer
  pub field : ℕ
  pub numbers_text : (answer_line n s numbers).text ≡ answer_text answer field
  pub text : (answer_line n s line).text ≡ answer_text answer (named_field field)
  pub session : (answer_line n s line).session ≡ (answer_line n s numbers).session

pub record NamedLines (n : NameLists) (s : Session) (line : List ℕ) (id : ℕ) (name : List ℕ) (a : CounterSet) : Type 0 where
  -- "An ill-formed row in either list is refused with 1 before any search": in every session, also before open; order 11: at field 0
  pub ill_formed : ¬ AreLists n → RefusedWith n s line NotInGrammar 0
  -- 2, 4 and 5, whatever the name finds
  pub not_open : AreLists n → s.opened ≡ false → RefusedWith n s line CallOrder 0
  pub bad_id : AreLists n → s.opened ≡ true → ¬ IsId id → RefusedWith n s line BadId 1
  pub waiting : AreLists n → s.opened ≡ true → IsId id → Waits id (queued s) → RefusedWith n s line IdWaiting 1
  -- "a name in neither list gets 8", whatever the allowed set, and in a full queue too
  pub missing : AreLists n → s.opened ≡ true → IsId id → ¬ Waits id (queued s) → NoRow name n.site → NoRow name n.house
      → RefusedWith n s line NotListed 2
  -- ".. a found row for another device 7"
  pub elsewhere : AreLists n → s.opened ≡ true → IsId id → ¬ Waits id (queued s) → (row : Row) → RowOfName n name row
      → ¬ (letter_of row.device ≡ letter_of s.setup.device) → RefusedWith n s line KindNotOnDevice 0
  -- "A found row is used as the same request typed in numbers would be, all later refusals included"; order 11: "8, and 9 or 10 from the row's mask,
  -- are at the name"
  pub as_numbers : AreLists n → (row : Row) → RowOfName n name row → letter_of row.device ≡ letter_of s.setup.device
      → AsEvent n s line (record_text (Add id (Event row.code row.mask a)))

pub record NamesAnswered : Type 0 where
  -- a name finds a row in well-formed lists, or there is none
  pub settled : (n : NameLists) (name : List ℕ) → AreLists n → (NoRow name n.site × NoRow name n.house) ⊎ ((row : Row) × RowOfName n name row)
  pub named : (n : NameLists) (s : Session) (line : List ℕ) (id : ℕ) (name : List ℕ) (a : CounterSet) → IsNamed line id name a → NamedLines n s line id name a
  -- no other line looks at the lists
  pub others : (n m : NameLists) (s : Session) (line : List ℕ) → ((id : ℕ) (name : List ℕ) (a : CounterSet) → ¬ IsNamed line id name a)
      → answer_line n s line ≡ answer_line m s line
