-- Document 02, order 13: "At the end an unfinished nonempty line is answered 1"; order 11: at "the first field that breaks the grammar, or the number of
-- fields where .. the newline is missing". By the line's fields and those of the grammar, whatever is read of it.
use Rattle.std.specs.Prelude.{◌≡◌, ◌≢◌, List, [], ◌∷◌, ℕ, suc, ◌≤◌, ◌<◌, length}
use Rattle.sessions.specs.declared.Session.{Session}
use Rattle.grammar.specs.Text.{bytes, decimal_text, line_of}
use Rattle.grammar.specs.Fields.{fields}
use Rattle.names.specs.Lists.{NameLists}
use Rattle.parser.specs.FirstBroken.{Begins}
use Rattle.streams.specs.Stream.{NewlineFree, line_start, feed_state, end_text}

-- the fields before k begin a record or a request by name, and with field k, where there is one, they begin nothing
pub record BreaksAt (fs : List (List ℕ)) (k : ℕ) : Type 0 where
  pub within : k ≤ length fs
  pub good : Begins fs k
  pub broken : k < length fs → ¬ Begins fs (suc k)

-- `no`, 1 and the field
abbrev pub refused_at : ℕ → List ℕ
refused_at k = line_of (bytes "no" ∷ bytes "1" ∷ decimal_text k ∷ [])

-- from the beginning of a line, in every session and with any lists: it breaks in one field alone, and that is answered
pub record UnfinishedLines : Type 0 where
  pub breaks : (text : List ℕ) → NewlineFree text → (k : ℕ) × BreaksAt (fields text) k
  pub answered : (n : NameLists) (s : Session) (text : List ℕ) → NewlineFree text → text ≢ [] → (k : ℕ) → BreaksAt (fields text) k
      → end_text (feed_state n (line_start s) text) ≡ refused_at k
