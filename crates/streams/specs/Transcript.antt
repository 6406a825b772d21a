-- The whole output of a whole input: the replies to its lines, one after another, each in the session that the last one left, with the same two
-- lists of names.
use Rattle.std.specs.Prelude.{◌≡◌, ℕ, Err}
use mathlib.Core.List.{List, [], ◌∷◌, ◌++◌, map, flat_map}
use Rattle.requests.specs.declared.Refusal.TheVariants.{NotInGrammar}
use Rattle.plans.specs.Lists.{All}
use Rattle.sessions.specs.declared.Session.{Session}
use Rattle.sessions.specs.Calls.{Call}
use Rattle.sessions.specs.Sessions.{new_session, session_after}
use Rattle.grammar.specs.Text.{newline}
use Rattle.requests.specs.declared.Device.TheVariants.{G}
use Rattle.names.specs.Lists.{NameLists}
use Rattle.parser.specs.ParseWith.{parse_line_with}
use Rattle.answers.specs.Replies.{answer_text, answer_line}
use Rattle.answers.specs.LineLists.{calls_by}
use Rattle.streams.specs.Stream.{NewlineFree, no_names, fault_at, feed_start, feed_state, transcript}

-- a text closed by its newline
abbrev pub closed : List ℕ → List ℕ
closed text = text ++ newline ∷ []

-- the replies to lines
unfoldable pub replies_to : NameLists → Session → List (List ℕ) → List ℕ
replies_to n s [] = []
replies_to n s (text ∷ texts) = (answer_line n s (closed text)).text ++ replies_to n (answer_line n s (closed text)).session texts

-- at the end: a line without its newline is answered 1 at the field where it breaks the grammar, which hangs on no list and no device; no line is
-- not answered
unfoldable pub at_end : List ℕ → List ℕ
at_end [] = []
at_end (b ∷ bs) = answer_text (Err NotInGrammar) (fault_at (parse_line_with no_names G (b ∷ bs)))

-- the calls of lines
abbrev pub calls_of : NameLists → List (List ℕ) → List Call
calls_of n texts = calls_by n (map closed texts)

pub record Transcript : Type 0 where
  -- every input is lines, and a rest without a newline
  pub lines_of : (input : List ℕ) → (texts : List (List ℕ)) × (rest : List ℕ) × All NewlineFree texts × NewlineFree rest × (input ≡ flat_map closed texts ++ rest)
  -- its output is their replies
  pub output : (n : NameLists) (texts : List (List ℕ)) (rest : List ℕ) → All NewlineFree texts → NewlineFree rest
      → transcript n (flat_map closed texts ++ rest) ≡ replies_to n new_session texts ++ at_end rest
  -- and the session afterwards is the one that their calls leave
  pub session : (n : NameLists) (texts : List (List ℕ)) (rest : List ℕ) → All NewlineFree texts → NewlineFree rest
      → (feed_state n feed_start (flat_map closed texts ++ rest)).session ≡ session_after new_session (calls_of n texts)
