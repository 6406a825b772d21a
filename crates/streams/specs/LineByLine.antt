-- The stream answers each line as `answerLine` does.
use Rattle.std.specs.Prelude.{◌≡◌, ◌≢◌, List, [], ◌∷◌, ◌++◌, ℕ, Err}
use Rattle.requests.specs.declared.Refusal.TheVariants.{NotInGrammar}
use Rattle.sessions.specs.declared.Session.{Session}
use Rattle.grammar.specs.Text.{newline}
use Rattle.requests.specs.declared.Device.{Device}
use Rattle.names.specs.Lists.{NameLists}
use Rattle.parser.specs.ParseWith.{parse_line_with}
use Rattle.answers.specs.Replies.{answer_text, answer_line}
use Rattle.streams.specs.Stream.{NewlineFree, line_start, feed_state, feed_text, fault_at, end_text}

-- bytes without a newline, from the beginning of a line
pub record LineAnswered (n : NameLists) (s : Session) (text : List ℕ) : Type 0 where
  -- closed by a newline they are answered as a line ..
  pub reply : feed_text n (line_start s) (text ++ newline ∷ []) ≡ (answer_line n s (text ++ newline ∷ [])).text
  -- .. and the next line begins in the session that this leaves
  pub next : feed_state n (line_start s) (text ++ newline ∷ []) ≡ line_start (answer_line n s (text ++ newline ∷ [])).session
  -- before the newline nothing is answered
  pub silent : feed_text n (line_start s) text ≡ []
  -- where the input ends without it, they are answered 1, at the field where they break the grammar as a line without its newline, whatever the
  -- lists and the device, unless there are none
  pub ended : text ≢ [] → (m : NameLists) (d : Device) → end_text (feed_state n (line_start s) text) ≡ answer_text (Err NotInGrammar) (fault_at (parse_line_with m d text))
  pub empty : end_text (line_start s) ≡ []

abbrev pub LineByLine : Type 0
LineByLine = (n : NameLists) (s : Session) (text : List ℕ) → NewlineFree text → LineAnswered n s text
