-- Document 02, order 13: "A line too long is answered once with 1, at its newline or at the declared end, and the next line is read normally."
use Rattle.std.specs.Prelude.{◌≡◌, List, [], ◌∷◌, ◌++◌, ℕ, ◌<◌, length, Err}
use Rattle.requests.specs.declared.Refusal.TheVariants.{NotInGrammar}
use Rattle.sessions.specs.declared.Session.{Session}
use Rattle.grammar.specs.Text.{newline}
use Rattle.names.specs.Lists.{NameLists}
use Rattle.answers.specs.Replies.{answer_text}
use Rattle.streams.specs.Stream.{NewlineFree, line_start, feed_state, feed_text, end_text}

-- the bytes of a line too long, from its beginning in the session s
pub record AnsweredOnce (n : NameLists) (s : Session) (text : List ℕ) : Type 0 where
  -- nothing is answered before its newline, which is answered 1 at some field ..
  pub silent : feed_text n (line_start s) text ≡ []
  pub closed : (field : ℕ) × (feed_text n (line_start s) (text ++ newline ∷ []) ≡ answer_text (Err NotInGrammar) field)
  -- .. and the next line is read as this one would have been
  pub next : feed_state n (line_start s) (text ++ newline ∷ []) ≡ line_start s
  -- where the end comes first, that is answered 1
  pub ended : (field : ℕ) × (end_text (feed_state n (line_start s) text) ≡ answer_text (Err NotInGrammar) field)

abbrev pub LongLines : Type 0
LongLines = (n : NameLists) (s : Session) (text : List ℕ) → NewlineFree text → 80 < length text → AnsweredOnce n s text
