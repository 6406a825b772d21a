-- The line program as a fold over bytes: the state after each byte, and the text that it gives, with two lists of names.
use Rattle.std.specs.Prelude.{Bool, true, false, ℕ, ◌+◌, ltb, eqb, take, set, replicate, Ok, Err}
use mathlib.Core.List.{List, [], ◌∷◌, ◌++◌, Memᴰ}
use Rattle.requests.specs.declared.Refusal.TheVariants.{NotInGrammar}
use Rattle.requests.specs.Choice.{either, pick}
use Rattle.sessions.specs.declared.Session.{Session}
use Rattle.sessions.specs.Sessions.{new_session}
use Rattle.grammar.specs.Text.{newline}
use Rattle.grammar.specs.Parse.{longest}
use Rattle.grammar.specs.Parsed.{Parsed}
use Rattle.names.specs.Lists.{NameLists}
use Rattle.parser.specs.ParseWith.{parse_text_with}
use Rattle.answers.specs.Replies.{Reply, answer_text, parsed_reply}
use Rattle.streams.specs.declared.Feed.{Feed}

-- none of the bytes is a newline
abbrev pub NewlineFree : List ℕ → Type 0
NewlineFree bytes = ¬ Memᴰ newline bytes

-- the state at the beginning of a line
unfoldable pub line_start : Session → Feed
line_start s = record { session = s; kept = replicate longest 0; used = 0; long = false }

-- the state at the beginning of the input
unfoldable pub feed_start : Feed
feed_start = line_start new_session

-- the reply to the line that has just ended
unfoldable pub line_reply_lem : NameLists → Feed → Reply
line_reply_lem n f = parsed_reply f.session (parse_text_with n f.session.setup.device (take f.used f.kept) true f.long)

-- a byte of an unfinished line, of which 80 are kept
unfoldable pub keep_byte : Feed → ℕ → Feed
keep_byte f b =
    elim (ltb f.used longest) [
      | true ↦ record { session = f.session; kept = set f.kept f.used b; used = f.used + 1; long = f.long }
      | false ↦ record { session = f.session; kept = f.kept; used = f.used; long = true }
    ]

-- the state after a byte
unfoldable pub byte_state : NameLists → Feed → ℕ → Feed
byte_state n f b = elim (eqb b newline) [ true ↦ line_start (line_reply_lem n f).session | false ↦ keep_byte f b ]

-- the text that it gives
unfoldable pub byte_text : NameLists → Feed → ℕ → List ℕ
byte_text n f b = elim (eqb b newline) [ true ↦ (line_reply_lem n f).text | false ↦ [] ]

-- the state after a run of bytes
unfoldable pub feed_state : NameLists → Feed → List ℕ → Feed
feed_state n f [] = f
feed_state n f (b ∷ bs) = feed_state n (byte_state n f b) bs

-- the text that it gives
unfoldable pub feed_text : NameLists → Feed → List ℕ → List ℕ
feed_text n f [] = []
feed_text n f (b ∷ bs) = byte_text n f b ++ feed_text n (byte_state n f b) bs

-- whether a line has begun and not ended
unfoldable pub unfinished : Feed → Bool
unfinished f = either f.long (ltb 0 f.used)

-- no names: such a line does not look at the lists
abbrev pub no_names : NameLists
no_names = record { site = []; house = [] }

-- what the kept bytes are as a line without its newline
unfoldable pub unclosed : Feed → Parsed
unclosed f = parse_text_with no_names f.session.setup.device (take f.used f.kept) false f.long

-- the field of a line that is not in the grammar
unfoldable pub fault_at : Parsed → ℕ
fault_at (Ok asked) = 0
fault_at (Err k) = k

-- at the end of the input a line without its newline is not in the grammar; "the number of fields where the record stops too soon or the newline is
-- missing"
unfoldable pub end_text : Feed → List ℕ
end_text f = pick (unfinished f) (answer_text (Err NotInGrammar) (fault_at (unclosed f))) []

-- the reply to the end of the input
unfoldable pub end_reply : Feed → Reply
end_reply f = record { text = end_text f; session = f.session }

-- the whole output of a whole input
unfoldable pub transcript : NameLists → List ℕ → List ℕ
transcript n input = feed_text n feed_start input ++ end_text (feed_state n feed_start input)
