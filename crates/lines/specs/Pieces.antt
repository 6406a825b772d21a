-- A piece of a line: bytes without a newline.
use Rattle.std.specs.Prelude.{◌≡◌, Bool, true, Option, None, Some, List, ℕ, ◌<◌, length, get_or, take}
use Rattle.grammar.specs.Text.{newline}
use Rattle.requests.specs.declared.Device.{Device}
use Rattle.names.specs.Lists.{NameLists}
use Rattle.parser.specs.ParseWith.{parse_text_with}
use Rattle.sessions.specs.declared.Session.{Session}
use Rattle.grammar.specs.Parsed.{Parsed}
use Rattle.streams.specs.Stream.{NewlineFree, feed_state}
use Rattle.lines.specs.declared.Extent.{Extent}
use Rattle.streams.specs.declared.Feed.{Feed}

-- the first newline of a block stands there
pub record NewlineAt (block : List ℕ) (at : ℕ) : Type 0 where
  pub within : at < length block
  pub before : NewlineFree (take at block)
  pub found : get_or block at 0 ≡ newline

-- the place of the first newline of a block, where there is one
abbrev pub FirstNewline : List ℕ → Option ℕ → Type 0
FirstNewline block None = NewlineFree block
FirstNewline block (Some at) = NewlineAt block at

-- what the kept bytes ask for as a line that has just ended
unfoldable pub kept_line : NameLists → Feed → Parsed
kept_line n f = parse_text_with n f.session.setup.device (take f.used f.kept) true f.long

-- the state of a session and an unfinished line
abbrev pub state_of : Session → List ℕ → ℕ → Bool → Feed
state_of s kept used long = record { session = s; kept = kept; used = used; long = long }

-- what a piece leaves of an unfinished line, whatever the lists and the session: the kept bytes, and how far the line goes
abbrev pub KeptOn : List ℕ → ℕ → Bool → List ℕ → List ℕ → Extent → Type 0
KeptOn kept used long piece after e = (n : NameLists) (s : Session) → feed_state n (state_of s kept used long) piece ≡ state_of s after e.used e.long

-- what a line asks for that ends with a piece, in any session on the device
abbrev pub EndedLine : NameLists → Device → List ℕ → ℕ → Bool → List ℕ → Parsed → Type 0
EndedLine n d kept used long piece p = (s : Session) → s.setup.device ≡ d → p ≡ kept_line n (feed_state n (state_of s kept used long) piece)
