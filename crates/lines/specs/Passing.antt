-- What a text leaves that is taken whole, with its answers in an output from a place on.
use Rattle.std.specs.Prelude.{List, ◌≡◌, ℕ}
use Rattle.names.specs.Lists.{NameLists}
use Rattle.responder.specs.Texts.{Put}
use Rattle.streams.specs.Stream.{feed_state, feed_text}
use Rattle.streams.specs.declared.Feed.{Feed}
use Rattle.lines.specs.declared.Fed.{Fed}

pub record Passed (n : NameLists) (f : Feed) (text before : List ℕ) (at : ℕ) (after : List ℕ) (r : Fed) : Type 0 where
  pub state : r.feed ≡ feed_state n f text
  pub output : Put before at (feed_text n f text) after r.written
