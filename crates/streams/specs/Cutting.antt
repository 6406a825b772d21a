-- The stream does not depend on how the input is cut into pieces.
use Rattle.std.specs.Prelude.{◌≡◌, List, [], ◌∷◌, ◌++◌, ℕ}
use Rattle.names.specs.Lists.{NameLists}
use Rattle.streams.specs.Stream.{feed_state, feed_text}
use Rattle.streams.specs.declared.Feed.{Feed}

-- pieces put together
unfoldable pub joined : List (List ℕ) → List ℕ
joined [] = []
joined (p ∷ ps) = p ++ joined ps

-- the state after pieces, each given the state that the last one left, and the same two lists
unfoldable pub state_through : NameLists → Feed → List (List ℕ) → Feed
state_through n f [] = f
state_through n f (p ∷ ps) = state_through n (feed_state n f p) ps

-- the texts that they give, one after another
unfoldable pub text_through : NameLists → Feed → List (List ℕ) → List ℕ
text_through n f [] = []
text_through n f (p ∷ ps) = feed_text n f p ++ text_through n (feed_state n f p) ps

pub record Cutting : Type 0 where
  pub state : (n : NameLists) (f : Feed) (pieces : List (List ℕ)) → state_through n f pieces ≡ feed_state n f (joined pieces)
  pub text : (n : NameLists) (f : Feed) (pieces : List (List ℕ)) → text_through n f pieces ≡ feed_text n f (joined pieces)
