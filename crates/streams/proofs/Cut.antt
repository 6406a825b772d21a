-- The stream does not depend on how the input is cut: the laws on two pieces, and by them on any number. Assumes nothing.
use mathlib.Core.Path.{◌≡◌, refl, ap, sym, ◌∙◌}
use mathlib.Core.List.{List, [], ◌∷◌, ◌++◌, append_assoc}
use Prim.Native.Nat.{ℕ}
use Rattle.names.specs.Lists.{NameLists}
use Rattle.streams.specs.Stream.{byte_state, feed_state, feed_text}
use Rattle.streams.specs.Cutting.{joined, state_through, text_through, Cutting}
use Rattle.streams.specs.declared.Feed.{Feed}

module _ (n : NameLists) where
  pub state_append : (f : Feed) (a b : List ℕ) → feed_state n f (a ++ b) ≡ feed_state n (feed_state n f a) b
  unfolding feed_state
  state_append f [] b = refl
  state_append f (x ∷ a) b = state_append (byte_state n f x) a b

  pub text_append : (f : Feed) (a b : List ℕ) → feed_text n f (a ++ b) ≡ feed_text n f a ++ feed_text n (feed_state n f a) b
  unfolding feed_text feed_state
  text_append f [] b = refl
  text_append f (x ∷ a) b = rw (text_append (byte_state n f x) a b, append_assoc)

  state_joined : (f : Feed) (pieces : List (List ℕ)) → state_through n f pieces ≡ feed_state n f (joined pieces)
  unfolding state_through joined feed_state
  state_joined f [] = refl
  state_joined f (p ∷ ps) = state_joined (feed_state n f p) ps ∙ sym (state_append f p (joined ps))

  text_joined : (f : Feed) (pieces : List (List ℕ)) → text_through n f pieces ≡ feed_text n f (joined pieces)
  unfolding text_through joined feed_text
  text_joined f [] = refl
  text_joined f (p ∷ ps) = ap (λ (t : List ℕ). feed_text n f p ++ t) (text_joined (feed_state n f p) ps) ∙ sym (text_append f p (joined ps))

pub cutting : Cutting
cutting = record { state = state_joined; text = text_joined }
