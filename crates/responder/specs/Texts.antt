-- What the functions leave that write a text into a lent slice.
use Rattle.std.specs.Prelude.{◌≡◌, List, [], ◌∷◌, ◌++◌, ℕ, ◌+◌, length}
use Rattle.std.proofs.lemmas.List.Edits.{sets}
use Rattle.grammar.specs.Text.{bytes, tab, decimal_text}
use Rattle.answers.specs.Replies.{Reply}
use Rattle.responder.specs.Written.{Left}

-- a text stands in a slice from `at`, the rest of the slice is as before, and `next` is the place after the text
pub record Put (before : List ℕ) (at : ℕ) (text after : List ℕ) (next : ℕ) : Type 0 where
  pub place : next ≡ at + length text
  pub contents : after ≡ sets before at text

-- a `take` line up to its register
unfoldable pub take_start : ℕ → ℕ → List ℕ
take_start id counter = bytes "take" ++ tab ∷ (decimal_text id ++ tab ∷ (decimal_text counter ++ tab ∷ []))

-- a reply is given: its text stands at the start of a slice, its session and the text's length are answered
pub record Delivered (reply : Reply) (before after : List ℕ) (left : Left) : Type 0 where
  pub answered : left ≡ record { session = reply.session; written = length reply.text }
  pub contents : after ≡ sets before 0 reply.text
