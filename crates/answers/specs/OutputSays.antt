-- One who reads the whole output gets what the replies say, one after another. Each says its answer last and only there, so that it is seen where
-- a reply ends.
use Rattle.std.specs.Prelude.{◌≡◌, List, [], ◌∷◌, ◌++◌, false, ℕ, Option, Some}
use Rattle.plans.specs.Lists.{All}
use Rattle.sessions.specs.declared.Session.{Session}
use Rattle.names.specs.Lists.{NameLists}
use Rattle.answers.specs.Reader.{Refusing, Said, Takes, Sets, Answers, reply_says}
use Rattle.answers.specs.LineLists.{reply_after}

-- a line that is not the answer
abbrev pub NoAnswer : Said → Type 0
NoAnswer (Takes id counter register) = Unit {0}
NoAnswer (Sets address value) = Unit {0}
NoAnswer (Answers refused) = ⊥

-- a text that says one answer, at its end
pub record OneReply (text : List ℕ) : Type 0 where
  pub details : List Said
  pub refused : Option Refusing
  pub says : reply_says text ≡ Some (details ++ Answers refused ∷ [])
  pub no_answer : All NoAnswer details

pub record OutputSays : Type 0 where
  -- the reply to any line, whatever its bytes, after any lines
  pub each : (n : NameLists) (start : Session) → start.opened ≡ false → (lines : List (List ℕ)) (line : List ℕ) → OneReply (reply_after n start lines line)
  -- texts one after another say what each says
  pub joined : (a b : List ℕ) (xs ys : List Said) → reply_says a ≡ Some xs → reply_says b ≡ Some ys → reply_says (a ++ b) ≡ Some (xs ++ ys)
