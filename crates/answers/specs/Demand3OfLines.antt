-- Demand 3 in the words of one who writes the lines and reads the replies, with any two lists of names.
use Rattle.std.specs.Prelude.{◌≡◌, ◌⊎◌, List, [], ◌∷◌, ◌++◌, false, ℕ, suc, ◌≤◌, eqb, length, None, Some}
use Rattle.requests.specs.declared.Setup.{Setup}
use Rattle.requests.specs.declared.Entry.{Entry}
use Rattle.requests.specs.Choice.{pick}
use Rattle.plans.specs.declared.Place.{Place}
use Rattle.plans.specs.Lists.{All}
use Rattle.plans.specs.Places.{Counted, counted_of, counters_of}
use Rattle.plans.specs.Legal.{Allowed, Usable}
use Rattle.sessions.specs.declared.Session.{Session}
use Rattle.sessions.specs.Calls.{opened, waiting}
use Rattle.sessions.specs.Plain.{completed, drops}
use Rattle.sessions.specs.Sessions.{queue_limit, queue_after}
use Rattle.grammar.specs.Records.{record_text}
use Rattle.grammar.specs.declared.Record.TheVariants.{Drop, Turn}
use Rattle.names.specs.Lists.{NameLists}
use Rattle.answers.specs.Reader.{Said, Takes, Sets, Answers, reply_says}
use Rattle.answers.specs.LineLists.{calls_by, calls_after, reply_after}
use Rattle.answers.specs.LinesSay.{TurnTold}

-- the counters that `take` lines give an id, each with its register, in order
unfoldable pub given_to : ℕ → List Said → List Counted
given_to id [] = []
given_to id (Takes other k r ∷ xs) = pick (eqb id other) ((k, r) ∷ given_to id xs) (given_to id xs)
given_to id (Sets a v ∷ xs) = given_to id xs
given_to id (Answers n ∷ xs) = given_to id xs

-- the line that drops the request: the first accepted drop of its id, after at most p of the turns of `after`
pub record DroppedBy (n : NameLists) (start : Session) (before after : List (List ℕ)) (p : ℕ) (e : Entry) : Type 0 where
  pub since : List (List ℕ)
  pub rest : List (List ℕ)
  pub split : after ≡ since ++ record_text (Drop e.id) ∷ rest
  pub answered : reply_says (reply_after n start (before ++ since) (record_text (Drop e.id))) ≡ Some (Answers None ∷ [])
  pub early : completed queue_limit (queue_after (calls_by n before)) (calls_after n before since) ≤ p
  pub first : drops queue_limit e.id (queue_after (calls_by n before)) (calls_after n before since) ≡ 0

-- the `turn` line whose reply gives the request its counter, after at most p of the turns of `after`
pub record TakenBy (n : NameLists) (start : Session) (before after : List (List ℕ)) (p : ℕ) (e : Entry) : Type 0 where
  pub since : List (List ℕ)
  pub rest : List (List ℕ)
  pub split : after ≡ since ++ record_text Turn ∷ rest
  pub early : completed queue_limit (queue_after (calls_by n before)) (calls_after n before since) ≤ p
  -- its reply says the plan of demand 2 for the queue there ..
  pub setup : Setup
  pub queue : List Entry
  pub there : queue_after (calls_by n (before ++ since)) ≡ opened setup queue
  pub told : TurnTold setup queue (reply_after n start (before ++ since) (record_text Turn))
  -- .. and gives this id one place, usable there and allowed by the request, and no other
  pub said : List Said
  pub answered : reply_says (reply_after n start (before ++ since) (record_text Turn)) ≡ Some said
  pub place : Place
  pub given : given_to e.id said ≡ counted_of place
  pub usable : All (Usable setup) (counters_of place)
  pub allowed : Allowed e.request place

-- Every list of lines from a session not yet opened, any place in it, between `before` and `after`, and any request e that waits there with p
-- before it: once p + 1 further turns are completed, a line dropped it first, or the reply to one of the first p + 1 gives it its counter.
abbrev pub Demand3OfLines : Type 0
Demand3OfLines =
    (n : NameLists) (start : Session)
    → start.opened ≡ false
    → (before after : List (List ℕ)) (ahead behind : List Entry) (e : Entry)
    → waiting (queue_after (calls_by n before)) ≡ ahead ++ e ∷ behind
    → suc (length ahead) ≤ completed queue_limit (queue_after (calls_by n before)) (calls_after n before after)
    → DroppedBy n start before after (length ahead) e
    ⊎ TakenBy n start before after (length ahead) e
