-- Order 14's promise in the words of one who writes the lines and reads the replies, with any two lists of names.
use Rattle.std.specs.Prelude.{◌≡◌, ◌⊎◌, List, ◌∷◌, ◌++◌, false, ℕ, suc, ◌≤◌}
use Rattle.requests.specs.declared.Setup.{Setup}
use Rattle.requests.specs.declared.Entry.{Entry}
use Rattle.sessions.specs.declared.Session.{Session}
use Rattle.sessions.specs.Calls.{opened}
use Rattle.sessions.specs.Plain.{completed}
use Rattle.sessions.specs.Sessions.{queue_limit, queue_after}
use Rattle.sessions.specs.ShorterPromise.{rounds, FreeAhead}
use Rattle.names.specs.Lists.{NameLists}
use Rattle.answers.specs.LineLists.{calls_by, calls_after}
use Rattle.answers.specs.Demand3OfLines.{DroppedBy, TakenBy}

-- As `Demand3OfLines`, for a request e that waits behind free events: once p÷u + 1 further turns are completed, a line dropped it first, or the
-- reply to one of the first p÷u + 1 gives it its counter.
abbrev pub ShorterPromiseOfLines : Type 0
ShorterPromiseOfLines =
    (n : NameLists) (start : Session)
    → start.opened ≡ false
    → (before after : List (List ℕ)) (s : Setup) (ahead behind : List Entry) (e : Entry)
    → queue_after (calls_by n before) ≡ opened s (ahead ++ e ∷ behind)
    → FreeAhead s ahead e
    → suc (rounds s ahead) ≤ completed queue_limit (queue_after (calls_by n before)) (calls_after n before after)
    → DroppedBy n start before after (rounds s ahead) e
    ⊎ TakenBy n start before after (rounds s ahead) e
