-- Demand 3 of every list of calls that starts from a sound open state; `Demand3` is the same of those that start from a session not yet opened.
use Rattle.std.specs.Prelude.{◌≡◌, List}
use Rattle.requests.specs.declared.Setup.{Setup}
use Rattle.requests.specs.declared.Entry.{Entry}
use Rattle.sessions.specs.Calls.{opened}
use Rattle.sessions.specs.Sessions.{queue_limit, plain_of}
use Rattle.sessions.specs.Sound.{Sound}
use Rattle.sessions.specs.Completed.{small_session}
use Rattle.sessions.specs.Demand3.{Promises}
use Rattle.sessions.specs.declared.Session.{Session}

-- q is the queue at the start
abbrev pub Demand3From : Type 0
Demand3From =
    (session : Session) (s : Setup) (q : List Entry) → plain_of session ≡ opened s q → Sound queue_limit s q → Promises small_session queue_limit (opened s q) session
