-- Every waiting request is well-formed and has a plan alone, and no more wait than the queue holds, whatever its limit: 16 in a session.
use Rattle.std.specs.Prelude.{◌≡◌, List, ℕ}
use Rattle.requests.specs.declared.Setup.{Setup}
use Rattle.requests.specs.declared.Entry.{Entry}
use Rattle.sessions.specs.Calls.{Call, not_open_lem, opened}
use Rattle.sessions.specs.Plain.{run}
use Rattle.sessions.specs.Sound.{Sound}

-- every state that calls leave is sound, once it is open
abbrev pub WellFormed : Type 0
WellFormed = (limit : ℕ) (calls : List Call) (s : Setup) (q : List Entry) → run limit not_open_lem calls ≡ opened s q → Sound limit s q
