-- A machine stands for the plain queue, and answers as the refusal table says.
use Rattle.std.specs.Prelude.{◌≡◌, List, false, ℕ}
use Rattle.requests.specs.Refusals.{answer_for}
use Rattle.sessions.specs.Calls.{Call, Plain, not_open_lem}
use Rattle.sessions.specs.Table.{refusal}
use Rattle.sessions.specs.Plain.{run}
use Rattle.sessions.specs.Sessions.{queue_limit, plain_of}
use Rattle.sessions.specs.Completed.{Machine, small_session, state_after}
use Rattle.sessions.specs.declared.Session.{Session}

-- from the state s on, where the plain queue is p; `plainIn` is the plain queue that a state stands for
pub record Agrees {State : Type 0} (m : Machine State) (plain_in : State → Plain) (limit : ℕ) (p : Plain) (s : State) : Type 0 where
  -- after every list of calls it stands for the plain queue after the same calls ..
  pub stands : (calls : List Call) → plain_in (state_after m s calls) ≡ run limit p calls
  -- .. and answers the next call as the refusal table says there
  pub answers : (calls : List Call) (c : Call) → m.answer (state_after m s calls) c ≡ answer_for (refusal limit (run limit p calls) c)

-- so does every session not yet opened
abbrev pub Agreement : Type 0
Agreement = (s : Session) → s.opened ≡ false → Agrees small_session plain_of queue_limit not_open_lem s
