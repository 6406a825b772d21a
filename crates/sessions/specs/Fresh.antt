-- The session that `new_session` gives is "not open": what is said of every session not yet opened, demand 3 above all, is said of it.
use Rattle.std.specs.Prelude.{◌≡◌, false}
use Rattle.sessions.specs.Calls.{not_open_lem}
use Rattle.sessions.specs.Sessions.{new_session, plain_of}

pub record Fresh : Type 0 where
  pub new : new_session.opened ≡ false
  pub stands : plain_of new_session ≡ not_open_lem
