-- The session before open, by computation. Assumes nothing.
use mathlib.Core.Path.{refl}
use Rattle.sessions.specs.Sessions.{new_session, plain_of}
use Rattle.sessions.specs.Fresh.{Fresh}

pub fresh : Fresh
unfolding new_session plain_of
fresh = record { new = refl; stands = refl }
