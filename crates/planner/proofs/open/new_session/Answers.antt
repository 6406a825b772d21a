use Rattle.sessions.specs.Sessions.{new_session}
use Rattle.planner.proofs.Queues.{padded_none}
use Rattle.planner.proofs.open.new_session.Goals as goal

pub returns : goal.returns
unfolding new_session
returns c = rw (c.vacant-places.ensures, padded_none, c.unasked.ensures)
