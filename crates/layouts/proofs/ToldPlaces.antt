-- What is told of a placed request names the counters and registers of its place, by cases. Assumes nothing.
use mathlib.Core.Path.{refl}
use Rattle.requests.specs.declared.Request.TheVariants.{Event, Packet, Offcore, Latency}
use Rattle.plans.specs.declared.Place.TheVariants.{Counter, WithRsp, Pair}
use Rattle.plans.specs.Places.{counted_of, first, second}
use Rattle.plans.specs.Legal.{event, packet, offcore, latency}
use Rattle.layouts.specs.Told.{told_of}
use Rattle.layouts.specs.ToldPlaces.{ToldPlaces}

pub told_places : ToldPlaces
unfolding counted_of first second told_of
told_places (Event c m a) (Counter k) (event h) = refl
told_places (Packet x y a) (Counter k) (packet h) = refl
told_places (Offcore w a) (WithRsp k i) (offcore h l) = refl
told_places (Latency t a b) (Pair j k) (latency h g) = refl
told_places (Event c m a) (WithRsp k i) x'' = elim x'' [ ]
told_places (Event c m a) (Pair j k) x3 = elim x3 [ ]
told_places (Packet x y a) (WithRsp k i) x4 = elim x4 [ ]
told_places (Packet x y a) (Pair j k) x5 = elim x5 [ ]
told_places (Offcore w a) (Counter k) x4 = elim x4 [ ]
told_places (Offcore w a) (Pair j k) x5 = elim x5 [ ]
told_places (Latency t a b) (Counter k) x5 = elim x5 [ ]
told_places (Latency t a b) (WithRsp k i) x6 = elim x6 [ ]
