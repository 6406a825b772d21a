-- What document 01 asks of a plan, without the rules of events: it is what the search keeps of the requests that it is given. Assumes nothing.
use mathlib.Core.Logic.{◌≢◌}
use mathlib.Core.List.{List, flat_map}
use Prim.Native.Nat.{ℕ, ◌<◌}
use Rattle.requests.specs.declared.Setup.{Setup}
use Rattle.requests.specs.declared.Request.{Request}
use Rattle.plans.specs.declared.Place.{Place}
use Rattle.plans.specs.Lists.{All, Pairwise, OneValue, Each}
use Rattle.plans.specs.Legal.{Allowed, Usable, words_of, packets_of, of_all, counters, Legal}

pub record Fits (s : Setup) (rs : List Request) (ps : List Place) : Type 0 where
  pub differ : Pairwise ◌≢◌ (counters ps)
  pub usable_only : All (Usable s) (counters ps)
  pub allowed : Each Allowed rs ps
  pub one_word : (i : ℕ) → i < 2 → OneValue (of_all (words_of i) rs ps)
  pub one_packet : OneValue (flat_map packets_of rs)

pub legal_fits : (s : Setup) (rs : List Request) (ps : List Place) → Legal s rs ps → Fits s rs ps
legal_fits s rs ps l = record {
  differ = l.differ;
  usable_only = l.usable_only;
  allowed = l.allowed;
  one_word = l.one_word;
  one_packet = l.one_packet;
}
