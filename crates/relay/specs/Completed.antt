-- A run is complete exactly where its input was read to the end and its last reply was written whole; its status is then 0, and else not.
use Rattle.std.specs.Prelude.{◌≡◌}
use Rattle.descriptors.specs.declared.Reading.{Reading}
use Rattle.descriptors.specs.declared.Next.{Next}
use Rattle.relay.specs.Endings.{last_of, ending_of, status_of}
use Rattle.relay.specs.declared.Ending.{Ending}
use Rattle.relay.specs.declared.Ending.TheVariants.{Complete}

pub record Completed : Type 0 where
  pub only : (last : Reading) (next : Next) → ending_of (last_of last next) ≡ Complete → (last ≡ Reading.End) × (next ≡ Next.Complete)
  pub complete : ending_of (last_of Reading.End Next.Complete) ≡ Complete
  pub zero : status_of Complete ≡ 0
  pub not_zero : (e : Ending) → status_of e ≡ 0 → e ≡ Complete
