-- A complete run, by the cases of its last read and its last write. Assumes nothing.
use Rattle.std.proofs.Common.{◌≡◌, refl, arith}
use Rattle.descriptors.specs.declared.Reading.{Reading}
use Rattle.descriptors.specs.declared.Next.{Next}
use Rattle.relay.specs.Endings.{last_of, ending_of, status_of}
use Rattle.relay.specs.Completed.{Completed}
use Rattle.relay.specs.declared.Ending.{Ending}
use Rattle.relay.specs.declared.Ending.TheVariants.{Complete, Closed, Failed, Refused}

-- a write that leaves a complete ending is complete
pub written : (next : Next) → ending_of next ≡ Complete → next ≡ Next.Complete
written Next.Go e = cc
written Next.Wait e = cc
written Next.Complete e = refl
written Next.Closed e = cc
written Next.Failed e = cc
written Next.Stuck e = cc

ended : (last : Reading) (next : Next) → ending_of (last_of last next) ≡ Complete → (last ≡ Reading.End) × (next ≡ Next.Complete)
ended (Reading.Bytes n) next e = cc
ended Reading.End next e = (refl, written next e)
ended Reading.Again next e = cc
ended Reading.Wait next e = cc
ended Reading.Failed next e = cc

nonzero : (e : Ending) → status_of e ≡ 0 → e ≡ Complete
nonzero Complete h = refl
nonzero Closed h = absurd (omega (arith, h))
nonzero Failed h = absurd (omega (arith, h))
nonzero Refused h = absurd (omega (arith, h))

pub completed : Completed
completed = record { only = ended; complete = refl; zero = refl; not_zero = nonzero }

-- no write leaves a refusal
pub not_refused : (next : Next) → ending_of next ≡ Refused → ⊥
not_refused Next.Go e = cc
not_refused Next.Wait e = cc
not_refused Next.Complete e = cc
not_refused Next.Closed e = cc
not_refused Next.Failed e = cc
not_refused Next.Stuck e = cc
