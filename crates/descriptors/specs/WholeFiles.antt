-- A file is taken for read only where a read came to its end, with the bytes before it: one that has more than the room for it is told as
-- longer, and no failure is taken for an end.
use Rattle.std.specs.Prelude.{◌≡◌, ℕ, Ok, Err}
use Rattle.descriptors.specs.Files.{file_after}
use Rattle.descriptors.specs.declared.Reading.{Reading}
use Rattle.descriptors.specs.declared.Reading.TheVariants.{Bytes, End}
use Rattle.descriptors.specs.declared.Unread.TheVariants.{TooLong}

pub record WholeFiles : Type 0 where
  pub read : (last : Reading) (done n : ℕ) → file_after last done ≡ Ok n → (last ≡ End) × (n ≡ done)
  pub ended : (done : ℕ) → file_after End done ≡ Ok done
  pub longer : (n done : ℕ) → file_after (Bytes n) done ≡ Err TooLong
