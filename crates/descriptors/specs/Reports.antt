-- A text is complete exactly where calls of `write` have reported all of its bytes written.
use Rattle.std.specs.Prelude.{◌≡◌, ℕ, ◌≤◌}
use Rattle.descriptors.specs.Writes.{Reached}
use Rattle.descriptors.specs.declared.Next.TheVariants.{Complete}
use Rattle.descriptors.specs.declared.Writing.{Writing}

pub record Reports : Type 0 where
  pub within : (n : ℕ) (w : Writing) → Reached n w → w.done ≤ n
  pub complete : (n : ℕ) (w : Writing) → Reached n w → w.next ≡ Complete → w.done ≡ n
  pub whole : (n : ℕ) (w : Writing) → Reached n w → w.done ≡ n → w.next ≡ Complete
