-- A file is read whole where its last read came to the end, by the cases of that read. Assumes nothing.
use mathlib.Core.Path.{◌≡◌, refl}
use Prim.Native.Nat.{ℕ}
use Rattle.std.specs.Prelude.{Ok}
use Rattle.descriptors.specs.Files.{file_after}
use Rattle.descriptors.specs.WholeFiles.{WholeFiles}
use Rattle.descriptors.specs.declared.Reading.{Reading}
use Rattle.descriptors.specs.declared.Reading.TheVariants.{Bytes, End, Again, Wait, Failed}

read_whole : (last : Reading) (done n : ℕ) → file_after last done ≡ Ok n → (last ≡ End) × (n ≡ done)
read_whole (Bytes k) done n e = cc
read_whole End done n e = (refl, cc)
read_whole Again done n e = cc
read_whole Wait done n e = cc
read_whole Failed done n e = cc

pub whole_files : WholeFiles
whole_files = record { read = read_whole; ended = λ done. refl; longer = λ n done. refl }
