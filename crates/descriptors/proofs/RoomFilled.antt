-- Reads into the rest of a room: the room keeps its length, and all that is read lies in it. Assumes nothing.
use mathlib.Core.List.{List}
use mathlib.Core.Path.{◌≡◌}
use Prim.Native.Nat.{ℕ, ◌+◌, ◌-◌, ◌≤◌, ◌<◌}
use native.Mathlib.Omega.{arith}
use lib.ListN.{length, drop, length-drop}
use lib.Seq.{length-take-le}
use borrow.Rule.Slice.PartMut.{mid_of, put_mid, same_len_mid}
use Rattle.descriptors.specs.Reads.{bytes_read, ReadWithin}
use Rattle.descriptors.specs.Files.{file_after, FileWithin}
use Rattle.descriptors.specs.declared.Reading.{Reading}
use Rattle.descriptors.specs.declared.Reading.TheVariants.{Bytes, End, Again, Wait, Failed}
use Rattle.descriptors.proofs.CallAnswers.{bytes_within}

-- a room that is not full has a byte left
pub room_left : (room : List ℕ) (done : ℕ) → done < length room → 0 < length (mid_of done (length room - done) room)
room_left room done more = omega (arith, more, length-take-le (length room - done) (drop done room) (omega (arith, length-drop done room)))

module _ (room : List ℕ) (done : ℕ) (few : done ≤ length room) (part : List ℕ) (kept : length part ≡ length (mid_of done (length room - done) room)) where
  -- the room with what was read in the place of its rest
  pub room_kept : length (put_mid done (length room - done) room part) ≡ length room
  room_kept = same_len_mid done (length room - done) room part kept

  -- what was read lies in it
  pub read_on : (reading : Reading) → ReadWithin part reading → done + bytes_read reading ≤ length room
  read_on reading within =
      omega (arith, few, kept, bytes_within part reading within, length-take-le (length room - done) (drop done room) (omega (arith, length-drop done room)))

-- and so does a file, whatever the last read is
pub file_within : (room : List ℕ) (done : ℕ) (last : Reading) → done ≤ length room → FileWithin room (file_after last done)
file_within room done (Bytes n) few = tt
file_within room done End few = few
file_within room done Again few = tt
file_within room done Wait few = tt
file_within room done Failed few = tt
