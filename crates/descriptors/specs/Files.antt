-- What reading a file whole comes to.
use Rattle.std.specs.Prelude.{List, ℕ, ◌≤◌, length, Result, Ok, Err}
use Rattle.descriptors.specs.declared.Reading.{Reading}
use Rattle.descriptors.specs.declared.Reading.TheVariants.{Bytes, End, Again, Wait, Failed}
use Rattle.descriptors.specs.declared.Unread.{Unread}

-- by the last read, which follows so many bytes that are in the room: it has no more, more than there is room for, or is not known
abbrev pub file_after : Reading → ℕ → Result ℕ Unread
file_after (Bytes n) done = Err Unread.TooLong
file_after End done = Ok done
file_after Again done = Err Unread.Failed
file_after Wait done = Err Unread.Failed
file_after Failed done = Err Unread.Failed

-- the bytes of a file that is read lie in the room
abbrev pub FileWithin : List ℕ → Result ℕ Unread → Type 0
FileWithin room (Ok n) = n ≤ length room
FileWithin room (Err unread) = Unit {0}
