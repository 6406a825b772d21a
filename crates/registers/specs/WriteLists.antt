-- The write list in a slice that is lent, as the code holds it.
use Rattle.std.specs.Prelude.{◌≡◌, List, ◌+◌, ◌*◌, ◌≤◌, length}
use Rattle.layouts.specs.Writes.{Write}
use Rattle.layouts.specs.Slices.{Appended}
use Rattle.registers.specs.declared.writer.WriteList.{WriteList}

-- the slice has room for the writes
abbrev pub HasRoom : WriteList → List Write → Type 0
HasRoom l ws = l.at + 2 * length ws ≤ length l.out.now

-- the writes stand behind those that were there, in the same slice
pub record Puts (before : WriteList) (ws : List Write) (after : WriteList) : Type 0 where
  pub list : Appended before.out.now before.at ws after.out.now after.at
  pub same : after.out.ghost_name ≡ before.out.ghost_name
