use native.Mathlib.Nat.{le_refl}
use Rattle.layouts.specs.Layout.{cbox_global, cbox_globals}
use Rattle.registers.proofs.tables.cbox_global.Goals as goal

pub returns : goal.returns
unfolding cbox_global cbox_globals
returns c = rw (c.unwrap_or.ensures, c.copied.ensures) (c.get.ensures.lookup.4 (le_refl _) 0x0D00)
