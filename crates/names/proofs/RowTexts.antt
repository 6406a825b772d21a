-- The text of a row that fits: its fields are read back from it, and it is one line. Assumes nothing.
use Prim.Native.Nat.{ℕ}
use mathlib.Core.Path.{◌≡◌, refl, ap, sym, ◌∙◌}
use mathlib.Core.List.{List, [], ◌∷◌, ◌++◌}
use native.Mathlib.Omega.{arith}
use lib.ListN.{length, length-append, take}
use lib.Seq.{take_at}
use Rattle.requests.specs.Devices.{letter_of}
use Rattle.grammar.specs.Text.{newline, hex_text}
use Rattle.grammar.proofs.Tabs as tabs
use Rattle.grammar.proofs.Texts.{hex_plain, letter_plain}
use Rattle.names.specs.RowGrammar.{NamedRow, RowFits}
use Rattle.names.proofs.NameBytes.{name_field, names_tested}

-- the fields of a row behind its name
abbrev pub rest : NamedRow → List (List ℕ)
rest n = (letter_of n.row.device ∷ []) ∷ hex_text 2 n.row.code ∷ hex_text 2 n.row.mask ∷ []

pub row_written : (n : NamedRow) → RowFits n → tabs.Written 8 n.name (rest n)
row_written n h =
    tabs.written 8 n.name (rest n) (name_field n.name (names_tested.passes n.name h.named))
    (tabs.more (letter_plain n.row.device)
    (tabs.more (hex_plain 2 n.row.code h.code_fits)
    (tabs.more (hex_plain 2 n.row.mask h.mask_fits) tabs.none)))

-- texts that are equal with a newline after them
pub same_before : (s t : List ℕ) → s ++ newline ∷ [] ≡ t ++ newline ∷ [] → s ≡ t
same_before s t e =
    let size : length t ≡ length s = omega (arith, simp length-append at (ap length e)) in
    sym (take_at s (newline ∷ []) (length s) refl) ∙ ap (take (length s)) e ∙ take_at t (newline ∷ []) (length s) size
