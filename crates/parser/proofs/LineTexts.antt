-- What is read of a line: its first 80 bytes, or all of it without its newline. Assumes nothing.
use Prim.Native.Nat.{ℕ, ◌≤◌, ◌<◌, min}
use mathlib.Core.Path.{◌≡◌}
use mathlib.Core.Logic.{⊎_elim}
use mathlib.Core.List.{List}
use lib.Dec.{ltb}
use native.Mathlib.Omega.{arith}
use lib.ListN.{take, length-take}
use lib.Seq.{take-take, take_all}
use Rattle.std.proofs.lemmas.Bool.{cases_lt}
use Rattle.requests.specs.declared.Device.{Device}
use Rattle.grammar.specs.Parse.{longest, is_closed, text_length}
use Rattle.names.specs.Lists.{NameLists}
use Rattle.parser.specs.ParseWith.{parse_text_with, parse_line_with}

pub line_text : (n : NameLists) (d : Device) (l : List ℕ) (m k : ℕ) → m ≡ text_length l → k ≡ min m 80
    → parse_line_with n d l ≡ parse_text_with n d (take k l) (is_closed l) (ltb 80 m)
unfolding parse_line_with longest
line_text n d l m k e f =
    rw (← e)
    (⊎_elim
    (λ (long : 80 < m). let cut : k ≡ 80 = omega (arith, f) in rw (cut, take-take 80 m l (omega arith)))
    (λ (short : m ≤ 80). let whole : k ≡ m = omega (arith, f) in rw (whole, take_all 80 (take m l) (omega (arith, length-take m l))))
    (cases_lt 80 m))
