-- A line that does not have the verb `named` is read as one of the other verbs, and one that has it is no record. Assumes nothing.
use Rattle.std.specs.Prelude.{Err}
use mathlib.Core.Path.{◌≡◌, refl}
use mathlib.Core.Bool.{Bool, true, false}
use mathlib.Core.List.{List}
use Prim.Native.Nat.{ℕ}
use lib.Dec.{ltb}
use Rattle.requests.specs.declared.Device.{Device}
use Rattle.grammar.specs.Verbs.{has_verb}
use Rattle.grammar.specs.Parse.{longest, too_long_lem, parse_text, is_closed, text_length, text_of, parse_line}
use Rattle.names.specs.Lists.{NameLists}
use Rattle.parser.specs.ParseWith.{parse_text_with, parse_line_with}
use Rattle.parser.proofs.VerbsRead.{named_no_record, asked_record}

module _ (n : NameLists) (d : Device) (line : List ℕ) where
  pub other_line : has_verb (text_of line) "named" ≡ false → parse_line_with n d line ≡ parse_line line
  unfolding parse_line_with parse_text_with parse_line parse_text
  other_line e = go (ltb longest (text_length line))
    where
      go : (long : Bool) → parse_text_with n d (text_of line) (is_closed line) long ≡ parse_text (text_of line) (is_closed line) long
      go true = rw (asked_record n d (text_of line) (is_closed line) e)
      go false = asked_record n d (text_of line) (is_closed line) e

-- such a line is no record
pub fault_long : (k m : ℕ) → too_long_lem (Err k) m ≡ Err k
unfolding too_long_lem
fault_long k m = refl

pub named_not_record : (line : List ℕ) → has_verb (text_of line) "named" ≡ true → parse_line line ≡ Err 0
unfolding parse_line parse_text too_long_lem
named_not_record line e = go (ltb longest (text_length line))
  where
    go : (long : Bool) → parse_text (text_of line) (is_closed line) long ≡ Err 0
    go true = rw (named_no_record (text_of line) (is_closed line) e)
    go false = named_no_record (text_of line) (is_closed line) e

-- whether a line has the verb
pub data Verb (line : List ℕ) : Type 0 where
  named : has_verb (text_of line) "named" ≡ true → Verb line
  other : has_verb (text_of line) "named" ≡ false → Verb line

pub verb_of : (line : List ℕ) → Verb line
verb_of line = go (has_verb (text_of line) "named") refl
  where
    go : (b : Bool) → has_verb (text_of line) "named" ≡ b → Verb line
    go true e = named e
    go false e = other e
