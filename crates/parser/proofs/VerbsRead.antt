-- What a text asks for, by the verb that it has. Assumes nothing.
use Rattle.std.specs.Prelude.{Ok, Err}
use mathlib.Core.Path.{◌≡◌, refl}
use mathlib.Core.Bool.{Bool, true, false}
use mathlib.Core.List.{List}
use Prim.Native.Nat.{ℕ}
use Prim.Native.String.{String}
use Rattle.requests.specs.Choice.{first_holding}
use Rattle.requests.specs.declared.CounterSet.{CounterSet}
use Rattle.requests.specs.declared.Device.{Device}
use Rattle.grammar.specs.Text.{bytes}
use Rattle.grammar.specs.Fields.{field_at, same_bytes_lem}
use Rattle.grammar.specs.Verbs.{has_verb, verbs, record_of}
use Rattle.grammar.specs.declared.Line.{Line}
use Rattle.grammar.proofs.VerbRows.{no_verb}
use Rattle.grammar.proofs.WordLoops.{same_bytes}
use Rattle.names.specs.Lists.{NameLists, lists_formed}
use Rattle.names.specs.Named.{request_named}
use Rattle.parser.specs.ParseWith.{add_named, named_line, record_with}

-- a text has one verb
pub other_verb : (t : List ℕ) (a b : String) → same_bytes_lem (bytes a) (bytes b) ≡ false → has_verb t a ≡ true → has_verb t b ≡ false
unfolding has_verb
other_verb t a b differ has = rw (same_bytes (field_at t 0) (bytes a) has) differ

-- a request by name has no other verb, and so is no record
pub named_no_record : (t : List ℕ) (closed : Bool) → has_verb t "named" ≡ true → record_of t closed ≡ Err 0
unfolding verbs first_holding same_bytes_lem bytes
named_no_record t closed has =
    no_verb t closed
    (rw (
      other_verb t "named" "open" refl has,
      other_verb t "named" "event" refl has,
      other_verb t "named" "packet" refl has,
      other_verb t "named" "offcore" refl has,
      other_verb t "named" "latency" refl has,
      other_verb t "named" "drop" refl has,
      other_verb t "named" "turn" refl has,
    ))

module _ (n : NameLists) (d : Device) (t : List ℕ) (closed : Bool) where
  -- a text with another verb, and a request by name
  pub asked_record : has_verb t "named" ≡ false → record_with n d t closed ≡ record_of t closed
  unfolding record_with
  asked_record other = rw other

  pub asked_named : has_verb t "named" ≡ true → record_with n d t closed ≡ named_line n d t closed
  unfolding record_with
  asked_named has = rw has

-- a request by name beside well-formed lists, and beside others
module _ (n : NameLists) (d : Device) (name : List ℕ) (id : ℕ) (a : CounterSet) where
  pub add_formed : lists_formed n ≡ true → add_named n d name id a ≡ Ok (Line.Named id (request_named n name d a))
  unfolding add_named
  add_formed w = rw w

  pub add_refused : lists_formed n ≡ false → add_named n d name id a ≡ Err 0
  unfolding add_named
  add_refused w = rw w
