-- A request by name is read from its text, and from no other. Assumes nothing.
use Rattle.std.specs.Prelude.{Option, None, Some, Err}
use mathlib.Core.Path.{◌≡◌, refl, ap, ap₂, sym, ◌∙◌}
use mathlib.Core.Bool.{Bool, true, false}
use mathlib.Core.List.{List, [], ◌∷◌, ◌++◌}
use Prim.Native.Nat.{ℕ, ◌≤◌}
use native.Mathlib.Omega.{arith}
use lib.Dec.{eqb}
use lib.ListN.{length}
use borrow.Author.Tests.{eqb-true}
use Rattle.requests.specs.Choice.{both}
use Rattle.requests.specs.declared.CounterSet.{CounterSet}
use Rattle.requests.specs.declared.Device.{Device}
use Rattle.requests.proofs.Tests.{both_parts}
use Rattle.grammar.specs.Text.{bytes, tab, newline, decimal_text, line_of}
use Rattle.grammar.specs.Fields.{fields, field_at, same_bytes_lem}
use Rattle.grammar.specs.Numbers.{decimal_of}
use Rattle.grammar.specs.Verbs.{is_whole, set_of, has_verb}
use Rattle.grammar.proofs.Decimals.{decimal_reads, decimal_only}
use Rattle.grammar.proofs.Tabs as tabs
use Rattle.grammar.proofs.Texts.{decimal_plain}
use Rattle.grammar.proofs.WordLoops.{same_bytes}
use Rattle.names.specs.EventNames.{is_name}
use Rattle.names.specs.Lists.{NameLists}
use Rattle.names.proofs.GrammarHolds.{four}
use Rattle.names.proofs.NameBytes.{names_tested, name_field}
use Rattle.parser.specs.NamedText.{named_fields, named_text, NamedFits}
use Rattle.parser.specs.ParseWith.{add_named, named_line}

-- what a text says that is one
pub record Says (t : List ℕ) (id : ℕ) (name : List ℕ) (a : CounterSet) : Type 0 where
  pub fit : NamedFits id name a
  pub parts : fields t ≡ named_fields id name a

-- its text, with the newline
pub said_text : {t : List ℕ} {id : ℕ} {name : List ℕ} {a : CounterSet} → Says t id name a → t ++ newline ∷ [] ≡ named_text id name a
unfolding named_text
said_text {t} s = sym (tabs.line_of_fields t) ∙ ap line_of s.parts

-- a text that is one asks for the add, where it is closed
module _ (n : NameLists) (d : Device) (t : List ℕ) (id : ℕ) (name : List ℕ) (a : CounterSet) (s : Says t id name a) where
  pub said_verb : has_verb t "named" ≡ true
  unfolding has_verb bytes same_bytes_lem
  said_verb = rw s.parts

  pub said_line : named_line n d t true ≡ add_named n d name id a
  unfolding named_line both
  said_line = rw (s.parts, decimal_reads id s.fit.0, names_tested.passes name s.fit.1, decimal_reads a.0 s.fit.2)

-- every request by name that fits has such a text, of at most 58 bytes
pub record TextOf (id : ℕ) (name : List ℕ) (a : CounterSet) : Type 0 where
  pub text : List ℕ
  pub line : named_text id name a ≡ text ++ newline ∷ []
  pub says : Says text id name a
  pub short : length text ≤ 58

pub named_written : (id : ℕ) (name : List ℕ) (a : CounterSet) → NamedFits id name a → TextOf id name a
unfolding named_text bytes tabs.one_field_lem tabs.lacks tab newline both
named_written id name a h =
    let plain = tabs.more (decimal_plain id h.0) (tabs.more (record { field = name_field name (names_tested.passes name h.1); short = h.1.at_most_40 }) (tabs.more (decimal_plain a.0 h.2) tabs.none)) in
    let w = tabs.written _ (bytes "named") (decimal_text id ∷ name ∷ decimal_text a.0 ∷ []) refl plain in
    record { text = w.text; line = w.line; says = record { fit = h; parts = w.parts }; short = omega (arith, w.size) }

-- a text with the verb is closed and says a request by name, or has a field at fault, whatever the lists and the device
pub data Read (t : List ℕ) (closed : Bool) : Type 0 where
  says : (id : ℕ) (a : CounterSet) → closed ≡ true → Says t id (field_at t 2) a → Read t closed
  faulty : (k : ℕ) → ((n : NameLists) (d : Device) → named_line n d t closed ≡ Err k) → Read t closed

pub named_read : (t : List ℕ) (closed : Bool) → has_verb t "named" ≡ true → Read t closed
unfolding has_verb named_line
named_read t closed verb = go (decimal_of (field_at t 1)) refl (is_name (field_at t 2)) refl (decimal_of (field_at t 3)) refl (is_whole t closed 4) refl
  where
    go : (x : Option ℕ) → decimal_of (field_at t 1) ≡ x → (b : Bool) → is_name (field_at t 2) ≡ b → (y : Option ℕ) → decimal_of (field_at t 3) ≡ y
        → (w : Bool) → is_whole t closed 4 ≡ w → Read t closed
    go None p b q y r w u = faulty 1 (λ n d. rw p)
    go (Some id) p false q y r w u = faulty 2 (λ n d. rw (p, q))
    go (Some id) p true q None r w u = faulty 3 (λ n d. rw (p, q, r))
    go (Some id) p true q (Some a) r false u = faulty 4 (λ n d. rw (p, q, r, u))
    go (Some id) p true q (Some a) r true u =
        let (shut, count) = both_parts closed (eqb (length (fields t)) 4) u in
        let first = decimal_only (field_at t 1) id p in
        let last = decimal_only (field_at t 3) a r in
        let word : field_at t 0 ≡ bytes "named" = same_bytes (field_at t 0) (bytes "named") verb in
        let parts : fields t ≡ named_fields id (field_at t 2) (set_of a) =
        four (fields t) (eqb-true (length (fields t)) 4 count)
        ∙ ap₂ ◌∷◌ word (ap₂ ◌∷◌ first.1 (ap (λ (f : List ℕ). field_at t 2 ∷ f ∷ []) last.1)) in
        says id (set_of a) shut (record { fit = (first.0, names_tested.passed (field_at t 2) q, last.0); parts = parts })
