-- Document 02, order 9: the text of a request by name.
use Rattle.std.specs.Prelude.{◌≡◌, List, [], ◌∷◌, ℕ}
use Rattle.requests.specs.declared.CounterSet.{CounterSet}
use Rattle.grammar.specs.Text.{bytes, decimal_text, line_of}
use Rattle.grammar.specs.Records.{Decimal}
use Rattle.grammar.specs.Grammar.{IsText}
use Rattle.grammar.specs.declared.Record.{Record}
use Rattle.names.specs.EventNames.{IsName}

-- "`named` id name allowed"
abbrev pub named_fields : ℕ → List ℕ → CounterSet → List (List ℕ)
named_fields id name a = bytes "named" ∷ decimal_text id ∷ name ∷ decimal_text a.0 ∷ []

-- its text
unfoldable pub named_text : ℕ → List ℕ → CounterSet → List ℕ
named_text id name a = line_of (named_fields id name a)

-- the numbers and the name fit their fields
abbrev pub NamedFits : ℕ → List ℕ → CounterSet → Type 0
NamedFits id name a = Decimal id × IsName name × Decimal a.0

-- the text of a request by name that fits
abbrev pub IsNamed : List ℕ → ℕ → List ℕ → CounterSet → Type 0
IsNamed line id name a = NamedFits id name a × (line ≡ named_text id name a)

-- a line that is neither a record's text nor a request by name
pub record Outside (line : List ℕ) : Type 0 where
  pub no_record : (r : Record) → ¬ IsText line r
  pub no_name : (id : ℕ) (name : List ℕ) (a : CounterSet) → ¬ IsNamed line id name a
