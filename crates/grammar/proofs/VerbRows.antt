-- The record of a text by the first verb that it has. Assumes nothing.
use Rattle.std.specs.Prelude.{None, Some, Err}
use mathlib.Core.Path.{◌≡◌}
use mathlib.Core.Bool.{Bool}
use mathlib.Core.List.{List}
use Prim.Native.Nat.{ℕ}
use lib.ListN.{drop}
use Rattle.requests.specs.Choice.{first_holding}
use Rattle.grammar.specs.Verbs.{verbs, record_of}
use Rattle.grammar.specs.Parsed.{Parsed}

-- the first k verbs may be passed over
abbrev pub Past : List ℕ → ℕ → Type 0
Past text k = first_holding (verbs text) ≡ first_holding (drop k (verbs text))

module _ (text : List ℕ) (closed : Bool) where
  -- the text is read as its verb says
  pub read_by : (read : List ℕ → Bool → Parsed) → first_holding (verbs text) ≡ Some read → record_of text closed ≡ read text closed
  unfolding record_of
  read_by read e = rw (e, record_of)

  -- it has no verb
  pub no_verb : first_holding (verbs text) ≡ None → record_of text closed ≡ Err 0
  unfolding record_of
  no_verb e = rw (e, record_of)
