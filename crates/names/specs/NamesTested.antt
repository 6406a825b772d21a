-- Document 02, order 9: "Names are 1 to 40 bytes of upper-case letters, digits and underscore": the test says so, both ways.
use Rattle.std.specs.Prelude.{◌≡◌, true, List, ℕ}
use Rattle.names.specs.EventNames.{is_name, IsName}

pub record NamesTested : Type 0 where
  pub passed : (name : List ℕ) → is_name name ≡ true → IsName name
  pub passes : (name : List ℕ) → IsName name → is_name name ≡ true
