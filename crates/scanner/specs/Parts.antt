-- Where the fields of a text end.
use Rattle.std.specs.Prelude.{◌≡◌, List, [], ◌∷◌, ℕ, zero, suc, ◌<◌, length, get_or, eqb}
use Rattle.requests.specs.Choice.{pick}
use Rattle.grammar.specs.Text.{tab}
use Rattle.grammar.specs.Fields.{fields}

-- the place where field k ends: at tab k, counted from 0, or at the end of the text where it has no such tab
unfoldable pub end_of : List ℕ → ℕ → ℕ
end_of [] k = 0
end_of (b ∷ bs) k = pick (eqb b tab) (elim k [ zero ↦ 0 | suc j ↦ suc (end_of bs j) ]) (suc (end_of bs k))

-- the ends are those of the text's fields, and the count is theirs
pub record Parted (text ends : List ℕ) (count : ℕ) : Type 0 where
  pub counted : count ≡ length (fields text)
  pub placed : (k : ℕ) → k < 8 → get_or ends k 0 ≡ end_of text k
