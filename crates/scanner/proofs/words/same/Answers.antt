use mathlib.Core.Path.{◌≡◌, refl, ◌∙◌}
use mathlib.Core.Bool.{Bool, true, false, ◌&&◌}
use mathlib.Core.List.{List, [], ◌∷◌}
use Prim.Native.Nat.{ℕ}
use lib.Dec.{eqb}
use Rattle.std.specs.Cmp.Lexicographic.{pointwise}
use Rattle.requests.specs.Choice.{pick}
use Rattle.grammar.specs.Fields.{same_bytes_lem}
use Rattle.scanner.proofs.words.same.Goals as goal

-- bytes equal pair by pair
pairwise : (a b : List ℕ) → pointwise eqb a b ≡ same_bytes_lem a b
unfolding same_bytes_lem
pairwise [] [] = refl
pairwise [] (y ∷ b) = refl
pairwise (x ∷ a) [] = refl
pairwise (x ∷ a) (y ∷ b) = rw (pairwise a b) (chosen (eqb x y) (same_bytes_lem a b))
  where
    chosen : (t s : Bool) → (t && s) ≡ pick t s false
    chosen true s = refl
    chosen false s = refl

pub returns : goal.returns
returns c = c.eq.ensures ∙ pairwise c.args.a.now c.args.b.now
