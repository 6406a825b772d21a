use mathlib.Core.Path.{◌≡◌, refl, sym, ◌∙◌}
use mathlib.Core.Bool.{Bool, true, false}
use mathlib.Core.List.{List, [], ◌∷◌}
use Prim.Native.Nat.{ℕ}
use lib.Dec.{eqb}
use borrow.Author.Tests.{tests}
use Rattle.std.proofs.Common.{Option, None, Some, rules}
use Rattle.std.specs.List.{find}
use Rattle.std.specs.Option.{option_map}
use Rattle.std.proofs.lemmas.Iterator.{YieldsList-from_slice}
use Rattle.std.proofs.lemmas.Iterator.Consumers.{YieldsList-from_copied}
use Rattle.std.proofs.lemmas.Iterator.Search.{find_from_yields_List}
use Rattle.requests.specs.Devices.{letter_of, devices, named, device_of}
use Rattle.requests.specs.declared.Device.{Device}
use Rattle.checks.proofs.devices.device_of.Goals as goal

-- the device that a list names is the first with the letter
first_named : (ds : List Device) (n : ℕ) → find (λ d. eqb n (letter_of d)) ds ≡ named ds n
unfolding named
first_named [] n = refl
first_named (d ∷ ds) n = go (eqb n (letter_of d)) refl (first_named ds n)
  where
    go : (b : Bool) → eqb n (letter_of d) ≡ b → find (λ x. eqb n (letter_of x)) ds ≡ named ds n → find (λ x. eqb n (letter_of x)) (d ∷ ds) ≡ named (d ∷ ds) n
    go true e rest = rw (e, named, find) refl
    go false e rest = rw (e, named, find) rest

same : (r : Option Device) → option_map (λ d. d) r ≡ r
same None = refl
same (Some d) = refl

pub returns : goal.returns
unfolding device_of
returns c =
    let letter = c.args.letter in
    sym (same _)
    ∙ find_from_yields_List (λ d. eqb letter (letter_of d)) _ _ _ c.find.ensures.ran
    (YieldsList-from_copied (YieldsList-from_slice (devices c.args.cbox) cc))
    (λ x b q k. search (rules, tests))
    ∙ first_named _ letter
