-- How far a choice has gone through the records. Assumes nothing.
use mathlib.Core.Path.{◌≡◌, ap, sym, subst, ◌∙◌}
use mathlib.Core.List.{List, [], ◌∷◌, ◌++◌, append-nil, append_assoc}
use Prim.Native.Nat.{ℕ, suc, ◌+◌, ◌≤◌, ◌<◌}
use native.Mathlib.Omega.{arith}
use lib.ListN.{length, take, drop, get_or, drop_of_length-le}
use lib.Seq.{take-suc, length-take-le}
use borrow.Author.Tests.{eq-eqb, ne_eqb}
use Rattle.requests.specs.declared.Setup.{Setup}
use Rattle.requests.specs.declared.Entry.{Entry}
use Rattle.sessions.specs.Sessions.{vacant}
use Rattle.lent_sessions.specs.Records.{standing}
use Rattle.lent_planner.specs.Choices.{HasChosen, Chose}
use Rattle.lent_planner.specs.declared.Choice.{Choice}
use Rattle.lent_sessions.proofs.RowRules.{standing_vacant, standing_waiting, standing_none}
use Rattle.lent_planner.proofs.ChoiceLaws.{chosen_full}
use Rattle.lent_planner.proofs.Drops.{drop_next}

module _ (s : Setup) (ys : List Entry) where
  -- all records before i wait, and have been gone through
  pub record Far (i : ℕ) (t : Choice) : Type 0 where
    pub chosen : HasChosen s (take i ys) t
    pub split : standing ys ≡ take i ys ++ standing (drop i ys)

  -- the choice is whole where nothing waits from record i on
  whole : (i : ℕ) (t : Choice) → Far i t → standing (drop i ys) ≡ [] → HasChosen s (standing ys) t
  whole i t f none =
      let all : standing ys ≡ take i ys = f.split ∙ ap (λ (r : List Entry). take i ys ++ r) none ∙ append-nil (take i ys) in
      subst (λ (q : List Entry). HasChosen s q t) (sym all) f.chosen

  pub far_end : (i : ℕ) (t : Choice) → Far i t → length ys ≤ i → HasChosen s (standing ys) t
  far_end i t f l = whole i t f (ap standing (drop_of_length-le ys l) ∙ standing_none)

  pub far_full : (i : ℕ) (t : Choice) → Far i t → t.usable ≤ t.count → HasChosen s (standing ys) t
  far_full i t f l =
      subst (λ (q : List Entry). HasChosen s q t) (sym f.split) (chosen_full f.chosen (rw f.chosen.usable at l) (standing (drop i ys)))

  module _ (i : ℕ) (t : Choice) (f : Far i t) (inside : i < length ys) where
    abbrev x : Entry
    x = get_or ys i vacant

    from_here : drop i ys ≡ x ∷ drop (i + 1) ys
    from_here = drop_next vacant ys i inside

    pub far_vacant : x.id ≡ 0 → HasChosen s (standing ys) t
    far_vacant z = whole i t f (ap standing from_here ∙ standing_vacant x (drop (i + 1) ys) (eq-eqb x.id 0 z))

    one_more : take (i + 1) ys ≡ take i ys ++ x ∷ []
    one_more = ap (λ (k : ℕ). take k ys) (next i) ∙ take-suc ys i vacant inside
      where
        next : (k : ℕ) → k + 1 ≡ suc k
        next k = omega arith

    pub far_next : (r : Choice) → (x.id ≡ 0 → ⊥) → Chose t i x r → Far (i + 1) r
    far_next r n step =
        record {
          chosen = subst (λ (q : List Entry). HasChosen s q r) (sym one_more) (step s (take i ys) f.chosen (length-take-le i ys (omega arith)));
          split =
              f.split ∙ ap (λ (l : List Entry). take i ys ++ standing l) from_here
              ∙ ap (λ (l : List Entry). take i ys ++ l) (standing_waiting x (drop (i + 1) ys) (ne_eqb x.id 0 n))
              ∙ sym (append_assoc (take i ys) (x ∷ []) (standing (drop (i + 1) ys)))
              ∙ ap (λ (l : List Entry). l ++ standing (drop (i + 1) ys)) (sym one_more);
        }
