-- What holds of each element of a list, or of each pair of them, holds in a part of the list. Assumes nothing.
use mathlib.Core.Path.{sym, subst}
use mathlib.Core.List.Sublistᴰ
use mathlib.Core.List.{List, ◌++◌, Sublistᴰ}
use Rattle.plans.specs.Lists.{All, cons, Pairwise, add, OneValue}

module _ {A : Type 0} where
  pub all_part : {P : A → Type 0} {l m : List A} → Sublistᴰ l m → All P m → All P l
  all_part Sublistᴰ.slnil h = h
  all_part (Sublistᴰ.cons d) (cons h hs) = all_part d hs
  all_part {P = P} (Sublistᴰ.cons-cons e d) (cons h hs) = cons (subst P (sym e) h) (all_part d hs)

  pub pairwise_part : {R : A → A → Type 0} {l m : List A} → Sublistᴰ l m → Pairwise R m → Pairwise R l
  pairwise_part Sublistᴰ.slnil h = h
  pairwise_part (Sublistᴰ.cons d) (add h hs) = pairwise_part d hs
  pairwise_part {R = R} (Sublistᴰ.cons-cons {l₁ = l} e d) (add h hs) = add (subst (λ (x : A). All (R x) l) (sym e) (all_part d h)) (pairwise_part d hs)

  pub one_value_part : {l m : List A} → Sublistᴰ l m → OneValue m → OneValue l
  one_value_part d h = (h.0, all_part d h.1)

  -- a part of the back is a part of the whole
  pub back_part : (front : List A) {l m : List A} → Sublistᴰ l m → Sublistᴰ l (front ++ m)
  back_part front d = Sublistᴰ.append (Sublistᴰ.nil-sublist front) d
