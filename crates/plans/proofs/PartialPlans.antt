-- A legal plan with some requests and their places left out is legal: each list that `Legal` speaks of becomes a part of itself. Assumes nothing.
use mathlib.Core.Path.{◌≡◌, ap, sym, subst, ◌∙◌}
use mathlib.Core.List.Sublistᴰ
use mathlib.Core.List.{List, [], ◌∷◌, flat_map, Sublistᴰ, Memᴰ}
use Prim.Native.Nat.{ℕ}
use Rattle.requests.specs.declared.Setup.{Setup}
use Rattle.requests.specs.declared.Request.{Request}
use Rattle.plans.specs.declared.Place.{Place}
use Rattle.plans.specs.Lists.{Each, none, and}
use Rattle.plans.specs.Places.{counters_of}
use Rattle.plans.specs.Legal.{words_of, packets_of, of_all, counters, HasPlan}
use Rattle.plans.proofs.Sublists.{all_part, pairwise_part, one_value_part, back_part}

-- the places os of the requests qs, each in the relation R to its request, ask for a part of what the places ps of the requests rs ask for
record PartOf (R : Request → Place → Type 0) (rs : List Request) (ps : List Place) (qs : List Request) (os : List Place) : Type 0 where
  each : Each R qs os
  counters_part : Sublistᴰ (counters os) (counters ps)
  words_part : (i : ℕ) → Sublistᴰ (of_all (words_of i) qs os) (of_all (words_of i) rs ps)
  packets_part : Sublistᴰ (flat_map packets_of qs) (flat_map packets_of rs)

-- the places of the requests that are kept
kept : {R : Request → Place → Type 0} {qs rs : List Request} {ps : List Place} → Sublistᴰ qs rs → Each R rs ps → (os : List Place) × PartOf R rs ps qs os
unfolding counters of_all flat_map
kept Sublistᴰ.slnil none =
    ([], record { each = none; counters_part = Sublistᴰ.slnil; words_part = λ i. Sublistᴰ.slnil; packets_part = Sublistᴰ.slnil })
kept (Sublistᴰ.cons {a = r} d) (and {b = p} c cs) =
    let k = kept d cs in (
      k.0,
      record {
        each = k.1.each;
        counters_part = back_part (counters_of p) k.1.counters_part;
        words_part = λ i. back_part (words_of i r p) (k.1.words_part i);
        packets_part = back_part (packets_of r) k.1.packets_part;
      },
    )
kept {R = R} (Sublistᴰ.cons-cons {a = q} {b = r} e d) (and {b = p} c cs) =
    let k = kept d cs in (
      p ∷ k.0,
      record {
        each = and (subst (λ (x : Request). R x p) (sym e) c) k.1.each;
        counters_part = Sublistᴰ.append (Sublistᴰ.refl (counters_of p)) k.1.counters_part;
        words_part = λ i. Sublistᴰ.append (subst (λ (x : Request). Sublistᴰ (words_of i q p) (words_of i x p)) e (Sublistᴰ.refl (words_of i q p))) (k.1.words_part i);
        packets_part = Sublistᴰ.append (subst (λ (x : Request). Sublistᴰ (packets_of q) (packets_of x)) e (Sublistᴰ.refl (packets_of q))) k.1.packets_part;
      },
    )

-- two relations at once
both_each : {R Q : Request → Place → Type 0} {rs : List Request} {ps : List Place} → Each R rs ps → Each Q rs ps → Each (λ (r : Request) (p : Place). R r p × Q r p) rs ps
both_each none none = none
both_each (and r rs) (and q qs) = and (r, q) (both_each rs qs)

each_left : {R Q : Request → Place → Type 0} {rs : List Request} {ps : List Place} → Each (λ (r : Request) (p : Place). R r p × Q r p) rs ps → Each R rs ps
each_left none = none
each_left (and h hs) = and h.0 (each_left hs)

each_right : {R Q : Request → Place → Type 0} {rs : List Request} {ps : List Place} → Each (λ (r : Request) (p : Place). R r p × Q r p) rs ps → Each Q rs ps
each_right none = none
each_right (and h hs) = and h.1 (each_right hs)

-- an element of a part is one of the whole, and the whole part where that has it alone
part_member : {r : Request} {qs rs : List Request} → Sublistᴰ qs rs → Memᴰ r qs → Memᴰ r rs
part_member Sublistᴰ.slnil m = m
part_member (Sublistᴰ.cons d) m = Memᴰ.tail (part_member d m)
part_member (Sublistᴰ.cons-cons e d) (Memᴰ.head h) = Memᴰ.head (h ∙ e)
part_member (Sublistᴰ.cons-cons e d) (Memᴰ.tail m) = Memᴰ.tail (part_member d m)

part_alone : {r : Request} {qs : List Request} → Sublistᴰ qs (r ∷ []) → Memᴰ r qs → qs ≡ r ∷ []
part_alone (Sublistᴰ.cons Sublistᴰ.slnil) m = elim m [ ]
part_alone (Sublistᴰ.cons-cons e Sublistᴰ.slnil) m = ap (λ (x : Request). x ∷ []) e

pub part_planned : (s : Setup) (qs rs : List Request) → Sublistᴰ qs rs → HasPlan s rs → HasPlan s qs
part_planned s qs rs d h =
    let l = h.1 in
    let k = kept d (both_each l.allowed l.ruled) in (
      k.0,
      record {
        differ = pairwise_part k.1.counters_part l.differ;
        usable_only = all_part k.1.counters_part l.usable_only;
        allowed = each_left k.1.each;
        one_word = λ i b. one_value_part (k.1.words_part i) (l.one_word i b);
        one_packet = one_value_part k.1.packets_part l.one_packet;
        ruled = each_right k.1.each;
        alone = λ r m lone. part_alone (subst (Sublistᴰ qs) (l.alone r (part_member d m) lone) d) m;
        quiet = λ r m lone. l.quiet r (part_member d m) lone;
      },
    )
