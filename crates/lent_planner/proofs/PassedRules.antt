-- The rules of the records, tested against those passed over instead of those to come. Assumes nothing.
--     after-is    so tested, they are the same rules
use mathlib.Core.Path.{◌≡◌, refl, ap, sym, ◌∙◌}
use mathlib.Core.List.{List, [], ◌∷◌}
use mathlib.Core.Bool.{Bool, true, false, not, false≢true, true≢false}
use Prim.Native.Nat.{ℕ}
use lib.Dec.{eqb}
use borrow.Author.Tests.{eqb-true, eq-eqb, ne_eqb, not-true}
use Rattle.requests.specs.declared.Setup.{Setup}
use Rattle.requests.specs.declared.Entry.{Entry}
use Rattle.requests.specs.Choice.{both, either}
use Rattle.requests.proofs.Tests.{both_parts, true_both, either_parts, either_right, either_left}
use Rattle.sessions.specs.Calls.{waits}
use Rattle.sessions.specs.RefusalTable.{IsId}
use Rattle.lent_sessions.specs.Records.{all_vacant, may_wait, kept_rules}
use Rattle.lent_sessions.proofs.RowRules.{kept_vacant, kept_waiting, kept_none, vacant_waits, may_id}

unfoldable pub kept_after : Setup → List Entry → List Entry → Bool
kept_after s seen [] = true
kept_after s seen (e ∷ es) =
    elim (eqb e.id 0) [
      | true ↦ all_vacant (e ∷ es)
      | false ↦ both (may_wait s e) (both (not (waits e.id seen)) (kept_after s (e ∷ seen) es))
    ]

pub after_vacant : (s : Setup) (seen : List Entry) (e : Entry) (es : List Entry) → eqb e.id 0 ≡ true → kept_after s seen (e ∷ es) ≡ all_vacant (e ∷ es)
unfolding kept_after
after_vacant s seen e es h = rw (h, kept_after)

pub after_waiting : (s : Setup) (seen : List Entry) (e : Entry) (es : List Entry) → eqb e.id 0 ≡ false
    → kept_after s seen (e ∷ es) ≡ both (may_wait s e) (both (not (waits e.id seen)) (kept_after s (e ∷ seen) es))
unfolding kept_after
after_waiting s seen e es h = rw (h, kept_after)

pub after_none : (s : Setup) (seen : List Entry) → kept_after s seen [] ≡ true
unfolding kept_after
after_none s seen = refl

-- no id passed over is met again
abbrev Apart : List Entry → List Entry → Type 0
Apart seen rows = (i : ℕ) → IsId i → waits i seen ≡ true → waits i rows ≡ false

pub waits_next : (i : ℕ) (e : Entry) (es : List Entry) → waits i (e ∷ es) ≡ either (eqb i e.id) (waits i es)
unfolding waits
waits_next i e es = refl

pub waits_nothing : (i : ℕ) → waits i [] ≡ false
unfolding waits
waits_nothing i = refl

-- the id in front waits
pub waits_front : (i : ℕ) (e : Entry) (es : List Entry) → i ≡ e.id → waits i (e ∷ es) ≡ true
waits_front i e es h = waits_next i e es ∙ either_left (eqb i e.id) (waits i es) (eq-eqb i e.id h)

waits_behind : (i : ℕ) (e : Entry) (es : List Entry) → waits i es ≡ true → waits i (e ∷ es) ≡ true
waits_behind i e es h = waits_next i e es ∙ either_right (eqb i e.id) (waits i es) h

pub not_waits_both : (i : ℕ) (e : Entry) (es : List Entry) → waits i (e ∷ es) ≡ false → (eqb i e.id ≡ false) × (waits i es ≡ false)
not_waits_both i e es h = either_parts (eqb i e.id) (waits i es) (sym (waits_next i e es) ∙ h)

pub both_not : (i : ℕ) (e : Entry) (es : List Entry) → eqb i e.id ≡ false → waits i es ≡ false → waits i (e ∷ es) ≡ false
unfolding either
both_not i e es h g = waits_next i e es ∙ rw (h, g)

pub either_second : (a b : Bool) → a ≡ false → either a b ≡ b
unfolding either
either_second a b h = rw h

pub after_kept : (s : Setup) (seen rows : List Entry) → kept_after s seen rows ≡ true → (kept_rules s rows ≡ true) × Apart seen rows
after_kept s seen [] h = (kept_none s, λ i is w. waits_nothing i)
after_kept s seen (e ∷ es) h = go (eqb e.id 0) refl (after_kept s (e ∷ seen) es)
  where
    go : (b : Bool) → eqb e.id 0 ≡ b → (kept_after s (e ∷ seen) es ≡ true → (kept_rules s es ≡ true) × Apart (e ∷ seen) es) → (kept_rules s (e ∷ es) ≡ true) × Apart seen (e ∷ es)
    go true k below =
        let v : all_vacant (e ∷ es) ≡ true = sym (after_vacant s seen e es k) ∙ h in
        (kept_vacant s e es k ∙ v, λ i is w. vacant_waits i (e ∷ es) is v)
    go false k below =
        let t = both_parts (may_wait s e) _ (sym (after_waiting s seen e es k) ∙ h) in
        let u = both_parts (not (waits e.id seen)) (kept_after s (e ∷ seen) es) t.1 in
        let unseen : waits e.id seen ≡ false = not-true (waits e.id seen) u.0 in
        let rest = below u.1 in
        let alone : waits e.id es ≡ false = rest.1 e.id (may_id s e t.0) (waits_front e.id e seen refl) in (
          kept_waiting s e es k ∙ true_both (may_wait s e) _ t.0 (true_both (not (waits e.id es)) (kept_rules s es) (ap not alone) rest.0),
          λ i is w. both_not i e es (ne_eqb i e.id (λ same. false≢true (sym unseen ∙ ap (λ (x : ℕ). waits x seen) (sym same) ∙ w))) (rest.1 i is (waits_behind i e seen w)),
        )

kept_after_lem : (s : Setup) (seen rows : List Entry) → kept_rules s rows ≡ true → Apart seen rows → kept_after s seen rows ≡ true
kept_after_lem s seen [] h apart = after_none s seen
kept_after_lem s seen (e ∷ es) h apart = go (eqb e.id 0) refl (kept_after_lem s (e ∷ seen) es)
  where
    go : (b : Bool) → eqb e.id 0 ≡ b → (kept_rules s es ≡ true → Apart (e ∷ seen) es → kept_after s (e ∷ seen) es ≡ true) → kept_after s seen (e ∷ es) ≡ true
    go true k below = after_vacant s seen e es k ∙ sym (kept_vacant s e es k) ∙ h
    go false k below =
        let t = both_parts (may_wait s e) _ (sym (kept_waiting s e es k) ∙ h) in
        let u = both_parts (not (waits e.id es)) (kept_rules s es) t.1 in
        let alone : waits e.id es ≡ false = not-true (waits e.id es) u.0 in
        let is_id : IsId e.id = may_id s e t.0 in
        let unseen : waits e.id seen ≡ false = not_seen (waits e.id seen) refl is_id in
        after_waiting s seen e es k
        ∙ true_both (may_wait s e) _ t.0 (true_both (not (waits e.id seen)) _ (ap not unseen) (below u.1 (later alone)))
      where
        not_seen : (b : Bool) → waits e.id seen ≡ b → IsId e.id → waits e.id seen ≡ false
        not_seen false w is_id = w
        not_seen true w is_id = absurd (true≢false (sym (waits_front e.id e es refl) ∙ apart e.id is_id w))

        later : waits e.id es ≡ false → Apart (e ∷ seen) es
        later alone i is w = which (eqb i e.id) refl
          where
            which : (b : Bool) → eqb i e.id ≡ b → waits i es ≡ false
            which true same = ap (λ (x : ℕ). waits x es) (eqb-true i e.id same) ∙ alone
            which false other = (not_waits_both i e es (apart i is (sym (either_second (eqb i e.id) (waits i seen) other) ∙ sym (waits_next i e seen) ∙ w))).1

pub after_is : (s : Setup) (rows : List Entry) → kept_after s [] rows ≡ kept_rules s rows
after_is s rows = go (kept_rules s rows) refl
  where
    none_apart : Apart [] rows
    none_apart i is w = absurd (false≢true (sym (waits_nothing i) ∙ w))

    go : (b : Bool) → kept_rules s rows ≡ b → kept_after s [] rows ≡ b
    go true h = kept_after_lem s [] rows h none_apart
    go false h = other (kept_after s [] rows) refl
      where
        other : (b : Bool) → kept_after s [] rows ≡ b → b ≡ false
        other true k = absurd (true≢false (sym (after_kept s [] rows k).0 ∙ h))
        other false k = refl
