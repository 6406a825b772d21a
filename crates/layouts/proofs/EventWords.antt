-- The words in the control registers, as numbers: a use of the plan is at its counter (`word-of`), and counters differ. Assumes nothing.
--     enabling-is   the bits that every event word of a session has, in numbers
use Rattle.std.specs.Prelude.{Option, None, Some}
use mathlib.Core.Path.{◌≡◌, refl, sym, ap, subst, ◌∙◌}
use mathlib.Core.Logic.{◌≢◌, ⊎_elim}
use mathlib.Core.Bool.{Bool, true, false}
use mathlib.Core.List.{List, [], ◌∷◌, ◌++◌, map, Memᴰ}
use Prim.Native.Nat.{ℕ, zero, suc, ◌+◌, ◌*◌, ◌<◌}
use native.Mathlib.Omega.{arith}
use borrow.Author.Tests.{eq-eqb, ne_eqb}
use Rattle.requests.specs.declared.Device.{Device}
use Rattle.requests.specs.declared.Device.TheVariants.{G, S, C, B}
use Rattle.requests.specs.declared.Setup.{Setup}
use Rattle.requests.specs.declared.Request.{Request}
use Rattle.requests.specs.declared.Request.TheVariants.{Event, Packet, Offcore, Latency}
use Rattle.requests.specs.Askings.{overflow_on, core_given, asks, asked}
use Rattle.requests.specs.Choice.{both, either, pick}
use Rattle.requests.specs.Bits.{in_list}
use Rattle.requests.proofs.BitMembers.{in_member, member_in}
use Rattle.plans.specs.declared.Place.{Place}
use Rattle.plans.specs.declared.Place.TheVariants.{Counter, WithRsp, Pair}
use Rattle.plans.specs.Lists.{Pairwise, add}
use Rattle.plans.specs.Places.{first, second}
use Rattle.plans.specs.Legal.{Legal, of_all, counters}
use Rattle.plans.specs.LegalInWords.{Nth, here, later, Takes, InSet, counters_on}
use Rattle.plans.proofs.LegalInWordsHolds.{takes_nth, count_is, in_has}
use Rattle.layouts.specs.Layout.{layout_of, control_at, enabled_on, pmi_enable, enabled, event_word, offcore_code, rsp_mask, rsp_word, packet_word}
use Rattle.layouts.specs.Settings.{uses_of, word_at}
use Rattle.layouts.specs.Writes.{writes, apply}
use Rattle.layouts.specs.EventWords.{enabling, enabling_of, control_of, Counting, EventWords}
use Rattle.layouts.proofs.Counts.{counter_of}
use Rattle.layouts.proofs.ListLaws.{all_member}
use Rattle.layouts.proofs.PlanWords.{uses_in, uses_counters, control_left}

pub enabling_is : (s : Setup) → enabled s ≡ enabling_of s
unfolding enabled enabled_on asked overflow_on asks core_given pmi_enable both either
enabling_is s = go s.device s.overflow.freeze s.overflow.core
  where
    go : (d : Device) (f : ℕ) (c : Option ℕ) → enabled_on d + pick (both (overflow_on d) (asks (record { freeze = f; core = c }))) 0x100000 0 ≡ enabling d f c
    go G f c = refl
    go S zero None = refl
    go S zero (Some c) = refl
    go S (suc f) c = rw (ne_eqb (suc f) 0 (λ e. omega arith))
    go (C b) zero None = refl
    go (C b) zero (Some c) = refl
    go (C b) (suc f) c = rw (ne_eqb (suc f) 0 (λ e. omega arith))
    go B f c = refl

pub word_is : (s : Setup) (c m : ℕ) → event_word s c m ≡ enabling_of s + 0x100 * m + c
unfolding event_word
word_is s c m = ap (λ (x : ℕ). x + 0x100 * m + c) (enabling_is s)

control_is : (d : Device) (k : ℕ) → control_of d k ≡ control_at d k
unfolding control_at layout_of
control_is G k = omega arith
control_is S k = refl
control_is (C b) k = refl
control_is B k = omega arith

module _ (s : Setup) where
  own_uses : (r : Request) (p : Place) (k c m : ℕ) → Counting r p k c m → Memᴰ (k, event_word s c m) (uses_of s r p)
  unfolding uses_of first second rsp_word packet_word offcore_code rsp_mask
  own_uses (Event d n a) (Counter j) k c m h = mathlib.Core.List.Memᴰ.head (λ i. (sym h.0 i, event_word s (h.1 i) (h.2 i)))
  own_uses (Packet x y a) (Counter j) k c m h = mathlib.Core.List.Memᴰ.head (λ i. (sym h.0 i, event_word s (h.1 i) (h.2 i)))
  own_uses (Offcore w a) (WithRsp j i) k c m h =
      ⊎_elim
      (λ e. rw e.0 (mathlib.Core.List.Memᴰ.head (λ x. (sym h.0 x, event_word s (h.1 x) (e.1 x)))))
      (λ e. rw e.0 (mathlib.Core.List.Memᴰ.head (λ x. (sym h.0 x, event_word s (h.1 x) (e.1 x)))))
      h.2
  own_uses (Latency t a b) (Pair i j) k c m h =
      ⊎_elim
      (λ e. mathlib.Core.List.Memᴰ.head (λ x. (sym e.0 x, event_word s (h.0 x) (e.1 x))))
      (λ e. mathlib.Core.List.Memᴰ.tail (mathlib.Core.List.Memᴰ.head (λ x. (sym e.0 x, event_word s (h.0 x) (e.1 x)))))
      h.1
  own_uses (Event d n a) (WithRsp j i) k c m h = elim h [ ]
  own_uses (Event d n a) (Pair i j) k c m h = elim h [ ]
  own_uses (Packet x y a) (WithRsp j i) k c m h = elim h [ ]
  own_uses (Packet x y a) (Pair i j) k c m h = elim h [ ]
  own_uses (Offcore w a) (Counter j) k c m h = elim h [ ]
  own_uses (Offcore w a) (Pair i j) k c m h = elim h [ ]
  own_uses (Latency t a b) (Counter j) k c m h = elim h [ ]
  own_uses (Latency t a b) (WithRsp j i) k c m h = elim h [ ]

  uses_at : {r : Request} {p : Place} {n : ℕ} {rs : List Request} {ps : List Place} (k c m : ℕ) → Nth r p n rs ps → Counting r p k c m → Memᴰ (k, event_word s c m) (uses_in s rs ps)
  unfolding of_all
  uses_at {r = r} {p = p} k c m (here {rs = rs} {ps = ps}) h = mathlib.Core.List.Memᴰ.append_left (uses_in s rs ps) (own_uses r p k c m h)
  uses_at k c m (later {x = x} {y = y} g) h = mathlib.Core.List.Memᴰ.append_right (uses_of s x y) (uses_at k c m g h)

-- where counters differ, a use's word is that of its counter
word_of : (us : List (ℕ × ℕ)) (k w : ℕ) → Pairwise ◌≢◌ (map counter_of us) → Memᴰ (k, w) us → word_at us k ≡ w
unfolding word_at
word_of (u ∷ us) k w d (mathlib.Core.List.Memᴰ.head e) = rw (eq-eqb u.0 k (sym (ap (λ (x : ℕ × ℕ). x.0) e))) (sym (ap (λ (x : ℕ × ℕ). x.1) e))
word_of (u ∷ us) k w (add h hs) (mathlib.Core.List.Memᴰ.tail m) =
    rw (ne_eqb u.0 k (all_member {P = λ (j : ℕ). u.0 ≢ j} h (mathlib.Core.List.Memᴰ.map counter_of m))) (word_of us k w hs m)
word_of [] k w d x'' = elim x'' [ ]

module _ (s : Setup) (rs : List Request) (ps : List Place) (legal : Legal s rs ps) (registers : ℕ → ℕ) where
  used : (n k c m : ℕ) (r : Request) (p : Place) → Nth r p n rs ps → Counting r p k c m
      → apply (writes s rs ps) registers (control_of s.device k) ≡ enabling_of s + 0x100 * m + c
  used n k c m r p at h =
      let there = uses_at s k c m at h in
      let same = uses_counters s legal.allowed in
      let counter : Memᴰ k (counters ps) = subst (λ (l : List ℕ). Memᴰ k l) same (mathlib.Core.List.Memᴰ.map counter_of there) in
      ap (apply (writes s rs ps) registers) (control_is s.device k)
      ∙ control_left s rs ps registers k (all_member legal.usable_only counter).0
      ∙ rw (member_in (counters ps) k counter) (word_of (uses_in s rs ps) k (event_word s c m) (subst (λ (l : List ℕ). Pairwise ◌≢◌ l) (sym same) legal.differ) there)
      ∙ word_is s c m

  unused : (k : ℕ) → k < counters_on s.device → InSet s.usable k → ((n : ℕ) (r : Request) (p : Place) → Nth r p n rs ps → ¬ Takes p k)
      → apply (writes s rs ps) registers (control_of s.device k) ≡ 0
  unused k l usable none =
      ap (apply (writes s rs ps) registers) (control_is s.device k)
      ∙ control_left s rs ps registers k (subst (λ (c : ℕ). k < c) (sym (count_is s.device)) l)
      ∙ rw (in_has s.usable k usable) (go (in_list (counters ps) k) refl)
    where
      go : (b : Bool) → in_list (counters ps) k ≡ b → pick b (word_at (uses_in s rs ps) k) 0 ≡ 0
      go true e = let t = takes_nth legal.allowed (in_member (counters ps) k e) in absurd (none t.number t.request t.place t.nth t.takes)
      go false e = refl

pub event_words : EventWords
event_words = record { used = used; unused = unused }
