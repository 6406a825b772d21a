-- Where requests ask for more filter words than the registers hold no plan is legal: the words asked for so far are among those that a legal
-- plan's registers hold, and of three different words two registers leave one out. Assumes nothing.
use Rattle.std.specs.Prelude.{Option, None, Some}
use mathlib.Core.Path.{◌≡◌, refl, sym, ap, ◌∙◌}
use mathlib.Core.Logic.{◌≢◌, ◌⊎◌, inl, inr}
use mathlib.Core.List.{List, flat_map}
use mathlib.Core.Bool.{Bool, true, false}
use Prim.Native.Nat.{ℕ, zero, suc}
use native.Mathlib.Omega.{arith}
use lib.Dec.{eqb}
use borrow.Author.Tests.{eqb-true, eqb-false, eq-eqb}
use Rattle.requests.specs.declared.Setup.{Setup}
use Rattle.requests.specs.declared.Request.{Request}
use Rattle.requests.specs.Choice.{both, pick}
use Rattle.requests.specs.Bits.{latency_word}
use Rattle.plans.specs.declared.Asked.{Asked}
use Rattle.plans.specs.declared.Place.{Place}
use Rattle.plans.specs.Lists.{All, cons, Each, none, and}
use Rattle.plans.specs.Legal.{Allowed, event, packet, offcore, latency, words_of, packets_of, of_all, HasPlan}
use Rattle.plans.specs.FilterWords.{none_asked, ask_word, ask_packet, asked_by, asked_from, crowded, FilterWords}

module _ (v w : ℕ) (p : ℕ × ℕ) where
  -- one of both words
  abbrev OneOf : ℕ → Type 0
  OneOf x = (x ≡ v) ⊎ (x ≡ w)

  -- the registers hold different ones of both words, the second none before the first
  data Within : Option ℕ → Option ℕ → Type 0 where
    no_word : Within None None
    one_word : {x : ℕ} → OneOf x → Within (Some x) None
    two_words : {x y : ℕ} → OneOf x → OneOf y → x ≢ y → Within (Some x) (Some y)

  -- the match/mask register is off, or holds p
  data Same : Option (ℕ × ℕ) → Type 0 where
    off : Same None
    same : {x y : ℕ} → (x, y) ≡ p → Same (Some (x, y))

  -- what is asked for so far
  abbrev Fits : Asked → Type 0
  Fits a = Within a.first a.second × Same a.packet × (a.crowded ≡ false)

  -- of three different words two registers leave one out
  three : (x y z : ℕ) → OneOf x → OneOf y → OneOf z → x ≢ y → x ≢ z → y ≢ z → ⊥
  three x y z (inl a) (inl b) c d e f = d (a ∙ sym b)
  three x y z (inl a) (inr b) (inl c) d e f = e (a ∙ sym c)
  three x y z (inl a) (inr b) (inr c) d e f = f (b ∙ sym c)
  three x y z (inr a) (inl b) (inl c) d e f = f (b ∙ sym c)
  three x y z (inr a) (inl b) (inr c) d e f = e (a ∙ sym c)
  three x y z (inr a) (inr b) c d e f = d (a ∙ sym b)

  -- by a test, whichever way it falls out
  fits_pick : (t : Bool) (a b : Asked) → (t ≡ true → Fits a) → (t ≡ false → Fits b) → Fits (pick t a b)
  fits_pick true a b f g = f refl
  fits_pick false a b f g = g refl

  -- one word more
  word_within : (f s : Option ℕ) (k : Option (ℕ × ℕ)) (c : Bool) (x : ℕ) → Within f s → Same k → c ≡ false → OneOf x
      → Fits (ask_word x (record { first = f; second = s; packet = k; crowded = c }))
  unfolding ask_word
  word_within f s k c x no_word m r o = (one_word o, m, r)
  word_within f s k c x (one_word {x = y} h) m r o =
      fits_pick (eqb y x) (record { first = Some x; second = None; packet = k; crowded = c }) (record { first = Some y; second = Some x; packet = k; crowded = c })
      (λ e. (one_word o, m, r))
      (λ d. (two_words h o (eqb-false y x d), m, r))
  word_within f s k c x (two_words {x = y} {y = z} h g n) m r o =
      fits_pick (eqb y x) (record { first = Some x; second = Some z; packet = k; crowded = c })
      (pick (eqb z x) (record { first = Some y; second = Some x; packet = k; crowded = c }) (record { first = Some y; second = Some z; packet = k; crowded = true }))
      (λ e. (two_words o g (λ q. n (eqb-true y x e ∙ q)), m, r))
      (λ d. fits_pick (eqb z x) (record { first = Some y; second = Some x; packet = k; crowded = c }) (record { first = Some y; second = Some z; packet = k; crowded = true })
      (λ e. (two_words h o (eqb-false y x d), m, r))
      (λ l. absurd (three y z x h g o n (eqb-false y x d) (eqb-false z x l))))

  word_fits : (a : Asked) (x : ℕ) → Fits a → OneOf x → Fits (ask_word x a)
  unfolding ask_word
  word_fits a x (t, m, r) o = word_within a.first a.second a.packet a.crowded x t m r o

  -- one match and mask more
  packet_within : (f s : Option ℕ) (k : Option (ℕ × ℕ)) (c : Bool) (x y : ℕ) → Within f s → Same k → c ≡ false → (x, y) ≡ p
      → Fits (ask_packet x y (record { first = f; second = s; packet = k; crowded = c }))
  unfolding ask_packet both
  packet_within f s k c x y t off r e = (t, same e, r)
  packet_within f s k c x y t (same {x = i} {y = j} h) r e =
      let d : ◌≡◌ {A = ℕ × ℕ} (i, j) (x, y) = h ∙ sym e in
      rw (eq-eqb i x (ap (λ (q : ℕ × ℕ). q.0) d), eq-eqb j y (ap (λ (q : ℕ × ℕ). q.1) d)) (t, same e, r)

  packet_fits : (a : Asked) (x y : ℕ) → Fits a → (x, y) ≡ p → Fits (ask_packet x y a)
  unfolding ask_packet
  packet_fits a x y (t, m, r) e = packet_within a.first a.second a.packet a.crowded x y t m r e

  -- all requests of a plan whose registers hold these words
  never_crowded : {rs : List Request} {ps : List Place} → Each Allowed rs ps → All (λ (x : ℕ). x ≡ v) (of_all (words_of 0) rs ps)
      → All (λ (x : ℕ). x ≡ w) (of_all (words_of 1) rs ps) → All (λ (q : ℕ × ℕ). q ≡ p) (flat_map packets_of rs)
      → (a : Asked) → Fits a → (asked_from a rs).crowded ≡ false
  unfolding of_all words_of packets_of flat_map asked_from asked_by
  never_crowded none vs ws qs a f = f.2
  never_crowded (and (event g) rest) vs ws qs a f = never_crowded rest vs ws qs a f
  never_crowded (and (packet {x = x} {y = y} g) rest) vs ws (cons e qs) a f = never_crowded rest vs ws qs (ask_packet x y a) (packet_fits a x y f e)
  never_crowded (and (offcore {w = x} {i = zero} g l) rest) (cons e vs) ws qs a f = never_crowded rest vs ws qs (ask_word x a) (word_fits a x f (inl e))
  never_crowded (and (offcore {w = x} {i = suc zero} g l) rest) vs (cons e ws) qs a f = never_crowded rest vs ws qs (ask_word x a) (word_fits a x f (inr e))
  never_crowded (and (offcore {i = suc (suc i)} g l) rest) vs ws qs a f = absurd (omega arith)
  never_crowded (and (latency {t = t} g h) rest) (cons d vs) (cons e ws) qs a f =
      let one = ask_word (latency_word 0 t) a in
      never_crowded rest vs ws qs (ask_word (latency_word 1 t) one) (word_fits one (latency_word 1 t) (word_fits a (latency_word 0 t) f (inl d)) (inr e))

unplanned : (s : Setup) (rs : List Request) → crowded rs ≡ true → ¬ HasPlan s rs
unfolding crowded none_asked
unplanned s rs more (ps, l) =
    let v = l.one_word 0 (omega arith) in
    let w = l.one_word 1 (omega arith) in
    let q = l.one_packet in
    let fewer = never_crowded v.0 w.0 q.0 l.allowed v.1 w.1 q.1 none_asked (no_word, off, refl) in
    let z : ◌≡◌ {A = ℕ} 0 1 = cc in
    absurd (omega arith)

pub filter_words : FilterWords
filter_words = record { unplanned = unplanned }
