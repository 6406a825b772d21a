-- The reader's answer at a counter: that of `tell` at its control value, which is taken apart by `word-parts`. Assumes nothing.
use mathlib.Core.Path.{◌≡◌, refl, sym, ap, subst, ◌∙◌}
use mathlib.Core.Logic.{◌≢◌}
use mathlib.Core.Bool.{Bool, true, false}
use Prim.Native.Nat.{ℕ, ◌+◌, ◌*◌, ◌<◌}
use native.Mathlib.Omega.{arith}
use borrow.Author.Tests.{eq-eqb, ne_eqb}
use lib.ListN.{get_or}
use Rattle.requests.specs.declared.Device.{Device}
use Rattle.requests.specs.declared.Device.TheVariants.{G, S, C, B}
use Rattle.requests.specs.declared.Opening.{Opening}
use Rattle.requests.specs.declared.Setup.{Setup}
use Rattle.requests.specs.Choice.{pick}
use Rattle.requests.specs.Devices.{has, capacity}
use Rattle.plans.specs.LegalInWords.{InSet}
use Rattle.plans.proofs.LegalInWordsHolds.{has_in, in_has}
use Rattle.layouts.specs.Layout.{event_word, code_of, offcore_code, rsp_mask, rsp_word, packet_word}
use Rattle.layouts.specs.Read.{ours, filter_of, tell, states_of, reading_of}
use Rattle.layouts.specs.EventWords.{enabling_of}
use Rattle.layouts.specs.CounterReadings.{Accepts, state_at, word_in, CounterReadings}
use Rattle.layouts.specs.declared.FilterValues.{FilterValues}
use Rattle.layouts.specs.declared.RegisterValues.{RegisterValues}
use Rattle.layouts.specs.declared.FilterRead.TheVariants.{NoFilter, Rsp, MatchMask}
use Rattle.layouts.specs.declared.CounterState.TheVariants.{NotOurs, Off, Counts}
use Rattle.layouts.specs.Read.{Reading}
use Rattle.layouts.proofs.Tabulated.{get_d_tabulate}
use Rattle.layouts.proofs.UsableSets.{on}
use Rattle.layouts.proofs.ControlWords.{word_parts}
use Rattle.layouts.proofs.ReaderAnswers.{read_accepted}
use Rattle.layouts.proofs.ExactReader.{accepted_test}
use Rattle.layouts.proofs.EventWords.{word_is}
use Rattle.layouts.proofs.UnusedResponses.{first_word, second_word}

module _ (o : Opening) (s : Setup) (v : RegisterValues) (h : Accepts o s v) (k : ℕ) (l : k < 8) where
  state : state_at o v k ≡ pick (has s.usable k) (tell s v.filters (pick (has s.usable k) (word_in v k) 0)) NotOurs
  unfolding reading_of capacity ours
  state =
      ap (λ (r : Reading). get_or (states_of r) k NotOurs) (read_accepted o s v h.0 (accepted_test o s v h.0 h.1))
      ∙ get_d_tabulate 8 (λ k. pick (has s.usable k) (tell s v.filters (ours s v k)) NotOurs) k NotOurs l

  not_ours : ¬ InSet s.usable k → state_at o v k ≡ NotOurs
  not_ours unusable = state ∙ go (has s.usable k) refl
    where
      go : (b : Bool) → has s.usable k ≡ b → pick b (tell s v.filters (pick b (word_in v k) 0)) NotOurs ≡ NotOurs
      go true e = absurd (unusable (has_in s.usable k e))
      go false e = refl

  told_of : InSet s.usable k → state_at o v k ≡ tell s v.filters (word_in v k)
  told_of u = state ∙ rw (in_has s.usable k u)

  off : InSet s.usable k → word_in v k ≡ 0 → state_at o v k ≡ Off
  unfolding tell
  off u e = told_of u ∙ rw e

  -- the word of a code and a mask of 8 bits each
  counts : (c m : ℕ) → InSet s.usable k → c < 256 → m < 256 → word_in v k ≡ event_word s c m → state_at o v k ≡ Counts c m (filter_of s v.filters (event_word s c m))
  unfolding tell
  counts c m u a b e =
      let p = word_parts s c m a b in
      told_of u ∙ rw (e, ne_eqb (event_word s c m) 0 p.some_bit, p.code, p.mask)

-- ---- filters

first_filter : (u : Setup) (v : FilterValues) → filter_of (on G u) v (event_word (on G u) 0xB7 0x01) ≡ Rsp 0 v.rsp0
unfolding filter_of rsp_word offcore_code rsp_mask
first_filter u v = rw (eq-eqb (event_word (on G u) 0xB7 0x01) (event_word (on G u) 0xB7 0x01) refl)

second_filter : (u : Setup) (v : FilterValues) → filter_of (on G u) v (event_word (on G u) 0xB7 0x02) ≡ Rsp 1 v.rsp1
unfolding filter_of rsp_word offcore_code rsp_mask
second_filter u v =
    rw (
      ne_eqb (event_word (on G u) 0xB7 0x02) (event_word (on G u) 0xB7 0x01) (λ e. let z = word_is (on G u) 0xB7 0x02 in let y = word_is (on G u) 0xB7 0x01 in omega arith),
      eq-eqb (event_word (on G u) 0xB7 0x02) (event_word (on G u) 0xB7 0x02) refl,
    )

packet_filter : (u : Setup) (v : FilterValues) → filter_of (on S u) v (event_word (on S u) 0 0) ≡ MatchMask v.match_word v.mask_word
unfolding filter_of packet_word
packet_filter u v = rw (eq-eqb (event_word (on S u) 0 0) (event_word (on S u) 0 0) refl)

-- words of two codes differ
codes_differ : (s : Setup) (c m d n : ℕ) → c < 256 → m < 256 → d < 256 → n < 256 → c ≢ d → event_word s c m ≡ event_word s d n → ⊥
codes_differ s c m d n a b x y o e = o (sym (word_parts s c m a b).code ∙ ap code_of e ∙ (word_parts s d n x y).code)

no_filter : (d : Device) (u : Setup) (v : FilterValues) (c m : ℕ) → c < 256 → m < 256 → (d ≡ G → c ≢ 0xB7) → (d ≡ S → c ≢ 0)
    → filter_of (on d u) v (event_word (on d u) c m) ≡ NoFilter
unfolding filter_of rsp_word packet_word offcore_code rsp_mask
no_filter G u v c m a b g s =
    rw (
      ne_eqb (event_word (on G u) c m) (event_word (on G u) 0xB7 1) (codes_differ (on G u) c m 0xB7 1 a b (omega arith) (omega arith) (g refl)),
      ne_eqb (event_word (on G u) c m) (event_word (on G u) 0xB7 2) (codes_differ (on G u) c m 0xB7 2 a b (omega arith) (omega arith) (g refl)),
    )
no_filter S u v c m a b g s = rw (ne_eqb (event_word (on S u) c m) (event_word (on S u) 0 0) (codes_differ (on S u) c m 0 0 a b (omega arith) (omega arith) (s refl)))
no_filter (C x) u v c m a b g s = refl
no_filter B u v c m a b g s = refl

-- a setup on its own device
on_its : (P : Setup → Type 0) (d : Device) (s : Setup) → s.device ≡ d → P (on d s) → P s
on_its P d s e h = subst (λ (x : Device). P (on x s)) (sym e) h

module _ (o : Opening) (s : Setup) (v : RegisterValues) (h : Accepts o s v) where
  first_read : s.device ≡ G → (k : ℕ) → k < 8 → InSet s.usable k → word_in v k ≡ 0x4301B7 → state_at o v k ≡ Counts 0xB7 0x01 (Rsp 0 v.filters.rsp0)
  unfolding rsp_word offcore_code rsp_mask
  first_read g k l u e =
      counts o s v h k l 0xB7 0x01 u (omega arith) (omega arith) (e ∙ sym (on_its (λ s. rsp_word s 0 ≡ 0x4301B7) G s g (first_word s)))
      ∙ ap (Counts 0xB7 0x01) (on_its (λ s. filter_of s v.filters (event_word s 0xB7 0x01) ≡ Rsp 0 v.filters.rsp0) G s g (first_filter s v.filters))

  second_read : s.device ≡ G → (k : ℕ) → k < 8 → InSet s.usable k → word_in v k ≡ 0x4302B7 → state_at o v k ≡ Counts 0xB7 0x02 (Rsp 1 v.filters.rsp1)
  unfolding rsp_word offcore_code rsp_mask
  second_read g k l u e =
      counts o s v h k l 0xB7 0x02 u (omega arith) (omega arith) (e ∙ sym (on_its (λ s. rsp_word s 1 ≡ 0x4302B7) G s g (second_word s)))
      ∙ ap (Counts 0xB7 0x02) (on_its (λ s. filter_of s v.filters (event_word s 0xB7 0x02) ≡ Rsp 1 v.filters.rsp1) G s g (second_filter s v.filters))

  packet_read : s.device ≡ S → (k : ℕ) → k < 8 → InSet s.usable k → word_in v k ≡ enabling_of s → state_at o v k ≡ Counts 0x00 0x00 (MatchMask v.filters.match_word v.filters.mask_word)
  packet_read g k l u e =
      counts o s v h k l 0 0 u (omega arith) (omega arith) (omega (arith, e, word_is s 0 0))
      ∙ ap (Counts 0x00 0x00) (on_its (λ s. filter_of s v.filters (event_word s 0 0) ≡ MatchMask v.filters.match_word v.filters.mask_word) S s g (packet_filter s v.filters))

  event_read : (k c m : ℕ) → k < 8 → InSet s.usable k → c < 256 → m < 256 → (s.device ≡ G → c ≢ 0xB7) → (s.device ≡ S → c ≢ 0)
      → word_in v k ≡ enabling_of s + 0x100 * m + c → state_at o v k ≡ Counts c m NoFilter
  event_read k c m l u a b g n e =
      counts o s v h k l c m u a b (e ∙ sym (word_is s c m)) ∙ ap (Counts c m) (no_filter s.device s v.filters c m a b g n)

pub counter_readings : CounterReadings
counter_readings = record {
  not_ours = not_ours;
  off = off;
  first = first_read;
  second = second_read;
  packet = packet_read;
  event = event_read;
}
