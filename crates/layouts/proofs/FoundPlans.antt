-- From the reader's test to a plan: control words that fit, and filter values that fit them, are those of a legal plan of well-formed requests.
--     Words         control words that fit, on usable counters
--     plain         a plan without latency requests
--     paired        a plan with a latency request for each counter on RSP0
--     plain-G, plain-S, plain-bare   a plan for words and filter values that fit, on G, on S, and where there are no filter registers
use mathlib.Core.Path.{◌≡◌, refl, sym, ap, ◌∙◌, subst}
use mathlib.Core.Logic.{◌⊎◌, inl, inr, ⊎_elim}
use mathlib.Core.Bool.{true, false, true≢false}
use mathlib.Core.List.{[], ◌∷◌}
use Prim.Native.Nat.{ℕ, zero, suc, ◌+◌, ◌≤◌, ◌<◌}
use native.Mathlib.Decide.{ℕ_discrete}
use native.Mathlib.Omega.{arith}
use borrow.Author.Tests.{eqb-true, eq-eqb, ne_eqb}
use lib.Dec.{eqb}
use Rattle.requests.specs.Choice.{both, pick}
use Rattle.requests.specs.declared.Device.{Device}
use Rattle.requests.specs.declared.Device.TheVariants.{G, S}
use Rattle.requests.specs.declared.Setup.{Setup}
use Rattle.requests.specs.declared.Request.TheVariants.{Event, Packet, Offcore, Latency}
use Rattle.requests.specs.Askings.{overflow_on, asked}
use Rattle.requests.specs.Bits.{latency_word}
use Rattle.requests.specs.Devices.{counter_count}
use Rattle.requests.specs.Checks.{formed}
use Rattle.requests.specs.WellFormedRequests.{Described, event, latency}
use Rattle.requests.proofs.Tests.{both_parts, either_cases}
use Rattle.plans.specs.declared.Place.TheVariants.{Counter, WithRsp, Pair}
use Rattle.plans.specs.Lists.{All, nil, cons, empty, add}
use Rattle.plans.specs.Places.{counted_of, counters_of, first, second}
use Rattle.plans.specs.Legal.{Usable, words_of, packets_of}
use Rattle.plans.specs.Legal as plans
use Rattle.layouts.specs.Layout.{event_word, enabled, enabled_on, offcore_code, rsp_mask, rsp_word, packet_word, code_of, mask_of}
use Rattle.layouts.specs.Settings.{uses_of}
use Rattle.layouts.specs.Read.{count, no_counter, filter_word, control_fits}
use Rattle.layouts.proofs.Counts.{count_zero, find, count_put}
use Rattle.layouts.proofs.UsableSets.{on, Within}
use Rattle.layouts.proofs.OffcoreWords.{second_described}
use Rattle.layouts.proofs.AskedWords.{offcore_allowed, packet_allowed, none_within}
use Rattle.layouts.proofs.FormedRequests.{passes_described}
use Rattle.layouts.proofs.PlanFilters.{rsp_some}
use Rattle.layouts.proofs.LeftValues.{zero_fits}
use Rattle.layouts.proofs.BuiltPlans.{Built, put, extend, without, without_same, without_other, restore, Item, build}

-- ---- one counter

module _ (s : Setup) (within : Within s) (a b : ℕ) (q : ℕ × ℕ) (k w : ℕ) (usable : Usable s k) where
  event_item : both (eqb w (event_word s (code_of w) (mask_of w))) (formed s (Event (code_of w) (mask_of w) no_counter)) ≡ true → Item s a b q k w
  unfolding uses_of words_of packets_of first
  event_item h =
      let parts = both_parts _ _ h in
      go (passes_described s (Event (code_of w) (mask_of w) no_counter) parts.1) (eqb-true w (event_word s (code_of w) (mask_of w)) parts.0)
    where
      go : Described s (Event (code_of w) (mask_of w) no_counter) → w ≡ event_word s (code_of w) (mask_of w) → Item s a b q k w
      go (event l c) e =
          record {
            request = Event (code_of w) (mask_of w) s.usable;
            place = Counter k;
            described = event l within;
            allowed = plans.event usable.1;
            one = ap (λ (x : ℕ). (k, x) ∷ []) (sym e);
            rsp0 = nil;
            rsp1 = nil;
            packet = nil;
          }

  packet_item : Described s (Packet q.0 q.1 no_counter) → w ≡ packet_word s → Item s a b q k w
  unfolding uses_of words_of packets_of first
  packet_item h e =
      record {
        request = Packet q.0 q.1 s.usable;
        place = Counter k;
        described = packet_allowed s.usable within h;
        allowed = plans.packet usable.1;
        one = ap (λ (x : ℕ). (k, x) ∷ []) (sym e);
        rsp0 = nil;
        rsp1 = nil;
        packet = cons refl nil;
      }

  -- on RSP register i, which holds x
  rsp_item : (i x : ℕ) → i < 2 → All (λ (y : ℕ). y ≡ a) (pick (eqb i 0) (x ∷ []) []) → All (λ (y : ℕ). y ≡ b) (pick (eqb i 1) (x ∷ []) [])
      → Described s (Offcore x no_counter) → w ≡ rsp_word s i → Item s a b q k w
  unfolding uses_of words_of packets_of first second
  rsp_item i x two in-rsp0 in-rsp1 h e =
      record {
        request = Offcore x s.usable;
        place = WithRsp k i;
        described = offcore_allowed s.usable within h;
        allowed = plans.offcore {i = i} usable.1 two;
        one = ap (λ (x : ℕ). (k, x) ∷ []) (sym e);
        rsp0 = in-rsp0;
        rsp1 = in-rsp1;
        packet = nil;
      }

-- ---- all counters

-- control words that fit, on usable counters
pub record Words (s : Setup) (f : ℕ → ℕ) : Type 0 where
  pub fits : (k : ℕ) → control_fits s (f k) ≡ true
  pub usable : (k : ℕ) → (f k ≡ 0) ⊎ Usable s k

words_past : (s : Setup) (f : ℕ → ℕ) → Words s f → (k : ℕ) → counter_count s.device ≤ k → f k ≡ 0
words_past s f w k l = ⊎_elim (λ e. e) (λ u. absurd (omega (arith, u.0))) (w.usable k)

words_usable : (s : Setup) (f : ℕ → ℕ) → Words s f → (k : ℕ) → (f k ≡ 0 → ⊥) → Usable s k
words_usable s f w k n = ⊎_elim (λ e. absurd (n e)) (λ u. u) (w.usable k)

words_without : (s : Setup) (f : ℕ → ℕ) (j : ℕ) → Words s f → Words s (without j f)
words_without s f j w =
    record {
      fits = λ k. elim (ℕ_discrete j k) [ yes p ↦ rw (eq-eqb j k p) (zero_fits s) | no o ↦ rw (ne_eqb j k o) (w.fits k) ];
      usable = λ k. elim (ℕ_discrete j k) [ yes p ↦ inl (rw (eq-eqb j k p)) | no o ↦ rw (ne_eqb j k o) (w.usable k) ];
    }

-- a word that fits and is not 0: of a filter event, or of a well-formed event
pub word_cases : (s : Setup) (w : ℕ) → control_fits s w ≡ true → (w ≡ 0 → ⊥)
    → (filter_word s w ≡ true) ⊎ (both (eqb w (event_word s (code_of w) (mask_of w))) (formed s (Event (code_of w) (mask_of w) no_counter)) ≡ true)
unfolding control_fits
word_cases s w h n = ⊎_elim (λ z. absurd (n (eqb-true w 0 z))) (λ z. either_cases _ _ z) (either_cases _ _ h)

module _ (u : Setup) where
  -- an RSP register is unused, or holds an offcore word
  abbrev Plain : (ℕ → ℕ) → ℕ → ℕ → Type 0
  Plain f i a = (count (counter_count G) f (rsp_word (on G u) i) ≡ 0) ⊎ Described (on G u) (Offcore a no_counter)

  pub plain_g : Within (on G u) → (a b : ℕ) (q : ℕ × ℕ) (f : ℕ → ℕ) → Words (on G u) f → Plain f 0 a → Plain f 1 b → Built (on G u) a b q f
  unfolding filter_word
  plain_g within a b q f w h0 h1 =
      build (on G u) a b q (counter_count G) f (words_past (on G u) f w) (λ k. elim (ℕ_discrete (f k) 0) [ yes e ↦ inl e | no n ↦ inr (words_usable (on G u) f w k n, item k n (words_usable (on G u) f w k n)) ])
    where
      held : (i a : ℕ) (k : ℕ) → Usable (on G u) k → Plain f i a → f k ≡ rsp_word (on G u) i → Described (on G u) (Offcore a no_counter)
      held i x k us p e = ⊎_elim (λ z. absurd (count_zero (counter_count G) k (rsp_word (on G u) i) f z us.0 e)) (λ t. t) p

      item : (k : ℕ) → (f k ≡ 0 → ⊥) → Usable (on G u) k → Item (on G u) a b q k (f k)
      item k n us =
          ⊎_elim
          (λ h. ⊎_elim
          (λ e. let same = eqb-true (f k) (rsp_word (on G u) 0) e in rsp_item (on G u) within a b q k (f k) us 0 a (omega arith) (cons refl nil) nil (held 0 a k us h0 same) same)
          (λ e. let same = eqb-true (f k) (rsp_word (on G u) 1) e in rsp_item (on G u) within a b q k (f k) us 1 b (omega arith) nil (cons refl nil) (held 1 b k us h1 same) same)
          (either_cases _ _ h))
          (λ h. event_item (on G u) within a b q k (f k) us h)
          (word_cases (on G u) (f k) (w.fits k) n)

  -- nobody counts packets, or their words are well-formed
  abbrev Filtered : (ℕ → ℕ) → ℕ × ℕ → Type 0
  Filtered f q = (count (counter_count S) f (packet_word (on S u)) ≡ 0) ⊎ Described (on S u) (Packet q.0 q.1 no_counter)

  pub plain_s : Within (on S u) → (a b : ℕ) (q : ℕ × ℕ) (f : ℕ → ℕ) → Words (on S u) f → Filtered f q → Built (on S u) a b q f
  unfolding filter_word
  plain_s within a b q f w h0 =
      build (on S u) a b q (counter_count S) f (words_past (on S u) f w) (λ k. elim (ℕ_discrete (f k) 0) [ yes e ↦ inl e | no n ↦ inr (words_usable (on S u) f w k n, item k n (words_usable (on S u) f w k n)) ])
    where
      held : (k : ℕ) → Usable (on S u) k → f k ≡ packet_word (on S u) → Described (on S u) (Packet q.0 q.1 no_counter)
      held k us e = ⊎_elim (λ z. absurd (count_zero (counter_count S) k (packet_word (on S u)) f z us.0 e)) (λ t. t) h0

      item : (k : ℕ) → (f k ≡ 0 → ⊥) → Usable (on S u) k → Item (on S u) a b q k (f k)
      item k n us =
          ⊎_elim
          (λ h. let same = eqb-true (f k) (packet_word (on S u)) h in packet_item (on S u) within a b q k (f k) us (held k us same) same)
          (λ h. event_item (on S u) within a b q k (f k) us h)
          (word_cases (on S u) (f k) (w.fits k) n)

  -- a device without filter registers: every word is that of an event
  pub plain_bare : (d : Device) → ((w : ℕ) → filter_word (on d u) w ≡ false) → Within (on d u) → (a b : ℕ) (q : ℕ × ℕ) (f : ℕ → ℕ) → Words (on d u) f → Built (on d u) a b q f
  plain_bare d bare within a b q f w =
      build (on d u) a b q (counter_count d) f (words_past (on d u) f w)
      (λ k. elim (ℕ_discrete (f k) 0) [ yes e ↦ inl e | no n ↦ inr (words_usable (on d u) f w k n, item k n (words_usable (on d u) f w k n)) ])
    where
      item : (k : ℕ) → (f k ≡ 0 → ⊥) → Usable (on d u) k → Item (on d u) a b q k (f k)
      item k n us =
          ⊎_elim (λ h. absurd (true≢false (sym h ∙ bare (f k)))) (λ h. event_item (on d u) within a b q k (f k) us h) (word_cases (on d u) (f k) (w.fits k) n)

-- ---- latency requests

-- how the counts fall when a counter is taken out
count_without : (n : ℕ) (f : ℕ → ℕ) (j v w : ℕ) → j < n → f j ≡ v → (w ≡ 0 → ⊥) → count n f w ≡ count n (without j f) w + pick (eqb v w) 1 0
count_without n f j v w l e some = ap (λ (g : ℕ → ℕ). count n g w) (sym (restore j v f e)) ∙ count_put (without j f) n j v w l (without_same j f) some

rsp_apart : (u : Setup) → rsp_word (on G u) 0 ≡ rsp_word (on G u) 1 → ⊥
unfolding rsp_word event_word enabled enabled_on asked overflow_on both offcore_code rsp_mask
rsp_apart u e = omega arith

module _ (u : Setup) (within : Within (on G u)) (t : ℕ) (types : Described (on G u) (Latency t no_counter no_counter)) (q : ℕ × ℕ) where
  -- types alone are those of a request that allows every usable counter
  latency_types : Described (on G u) (Latency t no_counter no_counter) → Described (on G u) (Latency t u.usable u.usable)
  latency_types (latency g h o c d) = latency g h o within within

  second_offcore : Described (on G u) (Latency t no_counter no_counter) → Described (on G u) (Offcore (latency_word 1 t) no_counter)
  second_offcore (latency g h o c d) = second_described t h (on G u) no_counter g o (none_within (on G u))

  -- a latency request in front
  add_pair : (f : ℕ → ℕ) (j k : ℕ) → Words (on G u) f → f j ≡ rsp_word (on G u) 0 → f k ≡ rsp_word (on G u) 1
      → Built (on G u) (latency_word 0 t) (latency_word 1 t) q (without k (without j f)) → Built (on G u) (latency_word 0 t) (latency_word 1 t) q f
  unfolding uses_of words_of packets_of counters_of counted_of first second
  add_pair f j k w ej ek built =
      let usable-j = words_usable (on G u) f w j (λ e. rsp_some u 0 (sym ej ∙ e)) in
      let usable-k = words_usable (on G u) f w k (λ e. rsp_some u 1 (sym ek ∙ e)) in
      let apart : j ≡ k → ⊥ = λ e. rsp_apart u (sym ej ∙ ap f e ∙ ek) in
      let gk : without j f k ≡ rsp_word (on G u) 1 = without_other j k f apart ∙ ek in
      subst (λ (g : ℕ → ℕ). Built (on G u) (latency_word 0 t) (latency_word 1 t) q g)
      (ap (λ (g : ℕ → ℕ). put ((j, rsp_word (on G u) 0) ∷ []) g) (restore k (rsp_word (on G u) 1) (without j f) gk) ∙ restore j (rsp_word (on G u) 0) f ej)
      (extend (on G u) (latency_word 0 t) (latency_word 1 t) q (without k (without j f)) (Latency t u.usable u.usable) (Pair j k) built
      (latency_types types) (plans.latency usable-j.1 usable-k.1)
      (cons usable-j (cons usable-k nil))
      (add (cons apart nil) (add nil empty))
      (cons refl nil) (cons refl nil) nil
      (cons (without_other k j (without j f) (λ e. apart (sym e)) ∙ without_same j f) (cons (without_same k (without j f)) nil))
      (cons (rsp_some u 0) (cons (rsp_some u 1) nil)))

  -- a latency request for each counter on RSP0
  pub paired : (m : ℕ) (f : ℕ → ℕ) → Words (on G u) f → count (counter_count G) f (rsp_word (on G u) 0) ≡ m → m ≤ count (counter_count G) f (rsp_word (on G u) 1)
      → Built (on G u) (latency_word 0 t) (latency_word 1 t) q f
  paired zero f w e l = plain_g u within (latency_word 0 t) (latency_word 1 t) q f w (inl e) (inr (second_offcore types))
  paired (suc m) f w e l =
      let n = counter_count G in
      let j = find n (rsp_word (on G u) 0) f (omega arith) in
      let k = find n (rsp_word (on G u) 1) f (omega arith) in
      let apart : j.counter ≡ k.counter → ⊥ = λ e. rsp_apart u (sym j.there ∙ ap f e ∙ k.there) in
      let gk : without j.counter f k.counter ≡ rsp_word (on G u) 1 = without_other j.counter k.counter f apart ∙ k.there in
      let g = without k.counter (without j.counter f) in
      let less0 = count_without n f j.counter (rsp_word (on G u) 0) (rsp_word (on G u) 0) j.below j.there (rsp_some u 0) in
      let same1 = count_without n f j.counter (rsp_word (on G u) 0) (rsp_word (on G u) 1) j.below j.there (rsp_some u 1) in
      let same0 = count_without n (without j.counter f) k.counter (rsp_word (on G u) 1) (rsp_word (on G u) 0) k.below gk (rsp_some u 0) in
      let less1 = count_without n (without j.counter f) k.counter (rsp_word (on G u) 1) (rsp_word (on G u) 1) k.below gk (rsp_some u 1) in
      let here0 = rw (eq-eqb (rsp_word (on G u) 0) (rsp_word (on G u) 0) refl) at less0 in
      let here1 = rw (eq-eqb (rsp_word (on G u) 1) (rsp_word (on G u) 1) refl) at less1 in
      let there0 = rw (ne_eqb (rsp_word (on G u) 1) (rsp_word (on G u) 0) (λ x. rsp_apart u (sym x))) at same0 in
      let there1 = rw (ne_eqb (rsp_word (on G u) 0) (rsp_word (on G u) 1) (rsp_apart u)) at same1 in
      add_pair f j.counter k.counter w j.there k.there
      (paired m g (words_without (on G u) (without j.counter f) k.counter (words_without (on G u) f j.counter w)) (omega arith) (omega arith))
