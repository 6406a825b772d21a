-- The filter values that a legal plan of well-formed requests leaves pass the reader's test.
--     rsp-hits, packet-hits   a counter on a filter register for each word asked of it
--     LatencyPair, pairs      where RSP0 holds bit 38, all of its users are latency requests
--     LeftFilters, filters-fit   the filter values of a plan, and that they fit its control words
use mathlib.Core.Path.{◌≡◌, refl, sym, ap, subst, ◌∙◌}
use mathlib.Core.Bool.{Bool, true, false, true≢false}
use mathlib.Core.List.{List, [], ◌∷◌, ◌++◌, flat_map}
use Prim.Native.Nat.{ℕ, zero, suc, ◌+◌, ◌%◌, ◌^◌, ◌≤◌, ◌<◌}
use native.Mathlib.Nat.{le_refl, add-mod_right, mod-eq_of_lt}
use native.Mathlib.Omega.{arith}
use borrow.Author.Tests.{eq-eqb, ne_eqb, le-leb}
use lib.Dec.{eqb}
use lib.ListN.{length}
use Rattle.requests.specs.Choice.{both, pick}
use Rattle.requests.specs.declared.CounterSet.{CounterSet}
use Rattle.requests.specs.declared.Device.{Device}
use Rattle.requests.specs.declared.Device.TheVariants.{G, S, C, B}
use Rattle.requests.specs.declared.Setup.{Setup}
use Rattle.requests.specs.declared.Request.{Request}
use Rattle.requests.specs.declared.Request.TheVariants.{Packet, Offcore, Latency}
use Rattle.requests.specs.Askings.{overflow_on, asked}
use Rattle.requests.specs.Bits.{bit, any_response, outstanding, latency_word}
use Rattle.requests.specs.Catalogue.{events_of, pair_in}
use Rattle.requests.specs.WellFormedRequests.{Described, event, packet, offcore, latency}
use Rattle.requests.proofs.Tests.{true_both, either_left, either_right}
use Rattle.requests.proofs.WellFormed.{no_outstanding}
use Rattle.plans.specs.declared.Place.{Place}
use Rattle.plans.specs.Lists.{All, nil, cons, Each, none, and}
use Rattle.plans.specs.Places.{second}
use Rattle.plans.specs.Legal.{Allowed, Legal, words_of, packets_of, of_all}
use Rattle.plans.specs.Legal as plans
use Rattle.layouts.specs.Layout.{event_word, enabled, enabled_on, code_of, offcore_code, rsp_mask, rsp_word, packet_word, mm_enable}
use Rattle.layouts.specs.Settings.{uses_of, word_at, head_or, nonempty}
use Rattle.layouts.specs.Read.{no_counter, rsp0_fits, rsp1_fits, latency_fits, packets_fit, filters_fit}
use Rattle.layouts.specs.declared.FilterValues.{FilterValues}
use Rattle.layouts.proofs.UsableSets.{on}
use Rattle.layouts.proofs.ListLaws.{one_value}
use Rattle.layouts.proofs.Counts.{hits}
use Rattle.layouts.proofs.DeviceFacts.{filter_code}
use Rattle.layouts.proofs.ControlWords.{listed, word_parts}
use Rattle.layouts.proofs.OffcoreWords.{types_below, first_outstanding}
use Rattle.layouts.proofs.AskedWords.{FirstWord, offcore_word, latency_word_lem, first_words, second_words, none_within, packet_words}
use Rattle.layouts.proofs.FormedRequests.{described_passes}
use Rattle.layouts.proofs.PlanWords.{count_uses}

pub devices_differ : G ≡ S → ⊥
devices_differ e = let z : ◌≡◌ {A = ℕ} 0 1 = cc in omega arith

-- a C-Box is neither
pub c_not_g : (b : ℕ) → C b ≡ G → ⊥
c_not_g b e = let z : ◌≡◌ {A = ℕ} 0 1 = cc in omega arith

pub c_not_s : (b : ℕ) → C b ≡ S → ⊥
c_not_s b e = let z : ◌≡◌ {A = ℕ} 0 1 = cc in omega arith

-- nor is B
pub b_not_g : B ≡ G → ⊥
b_not_g e = let z : ◌≡◌ {A = ℕ} 0 1 = cc in omega arith

pub b_not_s : B ≡ S → ⊥
b_not_s e = let z : ◌≡◌ {A = ℕ} 0 1 = cc in omega arith

pub c_not_b : (b : ℕ) → C b ≡ B → ⊥
c_not_b b e = let z : ◌≡◌ {A = ℕ} 0 1 = cc in omega arith

-- ---- control words of filter events

-- no listed event has the control word of a filter event
pub event_not_rsp : (u : Setup) (c m i : ℕ) → pair_in (events_of G) c m ≡ true → event_word (on G u) c m ≡ rsp_word (on G u) i → ⊥
unfolding filter_code rsp_word offcore_code rsp_mask
event_not_rsp u c m i h e =
    let l = listed G c m h in
    l.other (sym (word_parts (on G u) c m l.code l.mask).code ∙ ap code_of e ∙ go (eqb i 0))
  where
    go : (b : Bool) → code_of (event_word (on G u) 0xB7 (pick b 1 2)) ≡ 0xB7
    go true = (word_parts (on G u) 0xB7 1 (omega arith) (omega arith)).code
    go false = (word_parts (on G u) 0xB7 2 (omega arith) (omega arith)).code

pub event_not_packet : (u : Setup) (c m : ℕ) → pair_in (events_of S) c m ≡ true → event_word (on S u) c m ≡ packet_word (on S u) → ⊥
unfolding filter_code packet_word
event_not_packet u c m h e =
    let l = listed S c m h in
    l.other (sym (word_parts (on S u) c m l.code l.mask).code ∙ ap code_of e ∙ (word_parts (on S u) 0 0 (omega arith) (omega arith)).code)

rsp_same : (u : Setup) (i j : ℕ) → i < 2 → j < 2 → eqb (rsp_word (on G u) j) (rsp_word (on G u) i) ≡ eqb j i
unfolding rsp_word event_word enabled enabled_on asked overflow_on both offcore_code rsp_mask
rsp_same u zero zero l k = refl
rsp_same u zero (suc zero) l k = refl
rsp_same u (suc zero) zero l k = refl
rsp_same u (suc zero) (suc zero) l k = refl
rsp_same u (suc (suc i)) j l k = absurd (omega arith)
rsp_same u zero (suc (suc j)) l k = absurd (omega arith)
rsp_same u (suc zero) (suc (suc j)) l k = absurd (omega arith)

pub rsp_some : (u : Setup) (i : ℕ) → rsp_word (on G u) i ≡ 0 → ⊥
unfolding rsp_word event_word enabled enabled_on
rsp_some u i e = omega arith

pub packet_some : (u : Setup) → packet_word (on S u) ≡ 0 → ⊥
unfolding packet_word event_word enabled enabled_on
packet_some u e = omega arith

-- a latency request has one counter on each RSP register
latency_hits : (u : Setup) (i : ℕ) → i < 2 → pick (eqb (rsp_word (on G u) 1) (rsp_word (on G u) i)) 1 0 + pick (eqb (rsp_word (on G u) 0) (rsp_word (on G u) i)) 1 0 ≡ 1
unfolding rsp_word event_word enabled enabled_on asked overflow_on both offcore_code rsp_mask
latency_hits u zero l = refl
latency_hits u (suc zero) l = refl
latency_hits u (suc (suc i)) l = absurd (omega arith)

module _ (u : Setup) where
  pub rsp_hits : (i : ℕ) → i < 2 → {rs : List Request} {ps : List Place} → All (Described (on G u)) rs → Each Allowed rs ps
      → hits (rsp_word (on G u) i) (of_all (uses_of (on G u)) rs ps) ≡ length (of_all (words_of i) rs ps)
  unfolding hits of_all uses_of words_of second
  rsp_hits i l nil none = refl
  rsp_hits i l (cons (event {c = c} {m = m} h a) fs) (and (plans.event b) es) =
      rw (ne_eqb (event_word (on G u) c m) (rsp_word (on G u) i) (event_not_rsp u c m i h)) (omega (arith, rsp_hits i l fs es))
  rsp_hits i l (cons (packet g x y a) fs) (and (plans.packet b) es) = absurd (devices_differ g)
  rsp_hits i l (cons (offcore {w = w} g h t o c) fs) (and {s = rs} {t = ps} (plans.offcore {i = j} b k) es) =
      rw (rsp_same u i j l k) (go (eqb j i) (of_all (words_of i) rs ps) (rsp_hits i l fs es))
    where
      go : (b : Bool) (ws : List ℕ) {n : ℕ} → n ≡ length ws → n + pick b 1 0 ≡ length (pick b (w ∷ []) [] ++ ws)
      go true ws e = omega arith
      go false ws e = omega arith
  rsp_hits i l (cons (latency g h o c d) fs) (and (plans.latency x y) es) = omega (arith, latency_hits u i l, rsp_hits i l fs es)

  pub packet_hits : {rs : List Request} {ps : List Place} → All (Described (on S u)) rs → Each Allowed rs ps
      → hits (packet_word (on S u)) (of_all (uses_of (on S u)) rs ps) ≡ length (flat_map packets_of rs)
  unfolding hits of_all uses_of flat_map packets_of
  packet_hits nil none = refl
  packet_hits (cons (event {c = c} {m = m} h a) fs) (and (plans.event b) es) =
      rw (ne_eqb (event_word (on S u) c m) (packet_word (on S u)) (event_not_packet u c m h)) (omega (arith, packet_hits fs es))
  packet_hits (cons (packet g x y a) fs) (and (plans.packet b) es) = rw (eq-eqb (packet_word (on S u)) (packet_word (on S u)) refl) (omega (arith, packet_hits fs es))
  packet_hits (cons (offcore g h t o c) fs) (and (plans.offcore b k) es) = absurd (devices_differ (sym g))
  packet_hits (cons (latency g h o c d) fs) (and (plans.latency x y) es) = absurd (devices_differ (sym g))

-- ---- latency requests

-- RSP0 holds types and bit 38, RSP1 the same types and bit 16
pub record LatencyPair (s : Setup) (w v : ℕ) : Type 0 where
  pub types : ℕ
  pub described : Described s (Latency types no_counter no_counter)
  pub first_word : w ≡ latency_word 0 types
  pub second_word : v ≡ latency_word 1 types

module _ (s : Setup) (w v : ℕ) (held : bit outstanding w ≡ true) where
  -- as many counters on RSP1 as on RSP0, and one latency word if any
  abbrev Paired : List ℕ → List ℕ → Type 0
  Paired xs ys = (length xs ≤ length ys) × (0 < length xs → LatencyPair s w v)

  pairs : {rs : List Request} {ps : List Place} → All (Described s) rs → Each Allowed rs ps
      → All (λ (x : ℕ). x ≡ w) (of_all (words_of 0) rs ps) → All (λ (x : ℕ). x ≡ v) (of_all (words_of 1) rs ps) → Paired (of_all (words_of 0) rs ps) (of_all (words_of 1) rs ps)
  unfolding of_all words_of
  pairs nil none xs ys = (le_refl 0, λ l. absurd (omega arith))
  pairs (cons (event h a) fs) (and (plans.event b) es) xs ys = pairs fs es xs ys
  pairs (cons (packet g m k a) fs) (and (plans.packet b) es) xs ys = pairs fs es xs ys
  pairs (cons (offcore {w = x} g h t o c) fs) (and (plans.offcore {i = zero} b k) es) (cons e xs) ys = absurd (true≢false (sym held ∙ ap (bit outstanding) (sym e) ∙ no_outstanding x h))
  pairs (cons (offcore g h t o c) fs) (and (plans.offcore {i = suc zero} b k) es) xs (cons e ys) = let below = pairs fs es xs ys in (omega (arith, below.0), below.1)
  pairs (cons (offcore g h t o c) fs) (and (plans.offcore {i = suc (suc i)} b k) es) xs ys = absurd (omega arith)
  pairs (cons (latency {t = t} g h o c d) fs) (and (plans.latency x y) es) (cons e xs) (cons q ys) =
      let below = pairs fs es xs ys in (
        omega (arith, below.0),
        λ l. record { types = t; described = latency g h o (none_within s) (none_within s); first_word = sym e; second_word = sym q },
      )

-- ---- the reader's test

-- the filter values that a plan leaves
abbrev pub LeftFilters : Device → List Request → List Place → FilterValues → Type 0
LeftFilters G rs ps v = (v.rsp0 ≡ head_or 0 (of_all (words_of 0) rs ps)) × (v.rsp1 ≡ head_or 0 (of_all (words_of 1) rs ps))
LeftFilters S rs ps v =
    (v.mm_cfg ≡ pick (nonempty (flat_map packets_of rs)) (2 ^ mm_enable) 0)
    × All (λ (p : ℕ × ℕ). p ≡ (v.match_word, v.mask_word)) (flat_map packets_of rs)
LeftFilters (C b) rs ps v = Unit {0}
LeftFilters B rs ps v = Unit {0}

latency_below : (s : Setup) (t : ℕ) (a b : CounterSet) → Described s (Latency t a b) → t < 2 ^ 38
latency_below s t a b (latency g h o c d) = omega (arith, types_below t h)

latency_held : (s : Setup) (t w : ℕ) (a b : CounterSet) → Described s (Latency t a b) → w ≡ latency_word 0 t → bit outstanding w ≡ true
latency_held s t w a b (latency g h o c d) e = rw e (first_outstanding t h)

module _ (s : Setup) where
  latency_fits_lem : (n m w v : ℕ) → LatencyPair s w v → n ≤ m → latency_fits s n m w v ≡ true
  unfolding latency_fits outstanding any_response latency_word
  latency_fits_lem n m w v p l =
      let t = p.types in
      let rest : (p.types + 2 ^ 38) % 2 ^ 38 ≡ p.types = add-mod_right p.types (2 ^ 38) ∙ mod-eq_of_lt (latency_below s p.types no_counter no_counter p.described) in
      rw (p.first_word, p.second_word, rest)
      (true_both _ _ (eq-eqb (t + 2 ^ 38) (t + 2 ^ 38) refl)
      (true_both _ _ (described_passes s (Latency t no_counter no_counter) p.described)
      (true_both _ _ (eq-eqb (t + 2 ^ 16) (t + 2 ^ 16) refl) (le-leb n m l))))

  rsp1_fits_lem : (ws : List ℕ) → All (λ (w : ℕ). Described s (Offcore w no_counter)) ws → rsp1_fits s (length ws) (head_or 0 ws) ≡ true
  unfolding rsp1_fits
  rsp1_fits_lem [] h = refl
  rsp1_fits_lem (w ∷ ws) (cons h hs) = rw (ne_eqb (suc (length ws)) 0 (λ e. omega arith)) (described_passes s (Offcore w no_counter) h)

  rsp0_fits_lem : (rs : List Request) (xs ys : List ℕ) → All (FirstWord s rs) xs
      → (bit outstanding (head_or 0 xs) ≡ true → (length xs ≤ length ys) × (0 < length xs → LatencyPair s (head_or 0 xs) (head_or 0 ys)))
      → rsp0_fits s (length xs) (length ys) (head_or 0 xs) (head_or 0 ys) ≡ true
  unfolding rsp0_fits
  rsp0_fits_lem rs [] ys h p = refl
  rsp0_fits_lem rs (w ∷ xs) ys (cons (offcore_word h) hs) p =
      rw (ne_eqb (suc (length xs)) 0 (λ e. omega arith)) (either_left _ _ (described_passes s (Offcore w no_counter) h))
  rsp0_fits_lem rs (w ∷ xs) ys (cons (latency_word_lem t a b m h e) hs) p =
      let q = p (latency_held s t w a b h e) in
      rw (ne_eqb (suc (length xs)) 0 (λ z. omega arith)) (either_right _ _ (latency_fits_lem (suc (length xs)) (length ys) w (head_or 0 ys) (q.1 (omega arith)) q.0))

-- MM_CFG goes by the number of packet requests
pub enabled_by : (ps : List (ℕ × ℕ)) → pick (nonempty ps) (2 ^ mm_enable) 0 ≡ pick (eqb (length ps) 0) 0 (2 ^ mm_enable)
enabled_by [] = refl
enabled_by (p ∷ ps) = rw (ne_eqb (suc (length ps)) 0 (λ e. omega arith))

-- MATCH and MASK hold the words of the packet requests, if any
packets_fit_lem : (s : Setup) (asked : List (ℕ × ℕ)) (v : FilterValues) → v.mm_cfg ≡ pick (nonempty asked) (2 ^ mm_enable) 0
    → All (λ (p : ℕ × ℕ). p ≡ (v.match_word, v.mask_word)) asked
    → All (λ (p : ℕ × ℕ). Described s (Packet p.0 p.1 no_counter)) asked → packets_fit s (length asked) v ≡ true
unfolding packets_fit
packets_fit_lem s [] v e held h = eq-eqb _ _ e
packets_fit_lem s (p ∷ ps) v e (cons here held) (cons h hs) =
    rw (ne_eqb (suc (length ps)) 0 (λ z. omega arith))
    (true_both _ _ (eq-eqb _ _ e)
    (described_passes s (Packet v.match_word v.mask_word no_counter) (subst (λ (r : ℕ × ℕ). Described s (Packet r.0 r.1 no_counter)) here h)))

pub filters_fit_lem : (d : Device) (u : Setup) (rs : List Request) (ps : List Place) (v : FilterValues)
    → All (Described (on d u)) rs → Legal (on d u) rs ps → LeftFilters d rs ps v → filters_fit (on d u) (word_at (of_all (uses_of (on d u)) rs ps)) v ≡ true
unfolding filters_fit
filters_fit_lem G u rs ps v f legal left =
    let s = on G u in
    let xs = of_all (words_of 0) rs ps in
    let ys = of_all (words_of 1) rs ps in
    let on0 = count_uses s rs ps legal (rsp_word (on G u) 0) (rsp_some u 0) ∙ rsp_hits u 0 (omega arith) f legal.allowed in
    let on1 = count_uses s rs ps legal (rsp_word (on G u) 1) (rsp_some u 1) ∙ rsp_hits u 1 (omega arith) f legal.allowed in
    rw (on0, on1, left.0, left.1)
    (true_both _ _ (rsp1_fits_lem s ys (second_words s f legal.allowed))
    (rsp0_fits_lem s rs xs ys (first_words s f legal.allowed)
    (λ held. pairs s (head_or 0 xs) (head_or 0 ys) held f legal.allowed (one_value 0 xs (legal.one_word 0 (omega arith))) (one_value 0 ys (legal.one_word 1 (omega arith))))))
filters_fit_lem S u rs ps v f legal left =
    let on0 = count_uses (on S u) rs ps legal (packet_word (on S u)) (packet_some u) ∙ packet_hits u f legal.allowed in
    rw on0 (packets_fit_lem (on S u) (flat_map packets_of rs) v left.0 left.1 (packet_words (on S u) f))
filters_fit_lem (C b) u rs ps v f legal left = refl
filters_fit_lem B u rs ps v f legal left = refl
