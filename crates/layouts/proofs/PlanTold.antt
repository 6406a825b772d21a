-- What the reader tells of a plan's control word is what the plan has at that counter. Assumes nothing.
--     tell-plan   counter by counter, where the filter registers hold what the requests ask for
use Rattle.std.specs.Prelude.{None, Some}
use mathlib.Core.Path.{◌≡◌, refl, sym, ap, ◌∙◌}
use mathlib.Core.Bool.{Bool, true, false}
use mathlib.Core.List.{List, [], ◌∷◌, flat_map}
use Prim.Native.Nat.{ℕ, zero, suc}
use native.Mathlib.Omega.{arith}
use borrow.Author.Tests.{eq-eqb, ne_eqb}
use lib.Dec.{eqb}
use Rattle.requests.specs.Choice.{both, pick}
use Rattle.requests.specs.declared.Setup.{Setup}
use Rattle.requests.specs.declared.Device.{Device}
use Rattle.requests.specs.declared.Device.TheVariants.{G, S, C, B}
use Rattle.requests.specs.declared.Request.{Request}
use Rattle.requests.specs.Askings.{overflow_on, asked}
use Rattle.requests.specs.Bits.{latency_word}
use Rattle.requests.specs.Catalogue.{events_of, pair_in}
use Rattle.requests.specs.WellFormedRequests.{Described, event, packet, offcore, latency}
use Rattle.plans.specs.declared.Place.{Place}
use Rattle.plans.specs.Lists as lists
use Rattle.plans.specs.Lists.{All, nil, cons, Each, and}
use Rattle.plans.specs.Places.{first, second}
use Rattle.plans.specs.Legal.{Allowed, words_of, packets_of, of_all}
use Rattle.plans.specs.Legal as plans
use Rattle.layouts.specs.Layout.{event_word, enabled, enabled_on, code_of, mask_of, offcore_code, rsp_mask, rsp_word, packet_word}
use Rattle.layouts.specs.Settings.{uses_of, word_at}
use Rattle.layouts.specs.Read.{filter_of, tell}
use Rattle.layouts.specs.Told.{Told, counting, told, told_of, told_at}
use Rattle.layouts.specs.declared.FilterValues.{FilterValues}
use Rattle.layouts.proofs.UsableSets.{on}
use Rattle.layouts.proofs.ControlWords.{listed, word_parts}
use Rattle.layouts.proofs.PlanFilters.{devices_differ, c_not_g, c_not_s, b_not_g, b_not_s, event_not_rsp, event_not_packet}

-- ---- one word

-- a counter that has no use is off
tell_none : (s : Setup) (v : FilterValues) (k : ℕ) → told (tell s v (word_at [] k)) ≡ told_at [] k
unfolding tell told word_at told_at
tell_none s v k = refl

tell_event : (d : Device) (u : Setup) (v : FilterValues) (c m : ℕ) → pair_in (events_of d) c m ≡ true → told (tell (on d u) v (event_word (on d u) c m)) ≡ counting c m None []
unfolding tell told filter_of
tell_event G u v c m h =
    let l = listed G c m h in
    let p = word_parts (on G u) c m l.code l.mask in
    rw (ne_eqb (event_word (on G u) c m) 0 p.some_bit, p.code, p.mask, ne_eqb (event_word (on G u) c m) (rsp_word (on G u) 0) (event_not_rsp u c m 0 h), ne_eqb (event_word (on G u) c m) (rsp_word (on G u) 1) (event_not_rsp u c m 1 h))
tell_event S u v c m h =
    let l = listed S c m h in
    let p = word_parts (on S u) c m l.code l.mask in
    rw (ne_eqb (event_word (on S u) c m) 0 p.some_bit, p.code, p.mask, ne_eqb (event_word (on S u) c m) (packet_word (on S u)) (event_not_packet u c m h))
tell_event (C b) u v c m h =
    let l = listed (C b) c m h in
    let p = word_parts (on (C b) u) c m l.code l.mask in
    rw (ne_eqb (event_word (on (C b) u) c m) 0 p.some_bit, p.code, p.mask)
tell_event B u v c m h =
    let l = listed B c m h in
    let p = word_parts (on B u) c m l.code l.mask in
    rw (ne_eqb (event_word (on B u) c m) 0 p.some_bit, p.code, p.mask)

tell_rsp0 : (u : Setup) (v : FilterValues) → told (tell (on G u) v (rsp_word (on G u) 0)) ≡ counting offcore_code (rsp_mask 0) (Some 0) (v.rsp0 ∷ [])
unfolding tell told filter_of rsp_word event_word enabled enabled_on asked overflow_on both offcore_code rsp_mask code_of mask_of
tell_rsp0 u v = refl

tell_rsp1 : (u : Setup) (v : FilterValues) → told (tell (on G u) v (rsp_word (on G u) 1)) ≡ counting offcore_code (rsp_mask 1) (Some 1) (v.rsp1 ∷ [])
unfolding tell told filter_of rsp_word event_word enabled enabled_on asked overflow_on both offcore_code rsp_mask code_of mask_of
tell_rsp1 u v = refl

tell_packet : (u : Setup) (v : FilterValues) → told (tell (on S u) v (packet_word (on S u))) ≡ counting 0 0 None (v.match_word ∷ v.mask_word ∷ [])
unfolding tell told filter_of packet_word
tell_packet u v =
    let p = word_parts (on S u) 0 0 (omega arith) (omega arith) in
    rw (ne_eqb (event_word (on S u) 0 0) 0 p.some_bit, p.code, p.mask, eq-eqb (event_word (on S u) 0 0) (event_word (on S u) 0 0) refl)

-- ---- one counter

module _ (s : Setup) (v : FilterValues) (k : ℕ) where
  -- one use more, with what is to be told of it
  tell_use : (j w : ℕ) (t : Told) (us : List (ℕ × ℕ)) (ts : List (ℕ × Told)) → told (tell s v w) ≡ t → told (tell s v (word_at us k)) ≡ told_at ts k
      → told (tell s v (word_at ((j, w) ∷ us) k)) ≡ told_at ((j, t) ∷ ts) k
  unfolding word_at told_at
  tell_use j w t us ts e q = go (eqb j k)
    where
      go : (b : Bool) → told (tell s v (pick b w (word_at us k))) ≡ pick b t (told_at ts k)
      go true = e
      go false = q

-- the filter registers hold what the requests ask for
abbrev pub Holds : Device → List Request → List Place → FilterValues → Type 0
Holds G rs ps v = All (λ (w : ℕ). w ≡ v.rsp0) (of_all (words_of 0) rs ps) × All (λ (w : ℕ). w ≡ v.rsp1) (of_all (words_of 1) rs ps)
Holds S rs ps v = All (λ (p : ℕ × ℕ). p ≡ (v.match_word, v.mask_word)) (flat_map packets_of rs)
Holds (C b) rs ps v = Unit {0}
Holds B rs ps v = Unit {0}

module _ (u : Setup) (v : FilterValues) (k : ℕ) where
  tell_g : {rs : List Request} {ps : List Place} → All (Described (on G u)) rs → Each Allowed rs ps
      → All (λ (w : ℕ). w ≡ v.rsp0) (of_all (words_of 0) rs ps) → All (λ (w : ℕ). w ≡ v.rsp1) (of_all (words_of 1) rs ps)
      → told (tell (on G u) v (word_at (of_all (uses_of (on G u)) rs ps) k)) ≡ told_at (of_all told_of rs ps) k
  unfolding of_all uses_of told_of words_of first second
  tell_g nil lists.none xs ys = tell_none (on G u) v k
  tell_g (cons (event {c = c} {m = m} h a) fs) (and {s = rs} {t = ps} (plans.event {k = j} b) es) xs ys =
      tell_use (on G u) v k j (event_word (on G u) c m) (counting c m None []) (of_all (uses_of (on G u)) rs ps) (of_all told_of rs ps) (tell_event G u v c m h) (tell_g fs es xs ys)
  tell_g (cons (packet g x y a) fs) (and (plans.packet b) es) xs ys = absurd (devices_differ g)
  tell_g (cons (offcore {w = w} g h t o c) fs) (and {s = rs} {t = ps} (plans.offcore {k = j} {i = zero} b l) es) (cons e xs) ys =
      tell_use (on G u) v k j (rsp_word (on G u) 0) (counting offcore_code (rsp_mask 0) (Some 0) (w ∷ [])) (of_all (uses_of (on G u)) rs ps) (of_all told_of rs ps)
      (tell_rsp0 u v ∙ ap (λ (x : ℕ). counting offcore_code (rsp_mask 0) (Some 0) (x ∷ [])) (sym e)) (tell_g fs es xs ys)
  tell_g (cons (offcore {w = w} g h t o c) fs) (and {s = rs} {t = ps} (plans.offcore {k = j} {i = suc zero} b l) es) xs (cons e ys) =
      tell_use (on G u) v k j (rsp_word (on G u) 1) (counting offcore_code (rsp_mask 1) (Some 1) (w ∷ [])) (of_all (uses_of (on G u)) rs ps) (of_all told_of rs ps)
      (tell_rsp1 u v ∙ ap (λ (x : ℕ). counting offcore_code (rsp_mask 1) (Some 1) (x ∷ [])) (sym e)) (tell_g fs es xs ys)
  tell_g (cons (offcore g h t o c) fs) (and (plans.offcore {i = suc (suc i)} b l) es) xs ys = absurd (omega arith)
  tell_g (cons (latency {t = t} g h o c d) fs) (and {s = rs} {t = ps} (plans.latency {j = i} {k = j} x y) es) (cons e xs) (cons q ys) =
      let second-told = counting offcore_code (rsp_mask 1) (Some 1) (latency_word 1 t ∷ []) in
      tell_use (on G u) v k i (rsp_word (on G u) 0) (counting offcore_code (rsp_mask 0) (Some 0) (latency_word 0 t ∷ [])) ((j, rsp_word (on G u) 1) ∷ of_all (uses_of (on G u)) rs ps) ((j, second-told) ∷ of_all told_of rs ps)
      (tell_rsp0 u v ∙ ap (λ (x : ℕ). counting offcore_code (rsp_mask 0) (Some 0) (x ∷ [])) (sym e))
      (tell_use (on G u) v k j (rsp_word (on G u) 1) second-told (of_all (uses_of (on G u)) rs ps) (of_all told_of rs ps)
      (tell_rsp1 u v ∙ ap (λ (x : ℕ). counting offcore_code (rsp_mask 1) (Some 1) (x ∷ [])) (sym q)) (tell_g fs es xs ys))

  tell_s : {rs : List Request} {ps : List Place} → All (Described (on S u)) rs → Each Allowed rs ps
      → All (λ (p : ℕ × ℕ). p ≡ (v.match_word, v.mask_word)) (flat_map packets_of rs)
      → told (tell (on S u) v (word_at (of_all (uses_of (on S u)) rs ps) k)) ≡ told_at (of_all told_of rs ps) k
  unfolding of_all uses_of told_of flat_map packets_of first second
  tell_s nil lists.none xs = tell_none (on S u) v k
  tell_s (cons (event {c = c} {m = m} h a) fs) (and {s = rs} {t = ps} (plans.event {k = j} b) es) xs =
      tell_use (on S u) v k j (event_word (on S u) c m) (counting c m None []) (of_all (uses_of (on S u)) rs ps) (of_all told_of rs ps) (tell_event S u v c m h) (tell_s fs es xs)
  tell_s (cons (packet {x = x} {y = y} g m l a) fs) (and {s = rs} {t = ps} (plans.packet {k = j} b) es) (cons e xs) =
      tell_use (on S u) v k j (packet_word (on S u)) (counting 0 0 None (x ∷ y ∷ [])) (of_all (uses_of (on S u)) rs ps) (of_all told_of rs ps)
      (tell_packet u v ∙ ap (λ (p : ℕ × ℕ). counting 0 0 None (p.0 ∷ p.1 ∷ [])) (sym e)) (tell_s fs es xs)
  tell_s (cons (offcore g h t o c) fs) (and (plans.offcore b l) es) xs = absurd (devices_differ (sym g))
  tell_s (cons (latency g h o c d) fs) (and (plans.latency x y) es) xs = absurd (devices_differ (sym g))

  -- a device that has events only
  tell_bare : (d : Device) → (d ≡ G → ⊥) → (d ≡ S → ⊥) → {rs : List Request} {ps : List Place} → All (Described (on d u)) rs → Each Allowed rs ps
      → told (tell (on d u) v (word_at (of_all (uses_of (on d u)) rs ps) k)) ≡ told_at (of_all told_of rs ps) k
  unfolding of_all uses_of told_of first second
  tell_bare d no-g no-s nil lists.none = tell_none (on d u) v k
  tell_bare d no-g no-s (cons (event {c = c} {m = m} h a) fs) (and {s = rs} {t = ps} (plans.event {k = j} x) es) =
      tell_use (on d u) v k j (event_word (on d u) c m) (counting c m None []) (of_all (uses_of (on d u)) rs ps) (of_all told_of rs ps) (tell_event d u v c m h) (tell_bare d no-g no-s fs es)
  tell_bare d no-g no-s (cons (packet g m l a) fs) (and (plans.packet x) es) = absurd (no-s g)
  tell_bare d no-g no-s (cons (offcore g h t o c) fs) (and (plans.offcore x l) es) = absurd (no-g g)
  tell_bare d no-g no-s (cons (latency g h o c e) fs) (and (plans.latency x y) es) = absurd (no-g g)

pub tell_plan : (d : Device) (u : Setup) (rs : List Request) (ps : List Place) (v : FilterValues) (k : ℕ) → All (Described (on d u)) rs → Each Allowed rs ps → Holds d rs ps v
    → told (tell (on d u) v (word_at (of_all (uses_of (on d u)) rs ps) k)) ≡ told_at (of_all told_of rs ps) k
tell_plan G u rs ps v k f es h = tell_g u v k f es h.0 h.1
tell_plan S u rs ps v k f es h = tell_s u v k f es h
tell_plan (C b) u rs ps v k f es h = tell_bare u v k (C b) (c_not_g b) (c_not_s b) f es
tell_plan B u rs ps v k f es h = tell_bare u v k B b_not_g b_not_s f es
