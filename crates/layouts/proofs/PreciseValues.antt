-- The value of IA32_PEBS_ENABLE beside a plan's control words is the one that the order gives the plan's requests. Assumes nothing.
--     enables     the value of a legal plan on B
--     pdir-alone  a plan with C0/01 has the one counter 1
use mathlib.Core.Path.{◌≡◌, refl, sym, ap, ap₂, subst, ◌∙◌}
use mathlib.Core.Logic.{⊎_elim}
use mathlib.Core.Bool.{Bool, true, false, true≢false}
use mathlib.Core.List.{List, [], ◌∷◌, flat_map, Memᴰ}
use Prim.Native.Nat.{ℕ, ◌+◌, ◌^◌, ◌<◌}
use native.Mathlib.Omega.{arith}
use borrow.Author.Tests.{eqb-true, eq-eqb}
use Rattle.requests.specs.Choice.{both, pick}
use Rattle.requests.specs.declared.CounterSet.{CounterSet}
use Rattle.requests.specs.declared.Device.TheVariants.{B}
use Rattle.requests.specs.declared.Setup.{Setup}
use Rattle.requests.specs.declared.Request.{Request}
use Rattle.requests.specs.declared.Request.TheVariants.{Event}
use Rattle.requests.specs.Devices.{counter_count, all_counters}
use Rattle.requests.specs.RuledEvents.{RunsOn, instructions, stores, pdir}
use Rattle.requests.specs.WellFormedRequests.{Described}
use Rattle.requests.proofs.Tests.{both_parts, true_both}
use Rattle.plans.specs.declared.Place.{Place}
use Rattle.plans.specs.declared.Place.TheVariants.{Counter}
use Rattle.plans.specs.Lists.{All, Each, none, and}
use Rattle.plans.specs.Places.{counted_of, counters_of}
use Rattle.plans.specs.Legal.{Allowed, Legal, counters}
use Rattle.layouts.specs.Layout.{precise_store, is_event, code_of, mask_of}
use Rattle.layouts.specs.Settings.{word_at}
use Rattle.layouts.specs.Writes.{pebs_enable}
use Rattle.layouts.specs.PreciseEvents as precise
use Rattle.layouts.specs.PreciseEvents.{TakesPdir, TakesStores, Enables}
use Rattle.layouts.proofs.UsableSets.{on}
use Rattle.layouts.proofs.ControlWords.{listed, word_parts}
use Rattle.layouts.proofs.PlanWords.{uses_in}
use Rattle.layouts.proofs.PlanFilters.{b_not_g, b_not_s}
use Rattle.layouts.proofs.PlacedEvents.{Given, here, given_member, member_given, each_given, one_place, Counted, word_given, given_word}
use Rattle.layouts.proofs.RuledWords.{counter_path}

-- the place of the only request
single : {r : Request} {p : Place} {rs : List Request} {ps : List Place} → Each Allowed rs ps → rs ≡ r ∷ [] → Given r p rs ps → ps ≡ p ∷ []
single {r} {p} {rs} {ps} es e g = go (subst (λ (l : List Request). Each Allowed l ps) e es) (subst (λ (l : List Request). Given r p l ps) e g)
  where
    go : {r q : Request} {p : Place} {ps : List Place} → Each Allowed (q ∷ []) ps → Given r p (q ∷ []) ps → ps ≡ p ∷ []
    go (and a none) here = refl
    go {q = q} (and {b = b} a none) (Rattle.layouts.proofs.PlacedEvents.later x19) = elim x19 [ ]

-- a counter that is off counts neither
pub pdir_off : is_event 0xC0 0x01 0 ≡ false
unfolding is_event code_of mask_of both
pdir_off = refl

pub stores_off : is_event 0xCD 0x02 0 ≡ false
unfolding is_event code_of mask_of both
stores_off = refl

module _ (u : Setup) (rs : List Request) (ps : List Place) (legal : Legal (on B u) rs ps) where
  abbrev s : Setup
  s = on B u

  abbrev us : List (ℕ × ℕ)
  us = uses_in (on B u) rs ps

  -- a request that runs on counter k is there
  runs_there : {r : Request} {k : ℕ} → RunsOn B r k → Memᴰ r rs → Given r (Counter k) rs ps
  runs_there {r} {k} runs m =
      let found = member_given legal.ruled m in
      subst (λ (p : Place). Given r p rs ps) (each_given legal.ruled found.1 k runs) found.1

  pub pdir_alone : TakesPdir rs → (counters ps ≡ 1 ∷ []) × (u.usable.0 ≡ 15)
  unfolding counters flat_map counters_of counted_of all_counters counter_count
  pdir_alone t =
      let r = Event 0xC0 0x01 t.0 in
      (ap counters (single legal.allowed (legal.alone r t.1 pdir) (runs_there instructions t.1)), legal.quiet r t.1 pdir)

  module _ (described : All (Described (on B u)) rs) where
    -- a counter that counts an event: a request for it is there
    event_taken : (c m k : ℕ) → is_event c m (word_at us k) ≡ true → is_event c m 0 ≡ false → (a : CounterSet) × Given (Event c m a) (Counter k) rs ps
    unfolding is_event
    event_taken c m k h off =
        ⊎_elim
        (λ z. absurd (true≢false (sym h ∙ ap (is_event c m) z ∙ off)))
        (λ (x : Counted s b_not_g b_not_s rs ps k (word_at us k)).
        let l = listed B x.code x.mask x.listed in
        let p = word_parts s x.code x.mask l.code l.mask in
        let parts = both_parts _ _ h in
        let code : x.code ≡ c = sym (ap code_of x.word ∙ p.code) ∙ eqb-true _ _ parts.0 in
        let mask : x.mask ≡ m = sym (ap mask_of x.word ∙ p.mask) ∙ eqb-true _ _ parts.1 in
        (x.set, subst (λ (r : Request). Given r (Counter k) rs ps) (ap₂ (λ (i j : ℕ). Event i j x.set) code mask) x.given))
        (word_given s b_not_g b_not_s described legal.allowed k)

    -- a request that runs on counter k: its word is there
    taken_event : (c m k : ℕ) (a : CounterSet) → RunsOn B (Event c m a) k → Memᴰ (Event c m a) rs → c < 256 → m < 256 → is_event c m (word_at us k) ≡ true
    unfolding is_event
    taken_event c m k a runs taken l n =
        let word = given_word s b_not_g b_not_s described legal.allowed legal.differ (runs_there runs taken) in
        let p = word_parts s c m l n in
        true_both _ _ (eq-eqb _ _ (ap code_of word ∙ p.code)) (eq-eqb _ _ (ap mask_of word ∙ p.mask))

    -- C0/01 and CD/02 are not both taken
    apart : TakesPdir rs → TakesStores rs → ⊥
    apart p q =
        let r = Event 0xC0 0x01 p.0 in
        let only = legal.alone r p.1 pdir in
        let first : Given r (Counter 1) (r ∷ []) ps = subst (λ (l : List Request). Given r (Counter 1) l ps) only (runs_there instructions p.1) in
        let second : Given (Event 0xCD 0x02 q.0) (Counter 3) (r ∷ []) ps =
        subst (λ (l : List Request). Given (Event 0xCD 0x02 q.0) (Counter 3) l ps) only (runs_there stores q.1) in
        let e = counter_path 1 3 (one_place first second) in omega arith

    pub enables : Enables rs (pebs_enable (word_at us))
    unfolding pebs_enable precise_store
    enables = go (is_event 0xC0 0x01 (word_at us 1)) refl (is_event 0xCD 0x02 (word_at us 3)) refl
      where
        pdir_taken : is_event 0xC0 0x01 (word_at us 1) ≡ true → TakesPdir rs
        pdir_taken h = let t = event_taken 0xC0 0x01 1 h pdir_off in (t.0, given_member t.1)

        stores_taken : is_event 0xCD 0x02 (word_at us 3) ≡ true → TakesStores rs
        stores_taken h = let t = event_taken 0xCD 0x02 3 h stores_off in (t.0, given_member t.1)

        go : (a : Bool) → is_event 0xC0 0x01 (word_at us 1) ≡ a → (b : Bool) → is_event 0xCD 0x02 (word_at us 3) ≡ b
            → Enables rs (pick a (2 ^ 1) 0 + pick b (2 ^ 3 + 2 ^ 63) 0)
        go true h true g = absurd (apart (pdir_taken h) (stores_taken g))
        go true h false g = precise.pdir (pdir_taken h)
        go false h true g = precise.stores (stores_taken g)
        go false h false g =
            precise.neither
            (λ t. true≢false (sym (taken_event 0xC0 0x01 1 t.0 instructions t.1 (omega arith) (omega arith)) ∙ h))
            (λ t. true≢false (sym (taken_event 0xCD 0x02 3 t.0 stores t.1 (omega arith) (omega arith)) ∙ g))
