-- The frame of the U-Box: `UBox`. The list that asks something is the other one, write by write, with pmi_en where a counter is switched on.
use Rattle.std.specs.Prelude.{Option, None, Some}
use mathlib.Core.Path.{◌≡◌, refl, sym, ap, ap₂, ◌∙◌}
use mathlib.Core.Logic.{◌≢◌, ⊎_elim}
use mathlib.Core.Bool.{Bool, true, false, not, false≢true}
use mathlib.Core.List.{List, [], ◌∷◌, ◌++◌, map, map-append}
use Prim.Native.Nat.{ℕ, zero, suc, ◌+◌, ◌*◌, ◌^◌, ◌≤◌, ◌<◌}
use native.Mathlib.Omega.{arith}
use lib.Dec.{eqb}
use lib.ListN.{get_or}
use borrow.Author.Tests.{ne_eqb}
use Rattle.requests.specs.declared.CounterSet.{CounterSet}
use Rattle.requests.specs.declared.Device.{Device}
use Rattle.requests.specs.declared.Device.TheVariants.{G, S, C, B}
use Rattle.requests.specs.declared.Opening.{Opening}
use Rattle.requests.specs.declared.Request.{Request}
use Rattle.requests.specs.declared.Request.TheVariants.{Event, Packet, Offcore, Latency}
use Rattle.requests.specs.declared.Setup.{Setup}
use Rattle.requests.specs.Choice.{both, either, pick}
use Rattle.requests.specs.Refusals.{answer_number}
use Rattle.requests.specs.Bits.{bit, in_list}
use Rattle.requests.specs.Askings.{overflow_on, core_count, unasked, core_given, asks, asked}
use Rattle.requests.specs.Devices.{has, counter_count, capacity, setup_of}
use Rattle.requests.specs.Openings.{NothingAsked, CoreInField, InRange}
use Rattle.requests.proofs.Tests.{both_false}
use Rattle.requests.proofs.BitMembers.{in_member}
use Rattle.requests.proofs.OpeningsTaken.{openings}
use Rattle.plans.specs.declared.Place.{Place}
use Rattle.plans.specs.Lists.{All, nil, cons}
use Rattle.plans.specs.Places.{second}
use Rattle.plans.specs.Legal.{Legal, Usable, of_all, counters}
use Rattle.plans.proofs.Sets.{all_imp}
use Rattle.layouts.specs.Layout.{tabulate, layout_of, control_at, ubox_at, pebs_on, frz_all, en_all, core_sel, pmi_enable, enabled, event_word, offcore_code, rsp_mask, rsp_word, packet_word}
use Rattle.layouts.specs.Settings.{uses_of, word_at, settings_of}
use Rattle.layouts.specs.Writes.{Write, rows, zeros, fixed_enables, unusable, first_global, last_global, filter_writes, precise_writes, core_bit, ubox_value, box_writes, writes_for, writes}
use Rattle.layouts.specs.Read.{read_of, answer_of}
use Rattle.layouts.specs.UBox.{asking_nothing, with_pmi, core_field, last_value, UBox}
use Rattle.layouts.specs.declared.RegisterValues.{RegisterValues}
use Rattle.layouts.proofs.ListLaws.{all_member, tabulate_member, map_same, map_joined, table_in, zero_at}
use Rattle.layouts.proofs.Tabulated.{get_d_tabulate}
use Rattle.layouts.proofs.WordBits.{bit_high}
use Rattle.layouts.proofs.DeviceFacts.{in_room, apart}
use Rattle.layouts.proofs.EnableBits.{enables, asked_served}
use Rattle.layouts.proofs.RegistersAfter.{rows_map, filter_addresses_lem, precise_addresses, box_other, unasked_writes}
use Rattle.layouts.proofs.GlobalValues.{used_has}
use Rattle.layouts.proofs.Counts.{counter_of}
use Rattle.layouts.proofs.FormedRequests.{describe_all}
use Rattle.layouts.proofs.ControlWords.{ControlWord, plan_words, word_at_lem, word_high}
use Rattle.layouts.proofs.PlanWords.{uses_in, uses_counters, words_some, uses_some, control_left, ubox_left}
use Rattle.layouts.proofs.ExactReader.{exact_reader}

-- ---- the last value

freeze_is : (f : ℕ) → f ≤ 1 → pick (eqb f 0) 0 (2 ^ 31) ≡ 0x80000000 * f
freeze_is zero l = refl
freeze_is (suc zero) l = refl
freeze_is (suc (suc f)) l = absurd (omega arith)

core_is : (c : Option ℕ) → CoreInField c → core_bit c ≡ 2 * core_field c
unfolding core_bit core_count core_sel core_field
core_is None l = refl
core_is (Some zero) l = refl
core_is (Some (suc zero)) l = refl
core_is (Some (suc (suc zero))) l = refl
core_is (Some (suc (suc (suc zero)))) l = refl
core_is (Some (suc (suc (suc (suc zero))))) l = refl
core_is (Some (suc (suc (suc (suc (suc zero)))))) l = refl
core_is (Some (suc (suc (suc (suc (suc (suc zero))))))) l = refl
core_is (Some (suc (suc (suc (suc (suc (suc (suc zero)))))))) l = refl
core_is (Some (suc (suc (suc (suc (suc (suc (suc (suc c))))))))) l = absurd (let z = l in omega arith)

value_is : (o : Opening) (s : Setup) → setup_of o ≡ Some s → ¬ NothingAsked o.overflow → ubox_value s ≡ last_value o.overflow
unfolding ubox_value en_all frz_all last_value
value_is o s e n =
    let h = openings.only o s e in
    let range : InRange o.overflow = ⊎_elim (λ x. absurd (n x)) (λ x. x.1) h.askings in
    rw (← h.overflow)
    (ap₂ (λ (f c : ℕ). 2 ^ 28 + f + c) (freeze_is o.overflow.freeze range.0) (core_is o.overflow.core range.1))

-- ---- what pmi_en is added to

module _ (s : Setup) where
  abbrev d : Device
  d = s.device

  abbrev controls : List ℕ
  controls = tabulate (counter_count s.device) (control_at s.device)

  -- a write of a register that is none of the selects
  other_same : (w : Write) → ((k : ℕ) → k < capacity → w.0 ≡ control_at s.device k → ⊥) → with_pmi s w ≡ w
  unfolding with_pmi both
  other_same w other = go (in_list controls w.0) refl
    where
      go : (b : Bool) → in_list controls w.0 ≡ b → pick (both b (not (eqb w.1 0))) (w.0, w.1 + 0x100000) w ≡ w
      go true h = let m = tabulate_member (counter_count s.device) (control_at s.device) w.0 (in_member controls w.0 h) in absurd (other m.0 (in_room s.device m.0 m.1) m.2)
      go false h = refl

  -- a 0
  zero_same : (a : ℕ) → with_pmi s (a, 0) ≡ (a, 0)
  unfolding with_pmi
  zero_same a = rw (both_false (in_list controls a))

  -- a select that is not 0
  select_more : (k w : ℕ) → k < counter_count s.device → w ≢ 0 → with_pmi s (control_at s.device k, w) ≡ (control_at s.device k, w + 0x100000)
  unfolding with_pmi both
  select_more k w l on = rw (table_in (counter_count s.device) (control_at s.device) k l, ne_eqb w 0 on)

-- ---- the parts of the list

-- a use with pmi_en
abbrev more : ℕ × ℕ → ℕ × ℕ
more u = (u.0, u.1 + 0x100000)

-- the word of a counter that is used, and that it is not 0
words_more : (us : List (ℕ × ℕ)) (k : ℕ) → in_list (map counter_of us) k ≡ true → word_at (map more us) k ≡ word_at us k + 0x100000
unfolding in_list word_at either
words_more [] k h = absurd (false≢true h)
words_more (u ∷ us) k h = go (eqb u.0 k) h (words_more us k)
  where
    go : (b : Bool) → either b (in_list (map counter_of us) k) ≡ true → (in_list (map counter_of us) k ≡ true → word_at (map more us) k ≡ word_at us k + 0x100000)
        → pick b (u.1 + 0x100000) (word_at (map more us) k) ≡ pick b u.1 (word_at us k) + 0x100000
    go true e later = refl
    go false e later = later e

-- ---- the whole list

module _ (s : Setup) (rs : List Request) (ps : List Place) (legal : Legal s rs ps) (h : asked s ≡ true) where
  abbrev still : Setup
  still = asking_nothing s

  still_unasked : asked (asking_nothing s) ≡ false
  unfolding asking_nothing asked asks unasked core_given either
  still_unasked = both_false (overflow_on s.device)

  word_more : (c m : ℕ) → event_word s c m ≡ event_word (asking_nothing s) c m + 0x100000
  unfolding event_word enabled pmi_enable asking_nothing
  word_more c m = rw (h, still_unasked) (omega arith)

  use_more : (r : Request) (p : Place) → uses_of s r p ≡ map more (uses_of (asking_nothing s) r p)
  unfolding uses_of rsp_word packet_word
  use_more (Event c m a) p = rw (word_more c m)
  use_more (Packet x y a) p = rw (word_more 0 0)
  use_more (Offcore w a) p = rw (word_more offcore_code (rsp_mask (second p)))
  use_more (Latency t a b) p = rw (word_more offcore_code (rsp_mask 0), word_more offcore_code (rsp_mask 1))

  uses_more : (rs : List Request) (ps : List Place) → of_all (uses_of s) rs ps ≡ map more (of_all (uses_of (asking_nothing s)) rs ps)
  unfolding of_all
  uses_more [] ps = refl
  uses_more (r ∷ rs) [] = refl
  uses_more (r ∷ rs) (p ∷ ps) = ap₂ ◌++◌ (use_more r p) (uses_more rs ps) ∙ sym (map-append more (uses_of (asking_nothing s) r p) (of_all (uses_of (asking_nothing s)) rs ps))

  -- the word of a used counter
  select_is : (k : ℕ) → k < counter_count s.device → has (settings_of (asking_nothing s) rs ps).used k ≡ true
      → with_pmi s (control_at s.device k, get_or (settings_of (asking_nothing s) rs ps).words k 0) ≡ (control_at s.device k, get_or (settings_of s rs ps).words k 0)
  unfolding settings_of asking_nothing
  select_is k l on =
      let us = of_all (uses_of (asking_nothing s)) rs ps in
      let room = in_room s.device k l in
      let used : in_list (map counter_of us) k ≡ true = ap (λ (ks : List ℕ). in_list ks k) (uses_counters (asking_nothing s) legal.allowed) ∙ sym (used_has (asking_nothing s) rs ps k l) ∙ on in
      let plain = get_d_tabulate capacity (word_at us) k 0 room in
      let marked = get_d_tabulate capacity (word_at (of_all (uses_of s) rs ps)) k 0 room ∙ ap (λ (x : List (ℕ × ℕ)). word_at x k) (uses_more rs ps) ∙ words_more us k used in
      rw (plain, marked) (select_more s k (word_at us k) l (words_some k (uses_some (asking_nothing s) rs ps) used))

  -- the filter registers have the same words
  filters_same : (d : Device) → filter_writes d (settings_of s rs ps) ≡ filter_writes d (settings_of (asking_nothing s) rs ps)
  unfolding filter_writes settings_of
  filters_same G = refl
  filters_same S = refl
  filters_same (C b) = refl
  filters_same B = refl

  -- and IA32_PEBS_ENABLE, which no device has that may be asked
  precise_same : (d : Device) → overflow_on d ≡ true → precise_writes d (settings_of s rs ps) ≡ precise_writes d (settings_of (asking_nothing s) rs ps)
  unfolding precise_writes overflow_on pebs_on
  precise_same G on = refl
  precise_same S on = refl
  precise_same (C b) on = refl
  precise_same B on = absurd (false≢true on)

  box_more : map (with_pmi s) (box_writes (asking_nothing s) (settings_of (asking_nothing s) rs ps)) ≡ box_writes s (settings_of s rs ps)
  unfolding box_writes settings_of asking_nothing first_global last_global fixed_enables unusable zeros control_at
  box_more =
      let d = s.device in
      let n = counter_count d in
      let l = layout_of d in
      let t = settings_of (asking_nothing s) rs ps in
      let f = with_pmi s in
      let global : (v : ℕ) → map f ((l.global, v) ∷ []) ≡ (l.global, v) ∷ [] = λ v. map_same f (cons (other_same s (l.global, v) (λ k b e. (apart d).global_control k b e)) nil) in
      let zeroed : (u : CounterSet) (base : ℕ) → map f (rows n u base l.step zeros) ≡ rows n u base l.step zeros =
      λ u base. rows_map f u base l.step zeros zeros n (λ k b on. rw (zero_at capacity k) (zero_same s (base + l.step * k))) in
      let filters : map f (filter_writes d t) ≡ filter_writes d (settings_of s rs ps) =
      map_same f (all_imp (λ w m. other_same s w (λ k b e. all_member ((apart d).filter_control k b) m e)) (filter_addresses_lem d t)) ∙ sym (filters_same d) in
      let selects = rows_map f t.used l.control l.step t.words (settings_of s rs ps).words n (λ k b on. select_is k b on) in
      let first : List Write = (l.global, first_global s) ∷ [] in
      let cleared : List Write = rows n s.usable l.control l.step zeros in
      let counted : List Write = rows n t.used l.counter l.step zeros in
      let two = map_joined f first cleared (global (first_global s)) (zeroed s.usable l.control) in
      let three = map_joined f (first ++ cleared) (filter_writes d t) two filters in
      let four = map_joined f (first ++ cleared ++ filter_writes d t) counted three (zeroed t.used l.counter) in
      let five = map_joined f (first ++ cleared ++ filter_writes d t ++ counted) (rows n t.used l.control l.step t.words) four selects in
      let precise : map f (precise_writes d t) ≡ precise_writes d (settings_of s rs ps) =
      map_same f (all_imp (λ w a. other_same s w (λ k b e. (apart d).pebs_control k b (sym a ∙ e))) (precise_addresses d t)) ∙ sym (precise_same d (asked_served s h)) in
      let six = map_joined f (first ++ cleared ++ filter_writes d t ++ counted ++ rows n t.used l.control l.step t.words) (precise_writes d t) five precise in
      map_joined f (first ++ cleared ++ filter_writes d t ++ counted ++ rows n t.used l.control l.step t.words ++ precise_writes d t) ((l.global, last_global s t.used.0) ∷ []) six (global (last_global s t.used.0))

  list_more : writes s rs ps ≡ (0x0C00, 0) ∷ map (with_pmi s) (writes (asking_nothing s) rs ps) ++ (0x0C00, ubox_value s) ∷ []
  unfolding writes writes_for ubox_at
  list_more =
      let plain = unasked_writes (asking_nothing s) (settings_of (asking_nothing s) rs ps) still_unasked in
      rw (h, plain, box_more)

-- ---- the reader

-- bit 20 of a control word
word_pmi : (s : Setup) (w : ℕ) → ControlWord s w → bit 20 w ≡ asked s
word_pmi s w h = bit_high 16 20 w (enabled s) (omega arith) (word_high s w h) ∙ (enables s).pmi

module _ (o : Opening) (s : Setup) (v : RegisterValues) (e : setup_of o ≡ Some s) (accepted : answer_number (answer_of (read_of o v)) ≡ None) where
  read : ¬ NothingAsked o.overflow → v.ubox ≡ last_value o.overflow
  read n =
      let plan = exact_reader.only o s v e accepted in
      plan.shown.ubox ∙ ubox_left s plan.requests plan.places plan.before (openings.something o s e n) ∙ value_is o s e n

  read_words : (k : ℕ) → Usable s k → get_or v.control k 0 ≢ 0 → bit 20 (get_or v.control k 0) ≡ asked s
  read_words k u on =
      let plan = exact_reader.only o s v e accepted in
      let us = uses_in s plan.requests plan.places in
      let left : get_or v.control k 0 ≡ pick (in_list (counters plan.places) k) (word_at us k) 0 =
      plan.shown.control k u.0 ∙ control_left s plan.requests plan.places plan.before k u.0 ∙ rw u.1 in
      let fits : word_at us k ≢ 0 → bit 20 (word_at us k) ≡ asked s =
      word_at_lem (λ w. w ≢ 0 → bit 20 w ≡ asked s) us k (λ z. absurd (z refl)) (all_imp (λ x w z. word_pmi s x.1 w) (plan_words s (describe_all s plan.formed) plan.legal.allowed)) in
      go (in_list (counters plan.places) k) (word_at us k) left fits
    where
      go : (b : Bool) (w : ℕ) → get_or v.control k 0 ≡ pick b w 0 → (w ≢ 0 → bit 20 w ≡ asked s) → bit 20 (get_or v.control k 0) ≡ asked s
      go true w q fits = ap (bit 20) q ∙ fits (λ z. on (q ∙ z))
      go false w q fits = absurd (on q)

-- ---- the statement

with_host : (o : Opening) (s : Setup) → setup_of o ≡ Some s → NothingAsked o.overflow
    → (rs : List Request) (ps : List Place) → All (λ (w : Write). w.0 ≢ 0x0C00) (writes s rs ps)
unfolding writes ubox_at
with_host o s e n rs ps = rw (unasked_writes s (settings_of s rs ps) (openings.nothing o s e n)) (box_other s (settings_of s rs ps))

framed : (o : Opening) (s : Setup) → setup_of o ≡ Some s → ¬ NothingAsked o.overflow
    → (rs : List Request) (ps : List Place) → Legal s rs ps
    → writes s rs ps ≡ (0x0C00, 0) ∷ map (with_pmi s) (writes (asking_nothing s) rs ps) ++ (0x0C00, last_value o.overflow) ∷ []
framed o s e n rs ps legal = rw (← value_is o s e n) (list_more s rs ps legal (openings.something o s e n))

pub ubox : UBox
ubox =
    record {
      with_host = with_host;
      framed = framed;
      read = λ o s v e n accepted. read o s v e accepted n;
      read_words = λ o s v e accepted. read_words o s v e accepted;
    }
