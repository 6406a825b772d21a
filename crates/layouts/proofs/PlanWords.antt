-- The control words of a plan, counter by counter, and what its writes leave in the control registers and the global one. Assumes nothing.
--     uses-counters   the counters of the uses are the counters of the plan
--     used-word       a counter is used exactly where its word is not 0
--     words-some, uses-some, used-some   no event word is 0, nor is that of a used counter
--     unused-word     a counter that is not usable has the word 0
--     count-uses      the counters have each word as often as the uses ask for it
--     control-left, global-left, filter-left, pebs-left, ubox-left   the registers after the writes of the plan
use mathlib.Core.Path.{◌≡◌, refl, sym, ap, ap₂, subst, ◌∙◌}
use mathlib.Core.Logic.{◌≢◌}
use mathlib.Core.Bool.{Bool, true, false, not, true≢false, false≢true}
use mathlib.Core.List.{List, [], ◌∷◌, ◌++◌, map, flat_map, Memᴰ, map-append}
use Prim.Native.Nat.{ℕ, ◌+◌, ◌*◌, ◌<◌}
use native.Mathlib.Omega.{arith}
use borrow.Author.Tests.{ne_eqb}
use lib.Dec.{eqb}
use lib.ListN.{get_or}
use Rattle.requests.specs.Choice.{either, pick}
use Rattle.requests.specs.declared.Setup.{Setup}
use Rattle.requests.specs.declared.Request.{Request}
use Rattle.requests.specs.declared.Request.TheVariants.{Event, Packet, Offcore, Latency}
use Rattle.requests.specs.Bits.{in_list}
use Rattle.requests.specs.Askings.{asked}
use Rattle.requests.specs.Devices.{has, counter_count, capacity}
use Rattle.plans.specs.declared.Place.{Place}
use Rattle.plans.specs.Lists.{All, nil, cons, Pairwise, Each, none, and}
use Rattle.plans.specs.Places.{counted_of, counters_of, first, second}
use Rattle.plans.specs.Legal.{Allowed, event, packet, offcore, latency, Legal, of_all, counters}
use Rattle.plans.proofs.Sets.{all_append, all_imp}
use Rattle.layouts.specs.Layout.{layout_of, control_at, filters_at, ubox_at, pebs_at, pebs_on, enabled, event_word, offcore_code, rsp_mask, rsp_word, packet_word}
use Rattle.layouts.specs.Settings.{uses_of, word_at, set_from, settings_of}
use Rattle.layouts.specs.Writes.{last_global, filter_writes, ubox_value, pebs_enable, writes, apply}
use Rattle.layouts.specs.Read.{count}
use Rattle.layouts.proofs.Tabulated.{get_d_tabulate}
use Rattle.layouts.proofs.DeviceFacts.{in_room}
use Rattle.layouts.proofs.EnableBits.{enables}
use Rattle.layouts.proofs.RegistersAfter.{after, apply_after, control_after, global_after, filter_after, precise_after, ubox_after, ubox_kept}
use Rattle.layouts.proofs.Counts.{counter_of, absent, hits, count_hits}
use Rattle.layouts.proofs.GlobalValues.{used_has}

-- the uses of a plan
abbrev pub uses_in : Setup → List Request → List Place → List (ℕ × ℕ)
uses_in s rs ps = of_all (uses_of s) rs ps

-- the counters of a request's uses are those of its place
pub use_counters : (s : Setup) {r : Request} {p : Place} → Allowed r p → map counter_of (uses_of s r p) ≡ counters_of p
unfolding uses_of counters_of counted_of first second
use_counters s (event a) = refl
use_counters s (packet a) = refl
use_counters s (offcore a l) = refl
use_counters s (latency a b) = refl

pub uses_counters : (s : Setup) {rs : List Request} {ps : List Place} → Each Allowed rs ps → map counter_of (of_all (uses_of s) rs ps) ≡ counters ps
unfolding of_all counters flat_map
uses_counters s none = refl
uses_counters s (and {a = r} {b = p} {s = rs} {t = ps} a es) =
    map-append counter_of (uses_of s r p) (of_all (uses_of s) rs ps) ∙ ap₂ ◌++◌ (use_counters s a) (uses_counters s es)

used_in : {us : List (ℕ × ℕ)} (k : ℕ) → All (λ (u : ℕ × ℕ). u.1 ≡ 0 → ⊥) us → in_list (map counter_of us) k ≡ not (eqb (word_at us k) 0)
unfolding in_list word_at either
used_in k nil = refl
used_in k (cons {a = u} {rest = us} h hs) = go (eqb u.0 k) (used_in k hs)
  where
    go : (b : Bool) → in_list (map counter_of us) k ≡ not (eqb (word_at us k) 0) → either b (in_list (map counter_of us) k) ≡ not (eqb (pick b u.1 (word_at us k)) 0)
    go true e = rw (ne_eqb u.1 0 h)
    go false e = e

pub words_some : {us : List (ℕ × ℕ)} (k : ℕ) → All (λ (u : ℕ × ℕ). u.1 ≢ 0) us → in_list (map counter_of us) k ≡ true → word_at us k ≢ 0
unfolding in_list word_at either
words_some k nil h = absurd (false≢true h)
words_some k (cons {a = u} {rest = us} g gs) h = go (eqb u.0 k) h (words_some k gs)
  where
    go : (b : Bool) → either b (in_list (map counter_of us) k) ≡ true → (in_list (map counter_of us) k ≡ true → word_at us k ≢ 0) → pick b u.1 (word_at us k) ≢ 0
    go true e later = g
    go false e later = later e

-- no event word is 0
pub uses_some : (s : Setup) (rs : List Request) (ps : List Place) → All (λ (u : ℕ × ℕ). u.1 ≢ 0) (uses_in s rs ps)
unfolding of_all uses_of rsp_word packet_word event_word
uses_some s [] ps = nil
uses_some s (r ∷ rs) [] = nil
uses_some s (r ∷ rs) (p ∷ ps) = all_append (own r) (uses_some s rs ps)
  where
    some : (c m : ℕ) → enabled s + 0x100 * m + c ≢ 0
    some c m e = omega (arith, (enables s).some)

    own : (r : Request) → All (λ (u : ℕ × ℕ). u.1 ≢ 0) (uses_of s r p)
    own (Event c m a) = cons (some c m) nil
    own (Packet x y a) = cons (some 0 0) nil
    own (Offcore w a) = cons (some offcore_code (rsp_mask (second p))) nil
    own (Latency t a b) = cons (some offcore_code (rsp_mask 0)) (cons (some offcore_code (rsp_mask 1)) nil)

module _ (s : Setup) (rs : List Request) (ps : List Place) (legal : Legal s rs ps) where
  pub used_word : All (λ (u : ℕ × ℕ). u.1 ≡ 0 → ⊥) (uses_in s rs ps) → (k : ℕ) → in_list (counters ps) k ≡ not (eqb (word_at (uses_in s rs ps) k) 0)
  used_word some k = ap (λ (l : List ℕ). in_list l k) (sym (uses_counters s legal.allowed)) ∙ used_in k some

  -- the word of a used counter is not 0
  pub used_some : (k : ℕ) → k < counter_count s.device → has (settings_of s rs ps).used k ≡ true → get_or (settings_of s rs ps).words k 0 ≢ 0
  unfolding settings_of
  used_some k l on e =
      let used : in_list (map counter_of (uses_in s rs ps)) k ≡ true = ap (λ (ks : List ℕ). in_list ks k) (uses_counters s legal.allowed) ∙ sym (used_has s rs ps k l) ∙ on in
      words_some k (uses_some s rs ps) used (sym (get_d_tabulate capacity (word_at (uses_in s rs ps)) k 0 (in_room s.device k l)) ∙ e)

  pub unused_word : (k : ℕ) → has s.usable k ≡ false → word_at (uses_in s rs ps) k ≡ 0
  unused_word k h =
      absent (uses_in s rs ps) k
      (subst (λ (l : List ℕ). All (λ (j : ℕ). j ≡ k → ⊥) l) (sym (uses_counters s legal.allowed))
      (all_imp (λ j u e. true≢false (sym u.1 ∙ ap (has s.usable) e ∙ h)) legal.usable_only))

  pub count_uses : (w : ℕ) → (w ≡ 0 → ⊥) → count (counter_count s.device) (word_at (uses_in s rs ps)) w ≡ hits w (uses_in s rs ps)
  count_uses w some =
      let same = sym (uses_counters s legal.allowed) in
      count_hits (counter_count s.device) w (uses_in s rs ps) some
      (subst (λ (l : List ℕ). Pairwise ◌≢◌ l) same legal.differ)
      (subst (λ (l : List ℕ). All (λ (k : ℕ). k < counter_count s.device) l) same (all_imp (λ k u. u.0) legal.usable_only))

module _ (s : Setup) (rs : List Request) (ps : List Place) (registers : ℕ → ℕ) where
  pub control_left : (k : ℕ) → k < counter_count s.device → apply (writes s rs ps) registers (control_at s.device k)
      ≡ pick (in_list (counters ps) k) (word_at (uses_in s rs ps) k) (pick (has s.usable k) 0 (registers (control_at s.device k)))
  unfolding writes settings_of
  control_left k l =
      let d = s.device in
      apply_after (writes s rs ps) registers (control_at d k)
      ∙ control_after s (settings_of s rs ps) k (registers (control_at d k)) l
      ∙ rw (used_has s rs ps k l, get_d_tabulate capacity (word_at (uses_in s rs ps)) k 0 (in_room d k l))

  pub global_left : apply (writes s rs ps) registers (layout_of s.device).global ≡ last_global s (set_from (counter_count s.device) 0 (in_list (counters ps)))
  unfolding writes settings_of
  global_left =
      apply_after (writes s rs ps) registers (layout_of s.device).global
      ∙ global_after s (settings_of s rs ps) (registers (layout_of s.device).global)

  pub filter_left : (a : ℕ) → Memᴰ a (filters_at s.device) → apply (writes s rs ps) registers a ≡ after (filter_writes s.device (settings_of s rs ps)) a (registers a)
  unfolding writes
  filter_left a m = apply_after (writes s rs ps) registers a ∙ filter_after s (settings_of s rs ps) a (registers a) m

  pub pebs_left : apply (writes s rs ps) registers pebs_at ≡ pick (pebs_on s.device) (pebs_enable (word_at (uses_in s rs ps))) (registers pebs_at)
  unfolding writes settings_of pebs_enable capacity
  pebs_left =
      let us = uses_in s rs ps in
      apply_after (writes s rs ps) registers pebs_at
      ∙ precise_after s (settings_of s rs ps) (registers pebs_at)
      ∙ rw (get_d_tabulate 8 (word_at us) 1 0 (omega arith), get_d_tabulate 8 (word_at us) 3 0 (omega arith))

  pub ubox_left : asked s ≡ true → apply (writes s rs ps) registers ubox_at ≡ ubox_value s
  unfolding writes
  ubox_left h = apply_after (writes s rs ps) registers ubox_at ∙ ubox_after s (settings_of s rs ps) (registers ubox_at) h

  pub ubox_stays : asked s ≡ false → apply (writes s rs ps) registers ubox_at ≡ registers ubox_at
  unfolding writes
  ubox_stays h = apply_after (writes s rs ps) registers ubox_at ∙ ubox_kept s (settings_of s rs ps) (registers ubox_at) h
