-- IA32_PEBS_ENABLE in the write list: where it stands, and that the list is otherwise G's. Assumes nothing.
--     written-last   it is the write before the last, on B
--     not-written    and none on another device
--     otherwise-same the list without it is G's without the filter registers, by the function `without`
use mathlib.Core.Path.{◌≡◌, refl, sym, ap, subst, ◌∙◌, fun_ext}
use mathlib.Core.Logic.{◌≢◌}
use mathlib.Core.Bool.{Bool, true, false, true≢false}
use mathlib.Core.List.{List, [], ◌∷◌, ◌++◌, append_assoc}
use Prim.Native.Nat.{ℕ, ◌<◌}
use native.Mathlib.Omega.{arith}
use borrow.Author.Tests.{ne_eqb}
use lib.ListN.{get_or}
use Rattle.requests.specs.Choice.{both, either, pick}
use Rattle.requests.specs.declared.CounterSet.{CounterSet}
use Rattle.requests.specs.declared.Device.{Device}
use Rattle.requests.specs.declared.Device.TheVariants.{G, B}
use Rattle.requests.specs.declared.Setup.{Setup}
use Rattle.requests.specs.declared.Request.{Request}
use Rattle.requests.specs.declared.Request.TheVariants.{Event, Packet, Offcore, Latency}
use Rattle.requests.specs.Bits.{in_list}
use Rattle.requests.specs.Askings.{overflow_on, asked}
use Rattle.requests.specs.Devices.{capacity, counter_count, all_counters, fixed_count}
use Rattle.requests.specs.WellFormedRequests.{Described}
use Rattle.requests.proofs.BitMembers.{in_member, member_in}
use Rattle.plans.specs.declared.Place.{Place}
use Rattle.plans.specs.Lists.{All, nil, cons}
use Rattle.plans.specs.Legal.{Legal, of_all}
use Rattle.plans.proofs.Sets.{all_append, all_imp}
use Rattle.layouts.specs.Layout.{tabulate, layout_of, control_at, counter_at_lem, filters_at, rsp0_at, rsp1_at, pebs_at, pebs_on, enabled, enabled_on, event_word, rsp_word, packet_word}
use Rattle.layouts.specs.Settings.{uses_of, word_at, settings_of}
use Rattle.layouts.specs.Writes.{Write, rows, zeros, fixed_enables, unusable, first_global, last_global, offcore_writes, filter_writes, pebs_enable, precise_writes, box_writes, writes}
use Rattle.layouts.specs.PreciseEvents.{Enables, WrittenLast, Without, nothing, left_out, kept}
use Rattle.layouts.specs.declared.Settings.{Settings}
use Rattle.layouts.proofs.UsableSets.{on}
use Rattle.layouts.proofs.ListLaws.{all_member}
use Rattle.layouts.proofs.Tabulated.{get_d_tabulate}
use Rattle.layouts.proofs.DeviceFacts.{in_room, apart, pebs_of}
use Rattle.layouts.proofs.RegistersAfter.{rows_all, row_all, filter_addresses_lem, box_all, writes_all, unasked_writes}
use Rattle.layouts.proofs.PlanWords.{uses_in}
use Rattle.layouts.proofs.PreciseValues.{enables}

-- ---- its place

-- nothing is asked on B, nor on G
b_unasked : (u : Setup) → asked (on B u) ≡ false
unfolding asked overflow_on both
b_unasked u = refl

g_unasked : (u : Setup) → asked (on G u) ≡ false
unfolding asked overflow_on both
g_unasked u = refl

-- what stands before the last two writes
earlier : (s : Setup) (t : Settings) → List Write
earlier s t =
    let n = counter_count s.device in
    let l = layout_of s.device in
    ((l.global, first_global s) ∷ [])
    ++ rows n s.usable l.control l.step zeros
    ++ filter_writes s.device t
    ++ rows n t.used l.counter l.step zeros
    ++ rows n t.used l.control l.step t.words

-- none of it is to IA32_PEBS_ENABLE
earlier_other : (s : Setup) (t : Settings) → All (λ (w : Write). w.0 ≢ pebs_at) (earlier s t)
unfolding earlier control_at counter_at_lem
earlier_other s t =
    let d = s.device in
    let n = counter_count d in
    let l = layout_of d in
    let P : Write → Type 0 = λ w. w.0 ≢ pebs_at in
    all_append
    (all_append
    (all_append
    (all_append (cons {a = (l.global, first_global s)} (λ e. (apart d).pebs_global (sym e)) nil)
    (rows_all P s.usable l.control l.step zeros n (λ k b h e. (apart d).pebs_control k (in_room d k b) (sym e))))
    (all_imp (λ w m e. all_member (apart d).pebs_filter m e) (filter_addresses_lem d t)))
    (rows_all P t.used l.counter l.step zeros n (λ k b h e. (apart d).pebs_counter k (in_room d k b) (sym e))))
    (rows_all P t.used l.control l.step t.words n (λ k b h e. (apart d).pebs_control k (in_room d k b) (sym e)))

list_is : (u : Setup) (t : Settings) → box_writes (on B u) t ≡ earlier (on B u) t ++ (pebs_at, pebs_enable (λ k. get_or t.words k 0)) ∷ ((layout_of B).global, last_global (on B u) t.used.0) ∷ []
unfolding box_writes earlier precise_writes pebs_on
list_is u t = append_assoc (earlier (on B u) t) ((pebs_at, pebs_enable (λ k. get_or t.words k 0)) ∷ []) (((layout_of B).global, last_global (on B u) t.used.0) ∷ [])

-- the control words of a plan at the two counters
value_is : (s : Setup) (rs : List Request) (ps : List Place) → pebs_enable (word_at (uses_in s rs ps)) ≡ pebs_enable (λ k. get_or (settings_of s rs ps).words k 0)
unfolding pebs_enable settings_of capacity
value_is s rs ps = rw (get_d_tabulate 8 (word_at (uses_in s rs ps)) 1 0 (omega arith), get_d_tabulate 8 (word_at (uses_in s rs ps)) 3 0 (omega arith))

pub written_last : (u : Setup) (rs : List Request) (ps : List Place) → All (Described (on B u)) rs → Legal (on B u) rs ps → WrittenLast rs (writes (on B u) rs ps)
unfolding writes layout_of pebs_at
written_last u rs ps described legal =
    let s = on B u in
    let t = settings_of (on B u) rs ps in
    record {
      earlier = earlier s t;
      value = pebs_enable (λ k. get_or t.words k 0);
      last = last_global s t.used.0;
      list = unasked_writes s t (b_unasked u) ∙ list_is u t;
      once = earlier_other s t;
      enables = subst (Enables rs) (value_is s rs ps) (enables u rs ps legal described);
    }

pub not_written : (s : Setup) (rs : List Request) (ps : List Place) → s.device ≢ B → All (λ (w : Write). w.0 ≢ 0x03F1) (writes s rs ps)
unfolding writes pebs_at precise_writes
not_written s rs ps other =
    let d = s.device in
    let P : Write → Type 0 = λ w. w.0 ≢ pebs_at in
    writes_all s (settings_of s rs ps) P (λ h. (λ e. (apart d).pebs_ubox (sym e), λ e. (apart d).pebs_ubox (sym e)))
    (box_all s (settings_of s rs ps) P
    (λ e. (apart d).pebs_global (sym e))
    (λ k l h e. (apart d).pebs_control k (in_room d k l) (sym e))
    (all_imp (λ w m e. all_member (apart d).pebs_filter m e) (filter_addresses_lem d (settings_of s rs ps)))
    (λ k l h e. (apart d).pebs_counter k (in_room d k l) (sym e))
    (λ k l h e. (apart d).pebs_control k (in_room d k l) (sym e))
    (row_all P (pebs_on d) pebs_at _ (λ h. absurd (other (pebs_of d h))))
    (λ e. (apart d).pebs_global (sym e)))

-- ---- the rest of the list

unfoldable without : List ℕ → List Write → List Write
without addresses [] = []
without addresses (w ∷ ws) = pick (in_list addresses w.0) (without addresses ws) (w ∷ without addresses ws)

module _ (addresses : List ℕ) where
  without_rest : (ws : List Write) → Without addresses ws (without addresses ws)
  unfolding without
  without_rest [] = nothing
  without_rest (w ∷ ws) = go (in_list addresses w.0) refl (without_rest ws)
    where
      go : (b : Bool) → in_list addresses w.0 ≡ b → Without addresses ws (without addresses ws)
          → Without addresses (w ∷ ws) (pick b (without addresses ws) (w ∷ without addresses ws))
      go true e rest = left_out (in_member addresses w.0 e) rest
      go false e rest = kept (λ m. true≢false (sym (member_in addresses w.0 m) ∙ e)) rest

  without_append : (xs ys : List Write) → without addresses (xs ++ ys) ≡ without addresses xs ++ without addresses ys
  unfolding without
  without_append [] ys = refl
  without_append (w ∷ xs) ys = go (in_list addresses w.0) (without_append xs ys)
    where
      go : (b : Bool) → without addresses (xs ++ ys) ≡ without addresses xs ++ without addresses ys
          → pick b (without addresses (xs ++ ys)) (w ∷ without addresses (xs ++ ys)) ≡ pick b (without addresses xs) (w ∷ without addresses xs) ++ without addresses ys
      go true e = e
      go false e = ap (λ (l : List Write). w ∷ l) e

  without_none : {ws : List Write} → All (λ (w : Write). in_list addresses w.0 ≡ false) ws → without addresses ws ≡ ws
  unfolding without
  without_none nil = refl
  without_none (cons {a = w} h hs) = rw h (ap (λ (l : List Write). w ∷ l) (without_none hs))

not_in : (a : ℕ) {l : List ℕ} → All (λ (x : ℕ). x ≡ a → ⊥) l → in_list l a ≡ false
unfolding in_list either
not_in a nil = refl
not_in a (cons {a = x} h hs) = rw (ne_eqb x a h) (not_in a hs)

-- a list of addresses that are no select, no count and not the global register
record Foreign (d : Device) (addresses : List ℕ) : Type 0 where
  pub global : All (λ (a : ℕ). a ≡ (layout_of d).global → ⊥) addresses
  pub control : (k : ℕ) → k < capacity → All (λ (a : ℕ). a ≡ control_at d k → ⊥) addresses
  pub counter : (k : ℕ) → k < capacity → All (λ (a : ℕ). a ≡ counter_at_lem d k → ⊥) addresses

-- the list without them
box_without : (s : Setup) (t : Settings) (addresses : List ℕ) → Foreign s.device addresses
    → without addresses (filter_writes s.device t) ≡ [] → without addresses (precise_writes s.device t) ≡ []
    → without addresses (box_writes s t)
    ≡ (((layout_of s.device).global, first_global s) ∷ [])
    ++ rows (counter_count s.device) s.usable (layout_of s.device).control (layout_of s.device).step zeros
    ++ []
    ++ rows (counter_count s.device) t.used (layout_of s.device).counter (layout_of s.device).step zeros
    ++ rows (counter_count s.device) t.used (layout_of s.device).control (layout_of s.device).step t.words
    ++ []
    ++ (((layout_of s.device).global, last_global s t.used.0) ∷ [])
unfolding box_writes control_at counter_at_lem
box_without s t addresses foreign filters precise =
    let d = s.device in
    let n = counter_count d in
    let l = layout_of d in
    let P : Write → Type 0 = λ w. in_list addresses w.0 ≡ false in
    let global : (v : ℕ) → without addresses ((l.global, v) ∷ []) ≡ (l.global, v) ∷ [] = λ v. without_none addresses (cons {a = (l.global, v)} (not_in l.global foreign.global) nil) in
    let controls : (u : CounterSet) (vs : List ℕ) → without addresses (rows n u l.control l.step vs) ≡ rows n u l.control l.step vs =
    λ u vs. without_none addresses (rows_all P u l.control l.step vs n (λ k b h. not_in (control_at d k) (foreign.control k (in_room d k b)))) in
    let counts : (u : CounterSet) (vs : List ℕ) → without addresses (rows n u l.counter l.step vs) ≡ rows n u l.counter l.step vs =
    λ u vs. without_none addresses (rows_all P u l.counter l.step vs n (λ k b h. not_in (counter_at_lem d k) (foreign.counter k (in_room d k b)))) in
    simp (without_append, global, controls, counts, filters, precise)

b_foreign : Foreign B (pebs_at ∷ [])
b_foreign =
    record {
      global = cons (apart B).pebs_global nil;
      control = λ k l. cons ((apart B).pebs_control k l) nil;
      counter = λ k l. cons ((apart B).pebs_counter k l) nil;
    }

g_foreign : Foreign G (rsp0_at ∷ rsp1_at ∷ [])
unfolding filters_at
g_foreign = record { global = (apart G).filter_global; control = (apart G).filter_control; counter = (apart G).filter_counter }

b_precise : (t : Settings) → without (pebs_at ∷ []) (precise_writes B t) ≡ []
unfolding without precise_writes pebs_on pebs_at in_list either
b_precise t = refl

b_filters : (t : Settings) → without (pebs_at ∷ []) (filter_writes B t) ≡ []
unfolding without filter_writes
b_filters t = refl

g_precise : (t : Settings) → without (rsp0_at ∷ rsp1_at ∷ []) (precise_writes G t) ≡ []
unfolding without precise_writes pebs_on
g_precise t = refl

g_filters : (t : Settings) → without (rsp0_at ∷ rsp1_at ∷ []) (filter_writes G t) ≡ []
unfolding without filter_writes offcore_writes rsp0_at rsp1_at in_list either
g_filters t = refl

-- the event words of B are those of G
uses_same : (u : Setup) (r : Request) (p : Place) → uses_of (on B u) r p ≡ uses_of (on G u) r p
unfolding uses_of event_word rsp_word packet_word enabled enabled_on asked overflow_on both
uses_same u (Event c m a) p = refl
uses_same u (Packet x y a) p = refl
uses_same u (Offcore w a) p = refl
uses_same u (Latency t a b) p = refl

words_same : (u : Setup) (rs : List Request) (ps : List Place) → (settings_of (on B u) rs ps).words ≡ (settings_of (on G u) rs ps).words
unfolding settings_of
words_same u rs ps =
    ap (λ (f : Request → Place → List (ℕ × ℕ)). tabulate capacity (word_at (of_all f rs ps))) (fun_ext (λ r. fun_ext (λ p. uses_same u r p)))

same_rest : (u : Setup) (rs : List Request) (ps : List Place)
    → without (0x03F1 ∷ []) (writes (on B u) rs ps) ≡ without (0x01A6 ∷ 0x01A7 ∷ []) (writes (on G u) rs ps)
unfolding writes pebs_at rsp0_at rsp1_at layout_of counter_count all_counters fixed_count first_global last_global fixed_enables unusable settings_of
same_rest u rs ps =
    let b = settings_of (on B u) rs ps in
    let g = settings_of (on G u) rs ps in
    let l = layout_of G in
    let others : List ℕ → List Write = λ words.
    ((l.global, first_global (on G u)) ∷ [])
    ++ rows 4 u.usable l.control l.step zeros
    ++ []
    ++ rows 4 g.used l.counter l.step zeros
    ++ rows 4 g.used l.control l.step words
    ++ []
    ++ ((l.global, last_global (on G u) g.used.0) ∷ []) in
    ap (without (pebs_at ∷ [])) (unasked_writes (on B u) b (b_unasked u))
    ∙ box_without (on B u) b (pebs_at ∷ []) b_foreign (b_filters b) (b_precise b)
    ∙ ap others (words_same u rs ps)
    ∙ sym (ap (without (rsp0_at ∷ rsp1_at ∷ [])) (unasked_writes (on G u) g (g_unasked u)) ∙ box_without (on G u) g (rsp0_at ∷ rsp1_at ∷ []) g_foreign (g_filters g) (g_precise g))

pub otherwise_same : (u : Setup) (rs : List Request) (ps : List Place)
    → (rest : List Write) × Without (0x03F1 ∷ []) (writes (on B u) rs ps) rest × Without (0x01A6 ∷ 0x01A7 ∷ []) (writes (on G u) rs ps) rest
otherwise_same u rs ps =
    let mine = writes (on B u) rs ps in
    let theirs = writes (on G u) rs ps in (
      without (0x03F1 ∷ []) mine,
      without_rest (0x03F1 ∷ []) mine,
      subst (Without (0x01A6 ∷ 0x01A7 ∷ []) theirs) (sym (same_rest u rs ps)) (without_rest (0x01A6 ∷ 0x01A7 ∷ []) theirs),
    )
