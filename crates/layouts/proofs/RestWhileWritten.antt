-- Counters rest while their registers are written: `RestWhileWritten`, write by write (`Along`), part by part of the list. Assumes nothing.
use mathlib.Core.Path.{◌≡◌, refl, sym, ap, subst, ◌∙◌}
use mathlib.Core.Logic.{◌≢◌}
use mathlib.Core.Bool.{true, not, true≢false}
use mathlib.Core.List.{List, [], ◌∷◌, ◌++◌, append-nil}
use Prim.Native.Nat.{ℕ, suc, ◌≤◌, ◌<◌}
use native.Mathlib.Nat.{le_refl}
use native.Mathlib.Decide.{ℕ_discrete}
use native.Mathlib.Omega.{arith}
use lib.ListN.{get_or}
use Rattle.requests.specs.Choice.{either}
use Rattle.requests.specs.declared.Setup.{Setup}
use Rattle.requests.specs.declared.Request.{Request}
use Rattle.requests.specs.Askings.{asked}
use Rattle.requests.specs.Bits.{bit, in_list}
use Rattle.requests.specs.Devices.{has, counter_count, capacity}
use Rattle.plans.specs.declared.Place.{Place}
use Rattle.plans.specs.Lists.{All, nil, cons}
use Rattle.plans.specs.Legal.{Usable, Legal, counters}
use Rattle.plans.proofs.Sets.{all_append, all_imp}
use Rattle.layouts.specs.Layout.{layout_of, control_at, counter_at_lem, ubox_at, pebs_at}
use Rattle.layouts.specs.Settings.{settings_of}
use Rattle.layouts.specs.Writes.{Write, rows, zeros, first_global, last_global, filter_writes, precise_writes, ubox_value, box_writes, writes_for, writes}
use Rattle.layouts.specs.RestWhileWritten.{LastWritten, EnablesNone, Disabled, Cleared, AtRest, StoppedFirst, EnabledLast, Framed, RestWhileWritten}
use Rattle.layouts.specs.declared.Settings.{Settings}
use Rattle.layouts.proofs.ListLaws.{all_member, all_left, zero_at}
use Rattle.layouts.proofs.DeviceFacts.{in_room, apart}
use Rattle.layouts.proofs.RegistersAfter.{rows_all, filter_addresses_lem, precise_addresses, box_other, unasked_writes}
use Rattle.layouts.proofs.WriteByWrite.{Along, last_here, last_other, last_member, member_other, along_then, along_at, rows_along}
use Rattle.layouts.proofs.WritesAtRest.{global_rests, control_rests, count_rests, precise_rests}
use Rattle.layouts.proofs.GlobalValues.{used_has, used_usable, first_bit, last_bit}
use Rattle.layouts.proofs.FiltersAtRest.{AllQuiet, disabled_other, filters_rest}

-- ---- the list

-- the first value of the global register enables no usable counter
first_none : (s : Setup) → EnablesNone s (first_global s)
first_none s k u = first_bit s k u.0 ∙ ap not u.1

-- the last one only those that are used
enabled_used : (s : Setup) (rs : List Request) (ps : List Place) → Legal s rs ps → (k : ℕ) → Usable s k
    → bit k (last_global s (settings_of s rs ps).used.0) ≡ true → has (settings_of s rs ps).used k ≡ true
unfolding either
enabled_used s rs ps legal k u h =
    let used : either (not (has s.usable k)) (in_list (counters ps) k) ≡ true = sym (last_bit s rs ps legal k u.0) ∙ h in
    used_has s rs ps k u.0 ∙ (rw u.1 at used)

-- a 0 that is written to a counter's register
zero_here : (b : List Write) (a k : ℕ) → LastWritten (b ++ (a, get_or zeros k 0) ∷ []) a 0
unfolding zeros
zero_here b a k = subst (λ (v : ℕ). LastWritten (b ++ (a, get_or zeros k 0) ∷ []) a v) (zero_at capacity k) (last_here b a (get_or zeros k 0))

module _ (s : Setup) (rs : List Request) (ps : List Place) (legal : Legal s rs ps) where
  abbrev n : ℕ
  n = counter_count s.device

  abbrev t : Settings
  t = settings_of s rs ps

  abbrev clear : List Write
  clear = rows n s.usable (layout_of s.device).control (layout_of s.device).step zeros

  abbrev counts : List Write
  counts = rows n t.used (layout_of s.device).counter (layout_of s.device).step zeros

  abbrev words : List Write
  words = rows n t.used (layout_of s.device).control (layout_of s.device).step t.words

  -- the counts of the used counters below k are zeroed
  abbrev Zeroed : ℕ → List Write → Type 0
  Zeroed k b = (j : ℕ) → j < k → has t.used j ≡ true → LastWritten b (counter_at_lem s.device j) 0

  -- no usable counter is enabled, the selects of those below k are cleared
  abbrev ClearedTo : ℕ → List Write → Type 0
  ClearedTo k b = Disabled s b × ((j : ℕ) → j < k → Usable s j → LastWritten b (control_at s.device j) 0)

  -- all are quiet, and the counts of the used counters below k are zeroed
  abbrev ZeroedTo : ℕ → List Write → Type 0
  ZeroedTo k b = AllQuiet s b × Zeroed k b

  -- all selects have been cleared, the usable counters from k on have no event, and the counts of the used ones are zeroed
  abbrev SelectedTo : ℕ → List Write → Type 0
  SelectedTo k b = Disabled s b × Cleared s b × ((j : ℕ) → k ≤ j → Usable s j → LastWritten b (control_at s.device j) 0) × Zeroed n b

  -- a number below the next one is k, or below k
  below_next : {A : Type 0} (j k : ℕ) → j < suc k → (j ≡ k → A) → (j < k → A) → A
  below_next j k l here before = elim (ℕ_discrete j k) [ yes e ↦ here e | no other ↦ before (let z = other in omega arith) ]

  clear_rests : (b : List Write) → Disabled s b → Along (AtRest s rs) b clear × AllQuiet s (b ++ clear)
  unfolding control_at counter_at_lem zeros
  clear_rests b disabled =
      let d = s.device in
      let l = layout_of d in
      let along = rows_along (AtRest s rs) ClearedTo s.usable l.control l.step zeros n
      (λ k m h c i. let w : Write = (control_at d k, get_or zeros k 0) in (
        control_rests s rs c i.0 k (get_or zeros k 0) m (λ some. absurd (some (zero_at capacity k))),
        (
          disabled_other s w (λ e. (apart d).global_control k (in_room d k m) (sym e)) i.0,
          λ j p u. below_next j k p (λ e. rw e (zero_here c (control_at d k) k))
              (λ q. last_other w (λ e. let z = (apart d).control_control k j e in omega arith) (i.1 j q u)),
        ),
      ))
      (λ k off c i. (i.0, λ j p u. below_next j k p (λ e. absurd (true≢false (sym (rw e at u.1) ∙ off))) (λ q. i.1 j q u)))
      b (disabled, λ j p u. absurd (omega arith)) in
      (along.0, (along.1.0, λ j u. along.1.1 j u.0 u))

  counts_rest : (b : List Write) → AllQuiet s b → Along (AtRest s rs) b counts × SelectedTo 0 (b ++ counts)
  unfolding control_at counter_at_lem zeros
  counts_rest b quiet =
      let d = s.device in
      let l = layout_of d in
      let along = rows_along (AtRest s rs) ZeroedTo t.used l.counter l.step zeros n
      (λ k m h c i. let w : Write = (counter_at_lem d k, get_or zeros k 0) in (
        count_rests s rs c i.0.0 i.0.1 k (get_or zeros k 0) m,
        (
          (
            disabled_other s w (λ e. (apart d).global_counter k (in_room d k m) (sym e)) i.0.0,
            λ j u. last_other w ((apart d).counter_control k j (in_room d k m) (in_room d j u.0)) (i.0.1 j u),
          ),
          λ j p g. below_next j k p (λ e. rw e (zero_here c (counter_at_lem d k) k))
              (λ q. last_other w (λ e. let z = (apart d).counter_counter k j e in omega arith) (i.1 j q g)),
        ),
      ))
      (λ k off c i. (i.0, λ j p g. below_next j k p (λ e. absurd (true≢false (sym (rw e at g) ∙ off))) (λ q. i.1 j q g)))
      b (quiet, λ j p g. absurd (omega arith)) in (
        along.0,
        (
          along.1.0.0,
          λ j u. last_member (along.1.0.1 j u),
          λ j p u. along.1.0.1 j u,
          along.1.1,
        ),
      )

  words_rest : (b : List Write) → SelectedTo 0 b → Along (AtRest s rs) b words × SelectedTo n (b ++ words)
  unfolding control_at counter_at_lem
  words_rest b ready =
      let d = s.device in
      let l = layout_of d in
      rows_along (AtRest s rs) SelectedTo t.used l.control l.step t.words n
      (λ k m h c i. let w : Write = (control_at d k, get_or t.words k 0) in (
        control_rests s rs c i.0 k (get_or t.words k 0) m (λ some. (i.1, i.2 k (le_refl k) (used_usable s rs ps legal k m h), i.3 k m h)),
        (
          disabled_other s w (λ e. (apart d).global_control k (in_room d k m) (sym e)) i.0,
          λ j u. member_other w (i.1 j u),
          λ j p u. last_other w (λ e. let z = (apart d).control_control k j e in omega arith) (i.2 j (omega arith) u),
          λ j p g. last_other w (λ e. (apart d).counter_control j k (in_room d j p) (in_room d k m) (sym e)) (i.3 j p g),
        ),
      ))
      (λ k off c i. (i.0, i.1, λ j p u. i.2 j (omega arith) u, i.3))
      b ready

  -- IA32_PEBS_ENABLE is written while no usable counter is enabled
  precise_rest : {ws : List Write} → All (λ (w : Write). w.0 ≡ pebs_at) ws → (b : List Write) → SelectedTo n b → Along (AtRest s rs) b ws × SelectedTo n (b ++ ws)
  precise_rest nil b ready = (tt, rw (append-nil b) ready)
  precise_rest (cons {a = w} {rest = ws} e es) b ready =
      let d = s.device in
      along_then (AtRest s rs) (SelectedTo n) (SelectedTo n) b (w ∷ []) ws (
        (subst (λ (a : ℕ). AtRest s rs b (a, w.1)) (sym e) (precise_rests s rs b ready.0 w.1), tt),
        (
          disabled_other s w (λ q. (apart d).pebs_global (sym e ∙ q)) ready.0,
          λ j u. member_other w (ready.1 j u),
          λ j p u. last_other w (λ q. (apart d).pebs_control j (in_room d j u.0) (sym e ∙ q)) (ready.2 j p u),
          λ j p g. last_other w (λ q. (apart d).pebs_counter j (in_room d j p) (sym e ∙ q)) (ready.3 j p g),
        ),
      )
      (precise_rest es)

  list_rests : Along (AtRest s rs) [] (box_writes s t)
  unfolding box_writes
  list_rests =
      let d = s.device in
      let g = (layout_of d).global in
      let P = AtRest s rs in
      let first : List Write = (g, first_global s) ∷ [] in
      let filters = filter_writes d t in
      let precise = precise_writes d t in
      let v = last_global s t.used.0 in
      let one : Along P [] first × Disabled s first = (
        (global_rests s rs [] (first_global s) (λ k u h. absurd (true≢false (sym h ∙ first_none s k u))), tt),
        (first_global s, last_here [] g (first_global s), first_none s),
      ) in
      let two = along_then P (Disabled s) (AllQuiet s) [] first clear one clear_rests in
      let three = along_then P (AllQuiet s) (AllQuiet s) [] (first ++ clear) filters two (filters_rest d s rs ps) in
      let four = along_then P (AllQuiet s) (SelectedTo 0) [] (first ++ clear ++ filters) counts three counts_rest in
      let five = along_then P (SelectedTo 0) (SelectedTo n) [] (first ++ clear ++ filters ++ counts) words four words_rest in
      let six = along_then P (SelectedTo n) (SelectedTo n) [] (first ++ clear ++ filters ++ counts ++ words) precise five (precise_rest (precise_addresses d t)) in
      (along_then P (SelectedTo n) (λ b. Unit {0}) [] (first ++ clear ++ filters ++ counts ++ words ++ precise) ((g, v) ∷ []) six
      (λ b ready. ((global_rests s rs b v (λ k u h. ready.3 k u.0 (enabled_used s rs ps legal k u h)), tt), tt))
      ).0

stopped_first : (s : Setup) (t : Settings) → StoppedFirst s (box_writes s t)
unfolding box_writes
stopped_first s t = record { value = first_global s; later = _; list = refl; enables_none = first_none s }

enabled_last : (s : Setup) (t : Settings) → EnabledLast s (box_writes s t)
unfolding box_writes control_at counter_at_lem
enabled_last s t =
    let d = s.device in
    let n = counter_count d in
    let l = layout_of d in
    let P : Write → Type 0 = λ w. w.0 ≡ (layout_of s.device).global → EnablesNone s w.1 in
    record {
      before = _;
      value = last_global s t.used.0;
      list = refl;
      not_before =
          all_append
          (all_append
          (all_append
          (all_append
          (all_append (cons (λ e. first_none s) nil)
          (rows_all P s.usable l.control l.step zeros n (λ k b h e. absurd ((apart d).global_control k (in_room d k b) (sym e)))))
          (all_imp (λ w m e. absurd (all_member (apart d).filter_global m e)) (filter_addresses_lem d t)))
          (rows_all P t.used l.counter l.step zeros n (λ k b h e. absurd ((apart d).global_counter k (in_room d k b) (sym e)))))
          (rows_all P t.used l.control l.step t.words n (λ k b h e. absurd ((apart d).global_control k (in_room d k b) (sym e)))))
          (all_imp (λ w a e. absurd ((apart d).pebs_global (sym a ∙ e))) (precise_addresses d t));
    }

-- ---- the frame of the U-Box

framed : (s : Setup) (t : Settings) → asked s ≡ true → Framed (box_writes s t) (writes_for s t)
unfolding writes_for
framed s t h =
    record {
      value = ubox_value s;
      list = rw h;
      stopped = λ before w later e. record { earlier = []; since = before; list = refl; no_other = all_left before (w ∷ later) (subst (All (λ (x : Write). x.0 ≢ ubox_at)) e (box_other s t)) };
    }

pub rest_while_written : RestWhileWritten
unfolding writes
rest_while_written s rs ps legal =
    let t = settings_of s rs ps in
    record {
      inner = box_writes s t;
      rests = record {
        stopped_first = stopped_first s t;
        at_rest = λ before w later e. along_at (AtRest s rs) before w later (subst (Along (AtRest s rs) []) e (list_rests s rs ps legal));
        enabled_last = enabled_last s t;
      };
      alone = unasked_writes s t;
      framed = framed s t;
    }
