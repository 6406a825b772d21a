-- Of two writes of one kind the earlier has the smaller counter: `RisingWrites`. The writes of a set rise, and no other part of the list has one of their kind.
-- Assumes nothing.
use mathlib.Core.Path.{◌≡◌, sym, subst, ◌∙◌}
use mathlib.Core.Logic.{◌≢◌}
use mathlib.Core.Bool.{Bool, true, false}
use mathlib.Core.List.{List, [], ◌∷◌, ◌++◌}
use Prim.Native.Nat.{ℕ, zero, suc, ◌+◌, ◌*◌, ◌<◌}
use native.Mathlib.Omega.{arith}
use lib.ListN.{get_or}
use Rattle.requests.specs.declared.CounterSet.{CounterSet}
use Rattle.requests.specs.declared.Device.{Device}
use Rattle.requests.specs.declared.Setup.{Setup}
use Rattle.requests.specs.Askings.{asked}
use Rattle.requests.specs.Devices.{has, counter_count, capacity}
use Rattle.plans.specs.Lists.{All, nil, cons, Pairwise, empty, add}
use Rattle.plans.proofs.Sets.{all_append, all_imp}
use Rattle.layouts.specs.Layout.{layout_of, control_at, counter_at_lem, ubox_at}
use Rattle.layouts.specs.Settings.{settings_of}
use Rattle.layouts.specs.Writes.{Write, row, rows, zeros, first_global, last_global, filter_writes, precise_writes, ubox_value, box_writes, writes_for, writes}
use Rattle.layouts.specs.RisingWrites.{Clears, Selects, Counts, Rising, RisingWrites}
use Rattle.layouts.specs.declared.Settings.{Settings}
use Rattle.layouts.proofs.ListLaws.{all_member, zero_at}
use Rattle.layouts.proofs.DeviceFacts.{in_room, apart}
use Rattle.layouts.proofs.RegistersAfter.{rows_all, row_all, filter_addresses_lem, precise_addresses}
use Rattle.layouts.proofs.PlanWords.{used_some}

-- ---- two elements of a list

module _ {A : Type 0} (R : A → A → Type 0) where
  pair_joined : {xs ys : List A} → Pairwise R xs → Pairwise R ys → All (λ (x : A). All (R x) ys) xs → Pairwise R (xs ++ ys)
  pair_joined empty h nil = h
  pair_joined (add g gs) h (cons c cs) = add (all_append g c) (pair_joined gs h cs)

  all_later : (P : A → Type 0) (between after : List A) (y : A) → All P (between ++ y ∷ after) → P y
  all_later P [] after y (cons h hs) = h
  all_later P (b ∷ between) after y (cons h hs) = all_later P between after y hs

  pair_at : (before between after : List A) (x y : A) → Pairwise R (before ++ x ∷ between ++ y ∷ after) → R x y
  pair_at [] between after x y (add h hs) = all_later (R x) between after y h
  pair_at (b ∷ before) between after x y (add h hs) = pair_at before between after x y hs

-- ---- writes of one kind

module _ (Kind : ℕ → Write → Type 0) where
  abbrev Rises : Write → Write → Type 0
  Rises x y = (j k : ℕ) → Kind j x → Kind k y → j < k

  -- a write that is not of the kind
  abbrev Other : Write → Type 0
  Other w = (k : ℕ) → Kind k w → ⊥

  none_first : (x : Write) → Other x → (ys : List Write) → All (Rises x) ys
  none_first x h [] = nil
  none_first x h (y ∷ ys) = cons (λ j k p q. absurd (h j p)) (none_first x h ys)

  pub none_before : {xs ys : List Write} → All Other xs → Pairwise Rises ys → Pairwise Rises (xs ++ ys)
  none_before nil h = h
  none_before {ys = ys} (cons {a = x} {rest = xs} g gs) h = add (none_first x g (xs ++ ys)) (none_before gs h)

  none_rise : {ys : List Write} → All Other ys → Pairwise Rises ys
  none_rise nil = empty
  none_rise (cons {a = y} {rest = ys} g gs) = add (none_first y g ys) (none_rise gs)

  pub none_after : {xs ys : List Write} → Pairwise Rises xs → All Other ys → Pairwise Rises (xs ++ ys)
  none_after {xs = xs} {ys = ys} h g = pair_joined Rises h (none_rise g) (each xs)
    where
      each : (l : List Write) → All (λ (x : Write). All (Rises x) ys) l
      each [] = nil
      each (x ∷ l) = cons (all_imp (λ y o j k p q. absurd (o k q)) g) (each l)

  -- the writes of a set
  module _ (u : CounterSet) (base step : ℕ) (values : List ℕ) where
    pub rows_rise : (n : ℕ) → ((j k v : ℕ) → k < n → Kind j (base + step * k, v) → j ≡ k) → Pairwise Rises (rows n u base step values)
    unfolding rows
    rows_rise zero own = empty
    rows_rise (suc m) own =
        pair_joined Rises (rows_rise m (λ j k v l. own j k v (omega arith))) (one (has u m))
        (rows_all (λ x. All (Rises x) (row (has u m) (base + step * m) (get_or values m 0))) u base step values m (λ i l on.
        row_all (Rises (base + step * i, get_or values i 0)) (has u m) (base + step * m) (get_or values m 0) (λ e j k p q.
        let first : j ≡ i = own j i (get_or values i 0) (omega arith) p in
        let second : k ≡ m = own k m (get_or values m 0) (omega arith) q in
        omega arith)))
      where
        one : (b : Bool) → Pairwise Rises (row b (base + step * m) (get_or values m 0))
        one true = add nil empty
        one false = empty

  pub rising : (ws : List Write) → Pairwise Rises ws → Rising Kind ws
  rising ws h before between after x y j k e = pair_at Rises before between after x y (subst (Pairwise Rises) e h) j k

-- ---- the parts of a list

module _ (s : Setup) (t : Settings) where
  abbrev d : Device
  d = s.device

  abbrev n : ℕ
  n = counter_count s.device

  abbrev set : CounterSet → ℕ → List ℕ → List Write
  set u base values = rows n u base (layout_of d).step values

  -- ---- writes that are to no select, and such as are to no count

  abbrev NoSelect : Write → Type 0
  NoSelect w = (k : ℕ) → k < n → w.0 ≡ control_at d k → ⊥

  abbrev NoCount : Write → Type 0
  NoCount w = (k : ℕ) → k < n → w.0 ≡ counter_at_lem d k → ⊥

  global_no_select : (v : ℕ) → All NoSelect (((layout_of d).global, v) ∷ [])
  global_no_select v = cons (λ k l e. (apart d).global_control k (in_room d k l) e) nil

  global_no_count : (v : ℕ) → All NoCount (((layout_of d).global, v) ∷ [])
  global_no_count v = cons (λ k l e. (apart d).global_counter k (in_room d k l) e) nil

  filters_no_select : All NoSelect (filter_writes d t)
  filters_no_select = all_imp (λ w m k l e. all_member ((apart d).filter_control k (in_room d k l)) m e) (filter_addresses_lem d t)

  filters_no_count : All NoCount (filter_writes d t)
  filters_no_count = all_imp (λ w m k l e. all_member ((apart d).filter_counter k (in_room d k l)) m e) (filter_addresses_lem d t)

  precise_no_select : All NoSelect (precise_writes d t)
  precise_no_select = all_imp (λ w a k l e. (apart d).pebs_control k (in_room d k l) (sym a ∙ e)) (precise_addresses d t)

  precise_no_count : All NoCount (precise_writes d t)
  precise_no_count = all_imp (λ w a k l e. (apart d).pebs_counter k (in_room d k l) (sym a ∙ e)) (precise_addresses d t)

  counts_no_select : (u : CounterSet) (values : List ℕ) → All NoSelect (set u (layout_of d).counter values)
  unfolding counter_at_lem
  counts_no_select u values = rows_all NoSelect u (layout_of d).counter (layout_of d).step values n (λ i b on k l e. (apart d).counter_control i k (in_room d i b) (in_room d k l) e)

  selects_no_count : (u : CounterSet) (values : List ℕ) → All NoCount (set u (layout_of d).control values)
  unfolding control_at
  selects_no_count u values = rows_all NoCount u (layout_of d).control (layout_of d).step values n (λ i b on k l e. (apart d).counter_control k i (in_room d k l) (in_room d i b) (sym e))

  ubox_no_select : (v : ℕ) → All NoSelect (row (asked s) ubox_at v)
  ubox_no_select v = row_all NoSelect (asked s) ubox_at v (λ h k l e. (apart d).ubox_control k (in_room d k l) e)

  ubox_no_count : (v : ℕ) → All NoCount (row (asked s) ubox_at v)
  ubox_no_count v = row_all NoCount (asked s) ubox_at v (λ h k l e. (apart d).ubox_counter k (in_room d k l) e)

  -- ---- the three kinds

  module _ (some : (k : ℕ) → k < n → has t.used k ≡ true → get_or t.words k 0 ≢ 0) where
    other_clear : {ws : List Write} → All NoSelect ws → All (Other (Clears d)) ws
    other_clear h = all_imp (λ w o k c. o k c.0 c.1) h

    -- an event is no clearing
    selects_not : All (Other (Clears d)) (set t.used (layout_of d).control t.words)
    selects_not = rows_all (Other (Clears d)) t.used (layout_of d).control (layout_of d).step t.words n (λ i b on k c. some i b on c.2)

    pub cleared_rise : Pairwise (Rises (Clears d)) (writes_for s t)
    unfolding writes_for box_writes control_at
    cleared_rise =
        let K = Clears d in
        let l = layout_of d in
        let own = rows_rise K s.usable l.control l.step zeros n (λ j k v b c. sym ((apart d).control_control k j c.1)) in
        none_after K (none_before K (other_clear (ubox_no_select 0))
        (none_after K (none_after K (none_after K (none_after K (none_after K
        (none_before K (other_clear (global_no_select (first_global s))) own)
        (other_clear filters_no_select))
        (other_clear (counts_no_select t.used zeros)))
        selects_not)
        (other_clear precise_no_select))
        (other_clear (global_no_select (last_global s t.used.0)))))
        (other_clear (ubox_no_select (ubox_value s)))

  other_count : {ws : List Write} → All NoCount ws → All (Other (Counts d)) ws
  other_count h = all_imp (λ w o k c. o k c.0 c.1) h

  pub zeroed_rise : Pairwise (Rises (Counts d)) (writes_for s t)
  unfolding writes_for box_writes counter_at_lem
  zeroed_rise =
      let K = Counts d in
      let l = layout_of d in
      let own = rows_rise K t.used l.counter l.step zeros n (λ j k v b c. sym ((apart d).counter_counter k j c.1)) in
      none_after K (none_before K (other_count (ubox_no_count 0))
      (none_after K (none_after K (none_after K
      (none_before K (other_count (all_append (all_append (global_no_count (first_global s)) (selects_no_count s.usable zeros)) filters_no_count)) own)
      (other_count (selects_no_count t.used t.words)))
      (other_count precise_no_count))
      (other_count (global_no_count (last_global s t.used.0)))))
      (other_count (ubox_no_count (ubox_value s)))

  other_select : {ws : List Write} → All NoSelect ws → All (Other (Selects d)) ws
  other_select h = all_imp (λ w o k c. o k c.0 c.1) h

  -- a clearing is no event
  clears_not : All (Other (Selects d)) (set s.usable (layout_of d).control zeros)
  unfolding zeros
  clears_not = rows_all (Other (Selects d)) s.usable (layout_of d).control (layout_of d).step zeros n (λ i b on k c. c.2 (zero_at capacity i))

  pub selected_rise : Pairwise (Rises (Selects d)) (writes_for s t)
  unfolding writes_for box_writes control_at
  selected_rise =
      let K = Selects d in
      let l = layout_of d in
      let own = rows_rise K t.used l.control l.step t.words n (λ j k v b c. sym ((apart d).control_control k j c.1)) in
      none_after K (none_before K (other_select (ubox_no_select 0))
      (none_after K (none_after K
      (none_before K (all_append (all_append (all_append (other_select (global_no_select (first_global s))) clears_not) (other_select filters_no_select)) (other_select (counts_no_select t.used zeros))) own)
      (other_select precise_no_select))
      (other_select (global_no_select (last_global s t.used.0)))))
      (other_select (ubox_no_select (ubox_value s)))

pub rising_writes : RisingWrites
unfolding writes
rising_writes =
    record {
      cleared = λ s rs ps legal. rising (Clears s.device) (writes s rs ps) (cleared_rise s (settings_of s rs ps) (used_some s rs ps legal));
      zeroed = λ s rs ps. rising (Counts s.device) (writes s rs ps) (zeroed_rise s (settings_of s rs ps));
      selected = λ s rs ps. rising (Selects s.device) (writes s rs ps) (selected_rise s (settings_of s rs ps));
    }
