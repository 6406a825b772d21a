-- What a register holds after the write list of settings, from any registers: by `after`, the value at one address.
--     apply-after, after-append, after-other   the value at an address, write by write
--     control-after, counter-after, global-after, filter-after, precise-after   the registers of a device after `writesFor`
--     box-all, writes-all                       what holds of every write of `boxWrites` and of `writesFor`
--     inside-after, ubox-after                  the frame of the U-Box: other registers, and its own
use Rattle.std.specs.Prelude.{Option, None, Some}
use mathlib.Core.Path.{◌≡◌, refl, sym, ap, ap₂, ◌∙◌}
use mathlib.Core.Bool.{Bool, true, false}
use mathlib.Core.List.{List, [], ◌∷◌, ◌++◌, Memᴰ, append-nil, map, map-append}
use Prim.Native.Nat.{ℕ, zero, suc, ◌+◌, ◌*◌, ◌<◌}
use native.Mathlib.Nat.{le_refl}
use native.Mathlib.Decide.{ℕ_discrete}
use native.Mathlib.Omega.{arith}
use borrow.Author.Tests.{eq-eqb, ne_eqb}
use lib.Dec.{eqb}
use lib.ListN.{get_or}
use Rattle.requests.specs.Choice.{pick}
use Rattle.requests.specs.declared.CounterSet.{CounterSet}
use Rattle.requests.specs.declared.Device.{Device}
use Rattle.requests.specs.declared.Device.TheVariants.{G, S, C, B}
use Rattle.requests.specs.declared.Setup.{Setup}
use Rattle.requests.specs.Askings.{asked}
use Rattle.requests.specs.Devices.{has, counter_count, capacity}
use Rattle.plans.specs.Lists.{All, nil, cons}
use Rattle.plans.proofs.Sets.{all_append, all_imp}
use Rattle.layouts.specs.Layout.{layout_of, control_at, counter_at_lem, filters_at, ubox_at, pebs_at, pebs_on}
use Rattle.layouts.specs.Writes.{Write, row, rows, zeros, first_global, last_global, offcore_writes, packet_writes, filter_writes, pebs_enable, precise_writes, ubox_value, box_writes, writes_for, store, apply}
use Rattle.layouts.specs.declared.Settings.{Settings}
use Rattle.layouts.proofs.ListLaws.{all_member, zero_at}
use Rattle.layouts.proofs.DeviceFacts.{in_room, apart}

-- the value at address a after the writes, where it was x before
unfoldable pub after : List Write → ℕ → ℕ → ℕ
after [] a x = x
after (w ∷ ws) a x = after ws a (pick (eqb w.0 a) w.1 x)

pub apply_after : (ws : List Write) (r : ℕ → ℕ) (a : ℕ) → apply ws r a ≡ after ws a (r a)
unfolding apply after
apply_after [] r a = refl
apply_after (w ∷ ws) r a = apply_after ws (store w r) a

pub after_append : (xs ys : List Write) (a x : ℕ) → after (xs ++ ys) a x ≡ after ys a (after xs a x)
unfolding after
after_append [] ys a x = refl
after_append (w ∷ xs) ys a x = after_append xs ys a (pick (eqb w.0 a) w.1 x)

-- an address that is not written keeps its value
pub after_other : (a : ℕ) {ws : List Write} (x : ℕ) → All (λ (w : Write). w.0 ≡ a → ⊥) ws → after ws a x ≡ x
unfolding after
after_other a x nil = refl
after_other a x (cons {a = w} h hs) = rw (ne_eqb w.0 a h) (after_other a x hs)

after_none : (a x : ℕ) → after [] a x ≡ x
unfolding after
after_none a x = refl

-- the last write to an address
after_last : (a v x : ℕ) → after ((a, v) ∷ []) a x ≡ v
unfolding after
after_last a v x = rw (eq-eqb a a refl)

module _ (P : Write → Type 0) (s : CounterSet) (base step : ℕ) (values : List ℕ) where
  -- what holds of each write of a set
  pub rows_all : (n : ℕ) → ((k : ℕ) → k < n → has s k ≡ true → P (base + step * k, get_or values k 0)) → All P (rows n s base step values)
  unfolding rows
  rows_all zero h = nil
  rows_all (suc m) h = all_append (rows_all m (λ k l. h k (omega arith))) (one (has s m) refl)
    where
      one : (b : Bool) → has s m ≡ b → All P (row b (base + step * m) (get_or values m 0))
      one true e = cons (h m (le_refl (suc m)) e) nil
      one false e = nil

-- the writes of a set, changed one by one
pub rows_map : (f : Write → Write) (u : CounterSet) (base step : ℕ) (vs ws : List ℕ) (n : ℕ)
    → ((k : ℕ) → k < n → has u k ≡ true → f (base + step * k, get_or vs k 0) ≡ (base + step * k, get_or ws k 0))
    → map f (rows n u base step vs) ≡ rows n u base step ws
unfolding rows
rows_map f u base step vs ws zero h = refl
rows_map f u base step vs ws (suc n) h =
    map-append f (rows n u base step vs) (row (has u n) (base + step * n) (get_or vs n 0))
    ∙ ap₂ ◌++◌ (rows_map f u base step vs ws n (λ k l. h k (omega arith))) (one (has u n) refl)
  where
    one : (b : Bool) → has u n ≡ b → map f (row b (base + step * n) (get_or vs n 0)) ≡ row b (base + step * n) (get_or ws n 0)
    one true e = ap (λ (w : Write). w ∷ []) (h n (le_refl (suc n)) e)
    one false e = refl

-- what holds of one write, if it is there
pub row_all : (P : Write → Type 0) (b : Bool) (address value : ℕ) → (b ≡ true → P (address, value)) → All P (row b address value)
row_all P true address value h = cons (h refl) nil
row_all P false address value h = nil

pick_same : {A : Type 0} (b : Bool) (x : A) → pick b x x ≡ x
pick_same true x = refl
pick_same false x = refl

module _ (s : CounterSet) (base step : ℕ) (values : List ℕ) where
  after_row : (b : Bool) (address v a x : ℕ) → after (row b address v) a x ≡ pick b (pick (eqb address a) v x) x
  unfolding after
  after_row true address v a x = refl
  after_row false address v a x = refl

  -- the value of counter k's register after the writes of a set
  pub rows_at : ((j k : ℕ) → base + step * j ≡ base + step * k → j ≡ k) → (n k x : ℕ) → k < n
      → after (rows n s base step values) (base + step * k) x ≡ pick (has s k) (get_or values k 0) x
  unfolding rows
  rows_at inj zero k x l = absurd (omega arith)
  rows_at inj (suc m) k x l =
      rw (after_append (rows m s base step values) (row (has s m) (base + step * m) (get_or values m 0)) (base + step * k) x, after_row)
      (elim (ℕ_discrete m k) [
        | yes e ↦ rw (
          eq-eqb (base + step * m) (base + step * k) (ap (λ (j : ℕ). base + step * j) e),
          after_other (base + step * k) x (rows_all (λ w. w.0 ≡ base + step * k → ⊥) s base step values m (λ j lj on q. let z = inj j k q in omega arith)),
          e,
        )
        | no ne ↦ rw (ne_eqb (base + step * m) (base + step * k) (λ q. ne (inj m k q)), pick_same) (rows_at inj m k x (let z = ne in omega arith))
      ])

-- every write of the filter registers is to one of them
pub filter_addresses_lem : (d : Device) (t : Settings) → All (λ (w : Write). Memᴰ w.0 (filters_at d)) (filter_writes d t)
unfolding filter_writes offcore_writes packet_writes filters_at
filter_addresses_lem G t = cons (Memᴰ.head refl) (cons (Memᴰ.tail (Memᴰ.head refl)) nil)
filter_addresses_lem S t = go t.packet
  where
    go : (packet : Option (ℕ × ℕ)) → All (λ (w : Write). Memᴰ w.0 (filters_at S)) (packet_writes packet)
    go (Some p) =
        cons (Memᴰ.head refl)
        (cons (Memᴰ.tail (Memᴰ.head refl))
        (cons (Memᴰ.tail (Memᴰ.tail (Memᴰ.head refl))) (cons (Memᴰ.head refl) nil)))
    go None = cons (Memᴰ.head refl) nil
filter_addresses_lem (C b) t = nil
filter_addresses_lem B t = nil

-- every write of IA32_PEBS_ENABLE is to it
pub precise_addresses : (d : Device) (t : Settings) → All (λ (w : Write). w.0 ≡ pebs_at) (precise_writes d t)
unfolding precise_writes
precise_addresses d t = row_all (λ w. w.0 ≡ pebs_at) (pebs_on d) pebs_at (pebs_enable (λ k. get_or t.words k 0)) (λ h. refl)

module _ (s : Setup) (t : Settings) where
  abbrev d : Device
  d = s.device

  abbrev n : ℕ
  n = counter_count s.device

  -- what holds of every write of the device's own registers
  pub box_all : (P : Write → Type 0)
      → P ((layout_of d).global, first_global s)
      → ((k : ℕ) → k < n → has s.usable k ≡ true → P (control_at d k, 0))
      → All P (filter_writes d t)
      → ((k : ℕ) → k < n → has t.used k ≡ true → P (counter_at_lem d k, 0))
      → ((k : ℕ) → k < n → has t.used k ≡ true → P (control_at d k, get_or t.words k 0))
      → All P (precise_writes d t)
      → P ((layout_of d).global, last_global s t.used.0)
      → All P (box_writes s t)
  unfolding box_writes control_at counter_at_lem zeros
  box_all P first off filters counts words precise last =
      let l = layout_of d in
      all_append
      (all_append
      (all_append
      (all_append
      (all_append
      (all_append (cons first nil)
      (rows_all P s.usable l.control l.step zeros n (λ k b h. rw (zero_at capacity k) (off k b h))))
      filters)
      (rows_all P t.used l.counter l.step zeros n (λ k b h. rw (zero_at capacity k) (counts k b h))))
      (rows_all P t.used l.control l.step t.words n words))
      precise)
      (cons last nil)

  -- what holds of those, and of the writes of the U-Box where something is asked, holds of every write of the list
  pub writes_all : (P : Write → Type 0) → (asked s ≡ true → P (ubox_at, 0) × P (ubox_at, ubox_value s)) → All P (box_writes s t) → All P (writes_for s t)
  unfolding writes_for
  writes_all P frame inner = all_append (all_append (row_all P (asked s) ubox_at 0 (λ h. (frame h).0)) inner) (row_all P (asked s) ubox_at (ubox_value s) (λ h. (frame h).1))

  -- a register other than the U-Box has what the device's own writes leave in it
  pub inside_after : (a x : ℕ) → (ubox_at ≡ a → ⊥) → after (writes_for s t) a x ≡ after (box_writes s t) a x
  unfolding writes_for
  inside_after a x other =
      let none : (v y : ℕ) → after (row (asked s) ubox_at v) a y ≡ y =
      λ v y. after_other a y (row_all (λ w. w.0 ≡ a → ⊥) (asked s) ubox_at v (λ h. other)) in
      simp (after_append, none)

  -- no filter register is another one
  filters_apart : (a : ℕ) → All (λ (b : ℕ). b ≡ a → ⊥) (filters_at d) → All (λ (w : Write). w.0 ≡ a → ⊥) (filter_writes d t)
  filters_apart a h = all_imp (λ w m. all_member h m) (filter_addresses_lem d t)

  -- nor is IA32_PEBS_ENABLE
  precise_apart : (a x : ℕ) → (pebs_at ≡ a → ⊥) → after (precise_writes d t) a x ≡ x
  precise_apart a x other = after_other a x (all_imp (λ w e q. other (sym e ∙ q)) (precise_addresses d t))

  control_inside : (k x : ℕ) → k < n → after (box_writes s t) (control_at d k) x ≡ pick (has t.used k) (get_or t.words k 0) (pick (has s.usable k) 0 x)
  unfolding box_writes control_at counter_at_lem zeros
  control_inside k x l =
      let a = control_at d k in
      let lay = layout_of d in
      let apart-d = apart d in
      let globals : (v : ℕ) (y : ℕ) → after ((lay.global, v) ∷ []) a y ≡ y = λ v y. after_other a y (cons (apart-d.global_control k (in_room d k l)) nil) in
      let off = rows_at s.usable lay.control lay.step zeros apart-d.control_control n k x l in
      let filters = after_other a (pick (has s.usable k) 0 x) (filters_apart a (apart-d.filter_control k (in_room d k l))) in
      let counts = after_other a (pick (has s.usable k) 0 x)
      (rows_all (λ w. w.0 ≡ a → ⊥) t.used lay.counter lay.step zeros n (λ j b h e. apart-d.counter_control j k (in_room d j b) (in_room d k l) e)) in
      let words = rows_at t.used lay.control lay.step t.words apart-d.control_control n k (pick (has s.usable k) 0 x) l in
      let precise : (y : ℕ) → after (precise_writes d t) a y ≡ y = λ y. precise_apart a y (apart-d.pebs_control k (in_room d k l)) in
      simp (after_append, globals, off, zero_at capacity k, filters, counts, words, precise)

  pub control_after : (k x : ℕ) → k < n → after (writes_for s t) (control_at d k) x ≡ pick (has t.used k) (get_or t.words k 0) (pick (has s.usable k) 0 x)
  control_after k x l = inside_after (control_at d k) x ((apart d).ubox_control k (in_room d k l)) ∙ control_inside k x l

  counter_inside : (k x : ℕ) → k < n → after (box_writes s t) (counter_at_lem d k) x ≡ pick (has t.used k) 0 x
  unfolding box_writes control_at counter_at_lem zeros
  counter_inside k x l =
      let a = counter_at_lem d k in
      let lay = layout_of d in
      let apart-d = apart d in
      let globals : (v : ℕ) (y : ℕ) → after ((lay.global, v) ∷ []) a y ≡ y = λ v y. after_other a y (cons (apart-d.global_counter k (in_room d k l)) nil) in
      let controls : (u : CounterSet) (vs : List ℕ) (y : ℕ) → after (rows n u lay.control lay.step vs) a y ≡ y =
      λ u vs y. after_other a y (rows_all (λ w. w.0 ≡ a → ⊥) u lay.control lay.step vs n (λ j b h e. apart-d.counter_control k j (in_room d k l) (in_room d j b) (sym e))) in
      let filters : (y : ℕ) → after (filter_writes d t) a y ≡ y = λ y. after_other a y (filters_apart a (apart-d.filter_counter k (in_room d k l))) in
      let counts = rows_at t.used lay.counter lay.step zeros apart-d.counter_counter n k x l in
      let precise : (y : ℕ) → after (precise_writes d t) a y ≡ y = λ y. precise_apart a y (apart-d.pebs_counter k (in_room d k l)) in
      simp (after_append, globals, controls, filters, counts, zero_at capacity k, precise)

  pub counter_after : (k x : ℕ) → k < n → after (writes_for s t) (counter_at_lem d k) x ≡ pick (has t.used k) 0 x
  counter_after k x l = inside_after (counter_at_lem d k) x ((apart d).ubox_counter k (in_room d k l)) ∙ counter_inside k x l

  global_inside : (x : ℕ) → after (box_writes s t) (layout_of d).global x ≡ last_global s t.used.0
  unfolding box_writes
  global_inside x = simp (after_append, after_last)

  pub global_after : (x : ℕ) → after (writes_for s t) (layout_of d).global x ≡ last_global s t.used.0
  global_after x = inside_after (layout_of d).global x (apart d).ubox_global ∙ global_inside x

  -- a filter register has what its own writes leave
  filter_inside : (a x : ℕ) → Memᴰ a (filters_at d) → after (box_writes s t) a x ≡ after (filter_writes d t) a x
  unfolding box_writes control_at counter_at_lem
  filter_inside a x m =
      let lay = layout_of d in
      let apart-d = apart d in
      let globals : (v : ℕ) (y : ℕ) → after ((lay.global, v) ∷ []) a y ≡ y = λ v y. after_other a y (cons (λ e. all_member apart-d.filter_global m (sym e)) nil) in
      let controls : (u : CounterSet) (vs : List ℕ) (y : ℕ) → after (rows n u lay.control lay.step vs) a y ≡ y =
      λ u vs y. after_other a y (rows_all (λ w. w.0 ≡ a → ⊥) u lay.control lay.step vs n (λ k b h e. all_member (apart-d.filter_control k (in_room d k b)) m (sym e))) in
      let counts : (u : CounterSet) (vs : List ℕ) (y : ℕ) → after (rows n u lay.counter lay.step vs) a y ≡ y =
      λ u vs y. after_other a y (rows_all (λ w. w.0 ≡ a → ⊥) u lay.counter lay.step vs n (λ k b h e. all_member (apart-d.filter_counter k (in_room d k b)) m (sym e))) in
      let precise : (y : ℕ) → after (precise_writes d t) a y ≡ y = λ y. precise_apart a y (λ e. all_member apart-d.pebs_filter m (sym e)) in
      simp (after_append, globals, controls, counts, precise)

  pub filter_after : (a x : ℕ) → Memᴰ a (filters_at d) → after (writes_for s t) a x ≡ after (filter_writes d t) a x
  filter_after a x m =
      inside_after a x (λ e. all_member (apart d).ubox_filter m (sym e)) ∙ filter_inside a x m

  -- and so has IA32_PEBS_ENABLE
  precise_inside : (x : ℕ) → after (box_writes s t) pebs_at x ≡ after (precise_writes d t) pebs_at x
  unfolding box_writes control_at counter_at_lem
  precise_inside x =
      let a = pebs_at in
      let lay = layout_of d in
      let apart-d = apart d in
      let globals : (v : ℕ) (y : ℕ) → after ((lay.global, v) ∷ []) a y ≡ y = λ v y. after_other a y (cons (λ e. apart-d.pebs_global (sym e)) nil) in
      let controls : (u : CounterSet) (vs : List ℕ) (y : ℕ) → after (rows n u lay.control lay.step vs) a y ≡ y =
      λ u vs y. after_other a y (rows_all (λ w. w.0 ≡ a → ⊥) u lay.control lay.step vs n (λ k b h e. apart-d.pebs_control k (in_room d k b) (sym e))) in
      let counts : (u : CounterSet) (vs : List ℕ) (y : ℕ) → after (rows n u lay.counter lay.step vs) a y ≡ y =
      λ u vs y. after_other a y (rows_all (λ w. w.0 ≡ a → ⊥) u lay.counter lay.step vs n (λ k b h e. apart-d.pebs_counter k (in_room d k b) (sym e))) in
      let filters : (y : ℕ) → after (filter_writes d t) a y ≡ y = λ y. after_other a y (filters_apart a apart-d.pebs_filter) in
      simp (after_append, globals, controls, counts, filters)

  pub precise_after : (x : ℕ) → after (writes_for s t) pebs_at x ≡ pick (pebs_on d) (pebs_enable (λ k. get_or t.words k 0)) x
  unfolding precise_writes
  precise_after x = inside_after pebs_at x (λ e. (apart d).pebs_ubox (sym e)) ∙ precise_inside x ∙ go (pebs_on d)
    where
      go : (b : Bool) → after (row b pebs_at (pebs_enable (λ k. get_or t.words k 0))) pebs_at x ≡ pick b (pebs_enable (λ k. get_or t.words k 0)) x
      go true = after_last pebs_at (pebs_enable (λ k. get_or t.words k 0)) x
      go false = after_none pebs_at x

  -- no write of the device's own registers is to the U-Box
  pub box_other : All (λ (w : Write). w.0 ≡ ubox_at → ⊥) (box_writes s t)
  box_other =
      let u = apart d in
      box_all (λ w. w.0 ≡ ubox_at → ⊥)
      (λ e. u.ubox_global (sym e))
      (λ k l g e. u.ubox_control k (in_room d k l) (sym e))
      (all_imp (λ w m. all_member u.ubox_filter m) (filter_addresses_lem d t))
      (λ k l g e. u.ubox_counter k (in_room d k l) (sym e))
      (λ k l g e. u.ubox_control k (in_room d k l) (sym e))
      (all_imp (λ w e q. u.pebs_ubox (sym e ∙ q)) (precise_addresses d t))
      (λ e. u.ubox_global (sym e))

  -- where nothing is asked the list is that of the device's own registers
  pub unasked_writes : asked s ≡ false → writes_for s t ≡ box_writes s t
  unfolding writes_for
  unasked_writes h = rw h (append-nil (box_writes s t))

  -- what the list leaves in it where something is asked
  pub ubox_after : (x : ℕ) → asked s ≡ true → after (writes_for s t) ubox_at x ≡ ubox_value s
  unfolding writes_for
  ubox_after x h = rw h (simp (after_append, after_last))

  -- and where nothing is
  pub ubox_kept : (x : ℕ) → asked s ≡ false → after (writes_for s t) ubox_at x ≡ x
  ubox_kept x h = rw (unasked_writes h) (after_other ubox_at x box_other)
