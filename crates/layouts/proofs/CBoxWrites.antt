-- The list in a C-Box beside the list on S, part by part. Assumes nothing.
--     as-joined, rows-as   two lists after two others; the writes of a set
--     uses-same            the event words are the same
use Rattle.std.specs.Prelude.{Option, None, Some}
use mathlib.Core.Path.{◌≡◌, refl, sym, ap, subst, ◌∙◌, fun_ext}
use mathlib.Core.Bool.{Bool, true, false}
use mathlib.Core.List.{List, [], ◌∷◌, ◌++◌, Memᴰ, append-nil}
use Prim.Native.Nat.{ℕ, zero, suc, ◌+◌, ◌*◌, ◌%◌, ◌≤◌, ◌<◌}
use native.Mathlib.Omega.{arith}
use lib.ListN.{get_or}
use Rattle.requests.specs.Choice.{both}
use Rattle.requests.specs.declared.CounterSet.{CounterSet}
use Rattle.requests.specs.declared.Device.TheVariants.{S, C}
use Rattle.requests.specs.declared.Setup.{Setup}
use Rattle.requests.specs.declared.Request.{Request}
use Rattle.requests.specs.declared.Request.TheVariants.{Event, Packet, Offcore, Latency}
use Rattle.requests.specs.Askings.{overflow_on, asked}
use Rattle.requests.specs.Devices.{has, counter_count, all_counters, fixed_count, capacity}
use Rattle.plans.specs.declared.Place.{Place}
use Rattle.plans.specs.Lists.{Each, none, and}
use Rattle.plans.specs.Legal.{of_all}
use Rattle.layouts.specs.Layout.{tabulate, cbox_global, layout_of, mm_cfg_at, match_at, mask_at, ubox_at, pebs_on, enabled, enabled_on, event_word, rsp_word, packet_word}
use Rattle.layouts.specs.Settings.{uses_of, word_at, set_from, settings_of}
use Rattle.layouts.specs.Writes.{Write, row, rows, zeros, fixed_enables, fixed_at, unusable, first_global, last_global, packet_writes, filter_writes, precise_writes, ubox_value, box_writes, writes_for, writes}
use Rattle.layouts.specs.PreciseEvents.{Without, nothing, left_out, kept}
use Rattle.layouts.specs.CBoxWrites.{on_device, InBox, global, select, count, ubox, filters_of_s, four_and_five, AsOnS, CBoxWrites}
use Rattle.layouts.proofs.DeviceFacts.{cbox_range}
use Rattle.layouts.proofs.GlobalValues.{used_has}

-- ---- part after part

without_joined : (addresses : List ℕ) {xs ys p q : List Write} → Without addresses xs p → Without addresses ys q → Without addresses (xs ++ ys) (p ++ q)
without_joined addresses nothing h = h
without_joined addresses (left_out m g) h = left_out m (without_joined addresses g h)
without_joined addresses (kept m g) h = kept m (without_joined addresses g h)

each_joined : (g : ℕ) {xs ys p q : List Write} → Each (InBox g) xs ys → Each (InBox g) p q → Each (InBox g) (xs ++ p) (ys ++ q)
each_joined g none h = h
each_joined g (and e es) h = and e (each_joined g es h)

module _ (g : ℕ) where
  as_none : AsOnS g [] []
  as_none = record { theirs = []; ours = []; without_filters = nothing; of_four_counters = nothing; same = none }

  as_joined : {xs ys p q : List Write} → AsOnS g xs ys → AsOnS g p q → AsOnS g (xs ++ p) (ys ++ q)
  as_joined h k =
      record {
        theirs = h.theirs ++ k.theirs;
        ours = h.ours ++ k.ours;
        without_filters = without_joined filters_of_s h.without_filters k.without_filters;
        of_four_counters = without_joined (four_and_five g) h.of_four_counters k.of_four_counters;
        same = each_joined g h.same k.same;
      }

  -- more in the box alone, more on S alone
  as_more : {xs ys q : List Write} → AsOnS g xs ys → AsOnS g [] q → AsOnS g xs (ys ++ q)
  as_more {xs} {ys} {q} h k = subst (λ (l : List Write). AsOnS g l (ys ++ q)) (append-nil xs) (as_joined h k)

  as_fewer : {xs ys p : List Write} → AsOnS g xs ys → AsOnS g p [] → AsOnS g (xs ++ p) ys
  as_fewer {xs} {ys} {p} h k = subst (λ (l : List Write). AsOnS g (xs ++ p) l) (append-nil ys) (as_joined h k)

  -- one write, beside its own
  as_one : (x y : Write) → ¬ Memᴰ x.0 filters_of_s → ¬ Memᴰ y.0 (four_and_five g) → InBox g x y → AsOnS g (x ∷ []) (y ∷ [])
  as_one x y out away same = record { theirs = x ∷ []; ours = y ∷ []; without_filters = kept out nothing; of_four_counters = kept away nothing; same = and same none }

  -- one that is left out
  as_filter : (x : Write) → Memᴰ x.0 filters_of_s → AsOnS g (x ∷ []) []
  as_filter x m = record { theirs = []; ours = []; without_filters = left_out m nothing; of_four_counters = nothing; same = none }

  as_beyond : (b : Bool) (a v : ℕ) → Memᴰ a (four_and_five g) → AsOnS g [] (row b a v)
  as_beyond true a v m = record { theirs = []; ours = []; without_filters = nothing; of_four_counters = left_out m nothing; same = none }
  as_beyond false a v m = as_none

  below_filters : (a : ℕ) → a < 0x0E48 → ¬ Memᴰ a filters_of_s
  below_filters a l (Memᴰ.head e) = omega arith
  below_filters a l (Memᴰ.tail (Memᴰ.head e)) = omega arith
  below_filters a l (Memᴰ.tail (Memᴰ.tail (Memᴰ.head e))) = omega arith
  below_filters a l (mathlib.Core.List.Memᴰ.tail (mathlib.Core.List.Memᴰ.tail (mathlib.Core.List.Memᴰ.tail x12))) = elim x12 [ ]

  below_four : (a : ℕ) → a < g + 0x18 → ¬ Memᴰ a (four_and_five g)
  below_four a l (Memᴰ.head e) = omega arith
  below_four a l (Memᴰ.tail (Memᴰ.head e)) = omega arith
  below_four a l (Memᴰ.tail (Memᴰ.tail (Memᴰ.head e))) = omega arith
  below_four a l (Memᴰ.tail (Memᴰ.tail (Memᴰ.tail (Memᴰ.head e)))) = omega arith
  below_four a l (mathlib.Core.List.Memᴰ.tail (mathlib.Core.List.Memᴰ.tail (mathlib.Core.List.Memᴰ.tail (mathlib.Core.List.Memᴰ.tail x16)))) = elim x16 [ ]

  -- one write or none, on both sides
  as_row : (b : Bool) (a c v : ℕ) → a < 0x0E48 → c < g + 0x18 → InBox g (a, v) (c, v) → AsOnS g (row b a v) (row b c v)
  as_row true a c v l m same = as_one (a, v) (c, v) (below_filters a l) (below_four c m) same
  as_row false a c v l m same = as_none

  -- the writes of a set: those of counters 0 to 3 on both sides, and in the box those of 4 and 5
  module _ (a c : ℕ) (same : (k v : ℕ) → k < 4 → InBox g (a + 2 * k, v) (c + 2 * k, v)) (low : a + 6 < 0x0E48) (near : c + 6 < g + 0x18)
      (u w : CounterSet) (equal : (k : ℕ) → k < 4 → has u k ≡ has w k) (values : List ℕ) where
    rows_same : (n : ℕ) → n ≤ 4 → AsOnS g (rows n u a 2 values) (rows n w c 2 values)
    unfolding rows
    rows_same zero l = as_none
    rows_same (suc m) l =
        as_joined (rows_same m (omega arith))
        (rw (equal m (omega arith)) (as_row (has w m) (a + 2 * m) (c + 2 * m) (get_or values m 0) (omega arith) (omega arith) (same m (get_or values m 0) (omega arith))))

    rows_as : Memᴰ (c + 2 * 4) (four_and_five g) → Memᴰ (c + 2 * 5) (four_and_five g) → AsOnS g (rows 4 u a 2 values) (rows 6 w c 2 values)
    unfolding rows
    rows_as four five =
        as_more (as_more (rows_same 4 (omega arith)) (as_beyond (has w 4) (c + 2 * 4) (get_or values 4 0) four)) (as_beyond (has w 5) (c + 2 * 5) (get_or values 5 0) five)

  module _ (u w : CounterSet) (equal : (k : ℕ) → k < 4 → has u k ≡ has w k) (values : List ℕ) where
    as_selects : AsOnS g (rows 4 u 0x0C50 2 values) (rows 6 w (g + 0x10) 2 values)
    as_selects =
        let four : g + 0x10 + 2 * 4 ≡ g + 0x18 = omega arith in
        let five : g + 0x10 + 2 * 5 ≡ g + 0x1A = omega arith in
        rows_as 0x0C50 (g + 0x10) (λ k v l. select l) (omega arith) (omega arith) u w equal values (Memᴰ.head four) (Memᴰ.tail (Memᴰ.tail (Memᴰ.head five)))

    as_counts : AsOnS g (rows 4 u 0x0C51 2 values) (rows 6 w (g + 0x11) 2 values)
    as_counts =
        let four : g + 0x11 + 2 * 4 ≡ g + 0x19 = omega arith in
        let five : g + 0x11 + 2 * 5 ≡ g + 0x1B = omega arith in
        rows_as 0x0C51 (g + 0x11) (λ k v l. count l) (omega arith) (omega arith) u w equal values (Memᴰ.tail (Memᴰ.head four)) (Memᴰ.tail (Memᴰ.tail (Memᴰ.tail (Memᴰ.head five))))

  as_global : (v w : ℕ) → v % 16 ≡ w % 16 → AsOnS g ((0x0C40, v) ∷ []) ((g, w) ∷ [])
  as_global v w e = as_one (0x0C40, v) (g, w) (below_filters 0x0C40 (omega arith)) (below_four g (omega arith)) (global e)

  as_filters : (packet : Option (ℕ × ℕ)) → AsOnS g (packet_writes packet) []
  unfolding packet_writes mm_cfg_at match_at mask_at
  as_filters (Some p) =
      let cfg : (v : ℕ) → AsOnS g ((0x0E48, v) ∷ []) [] = λ v. as_filter (0x0E48, v) (Memᴰ.head refl) in
      as_joined (as_joined (as_joined (cfg 0) (as_filter (0x0E49, p.0) (Memᴰ.tail (Memᴰ.head refl)))) (as_filter (0x0E4A, p.1) (Memᴰ.tail (Memᴰ.tail (Memᴰ.head refl))))) (cfg _)
  as_filters None = as_filter (0x0E48, 0) (Memᴰ.head refl)

-- ---- the values

-- the event words of C are those of S
uses_same : (b : ℕ) (s : Setup) (r : Request) (p : Place) → uses_of (on_device S s) r p ≡ uses_of (on_device (C b) s) r p
unfolding uses_of event_word rsp_word packet_word enabled enabled_on asked overflow_on both
uses_same b s (Event c m a) p = refl
uses_same b s (Packet x y a) p = refl
uses_same b s (Offcore w a) p = refl
uses_same b s (Latency t a c) p = refl

module _ (b : ℕ) (s : Setup) (rs : List Request) (ps : List Place) where
  abbrev on_s_lem : Setup
  on_s_lem = on_device S s

  abbrev in_box : Setup
  in_box = on_device (C b) s

  words_same : (settings_of (on_device S s) rs ps).words ≡ (settings_of (on_device (C b) s) rs ps).words
  unfolding settings_of
  words_same = ap (λ (f : Request → Place → List (ℕ × ℕ)). tabulate capacity (word_at (of_all f rs ps))) (fun_ext (λ r. fun_ext (λ p. uses_same b s r p)))

  used_same : (k : ℕ) → k < 4 → has (settings_of (on_device S s) rs ps).used k ≡ has (settings_of (on_device (C b) s) rs ps).used k
  unfolding counter_count
  used_same k l = used_has (on_device S s) rs ps k l ∙ sym (used_has (on_device (C b) s) rs ps k (omega arith))

  first_same : first_global (on_device S s) % 16 ≡ first_global (on_device (C b) s) % 16
  unfolding first_global fixed_enables unusable fixed_at all_counters counter_count fixed_count
  first_same = omega arith

  last_same : last_global (on_device S s) (settings_of (on_device S s) rs ps).used.0 % 16 ≡ last_global (on_device (C b) s) (settings_of (on_device (C b) s) rs ps).used.0 % 16
  unfolding last_global counter_count settings_of set_from
  last_same = omega (arith, first_same)

  -- ---- the whole list

  list_as : AsOnS (cbox_global b) (writes (on_device S s) rs ps) (writes (on_device (C b) s) rs ps)
  unfolding writes writes_for box_writes layout_of counter_count filter_writes precise_writes pebs_on asked overflow_on both ubox_at ubox_value
  list_as =
      let g = cbox_global b in
      let t = settings_of (on_device S s) rs ps in
      let v = settings_of (on_device (C b) s) rs ps in
      let frame : (x : ℕ) → AsOnS g (row (asked (on_device S s)) 0x0C00 x) (row (asked (on_device S s)) 0x0C00 x) =
      λ x. as_row g (asked (on_device S s)) 0x0C00 0x0C00 x (omega arith) (omega (arith, (cbox_range b).0)) ubox in
      let words : AsOnS g (rows 4 t.used 0x0C50 2 t.words) (rows 6 v.used (g + 0x10) 2 v.words) =
      rw words_same (as_selects g t.used v.used used_same v.words) in
      as_joined g (as_joined g (frame 0)
      (as_joined g (as_joined g (as_joined g (as_joined g (as_joined g (as_joined g
      (as_global g (first_global (on_device S s)) (first_global (on_device (C b) s)) first_same)
      (as_selects g s.usable s.usable (λ k l. refl) zeros))
      (as_filters g t.packet))
      (as_counts g t.used v.used used_same zeros))
      words)
      (as_none g))
      (as_global g (last_global (on_device S s) t.used.0) (last_global (on_device (C b) s) v.used.0) last_same)))
      (frame (ubox_value (on_device S s)))

pub cbox_writes : CBoxWrites
unfolding layout_of
cbox_writes s b rs ps = list_as b s rs ps
