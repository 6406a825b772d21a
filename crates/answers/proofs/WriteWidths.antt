-- Every write of a plan fits the fields of a `set` line, where the requests' numbers fit the fields of the lines that add them. Write by write,
-- by `writes-all` of the registers' laws. Assumes nothing.
use Rattle.std.specs.Prelude.{Option, None, Some}
use mathlib.Core.Path.{◌≡◌, refl}
use mathlib.Core.Bool.{Bool, true, false}
use mathlib.Core.List.{List, [], ◌∷◌, flat_map}
use Prim.Native.Nat.{ℕ, ◌+◌, ◌*◌, ◌^◌, ◌≤◌, ◌<◌}
use native.Mathlib.Nat.{mod-lt}
use native.Mathlib.Omega.{arith}
use lib.Dec.{ltb, eqb}
use lib.ListN.{get_or}
use lib.Pow.{pow_mono}
use borrow.Author.Tests.{ltb-true}
use Rattle.requests.specs.declared.Device.{Device}
use Rattle.requests.specs.declared.Device.TheVariants.{G, S, C, B}
use Rattle.requests.specs.declared.Setup.{Setup}
use Rattle.requests.specs.declared.Request.{Request}
use Rattle.requests.specs.declared.Request.TheVariants.{Event, Packet, Offcore, Latency}
use Rattle.requests.specs.Choice.{pick}
use Rattle.requests.specs.Askings.{core_count, asked}
use Rattle.requests.specs.Bits.{any_response, outstanding, latency_word}
use Rattle.requests.specs.Devices.{capacity, counter_count, all_counters, fixed_count}
use Rattle.plans.specs.declared.Place.{Place}
use Rattle.plans.specs.declared.Place.TheVariants.{Counter, WithRsp, Pair}
use Rattle.plans.specs.Lists.{All, nil, cons}
use Rattle.plans.specs.Places.{second}
use Rattle.plans.specs.Legal.{words_of, packets_of, of_all}
use Rattle.requests.proofs.DeviceNumbers.{numbers}
use Rattle.plans.proofs.Sets.{all_append}
use Rattle.plans.proofs.PlanLengthHolds.{plan_length}
use Rattle.layouts.specs.declared.Settings.{Settings}
use Rattle.layouts.specs.Layout.{rsp0_at, rsp1_at, mm_cfg_at, match_at, mask_at, ubox_at, pebs_at, pebs_on, mm_enable, frz_all, en_all, core_sel, precise_store, is_event, enabled_on, pmi_enable, enabled, event_word, offcore_code, rsp_mask, rsp_word, packet_word}
use Rattle.layouts.specs.Settings.{uses_of, word_at, head_of, head_or, settings_of}
use Rattle.layouts.specs.Writes.{Write, unusable, fixed_at, fixed_enables, first_global, last_global, offcore_writes, packet_writes, filter_writes, row, pebs_enable, precise_writes, core_bit, ubox_value, writes}
use Rattle.layouts.proofs.ListLaws.{all_head}
use Rattle.layouts.proofs.Tabulated.{get_d_tabulate}
use Rattle.layouts.proofs.DeviceFacts.{facts, in_room}
use Rattle.layouts.proofs.RegistersAfter.{box_all, writes_all}
use Rattle.layouts.proofs.ControlWords.{word_at_lem}
use Rattle.grammar.specs.Records.{Hex, AddFits}
use Rattle.answers.proofs.DeviceWidths.{widths}

-- the words of a request fit their fields
abbrev pub WordsFit : Request → Type 0
WordsFit (Event c m a) = Hex 2 c × Hex 2 m
WordsFit (Packet x y a) = Hex 16 x × Hex 16 y
WordsFit (Offcore w a) = Hex 16 w
WordsFit (Latency t a b) = Hex 4 t

pub words_fit : (id : ℕ) (r : Request) → AddFits id r → WordsFit r
words_fit id (Event c m a) h = (h.1, h.2)
words_fit id (Packet x y a) h = (h.1, h.2)
words_fit id (Offcore w a) h = h.1
words_fit id (Latency t a b) h = h.1

-- an address and a value fit theirs
abbrev pub WriteFits : Write → Type 0
WriteFits w = Hex 4 w.0 × Hex 16 w.1

-- ---- the values that requests ask for

-- what holds of each request's holds of all
of_all_lem : {A : Type 0} {P : A → Type 0} (f : Request → Place → List A) → ((r : Request) (p : Place) → WordsFit r → All P (f r p))
    → {rs : List Request} → All WordsFit rs → (ps : List Place) → All P (of_all f rs ps)
unfolding of_all
of_all_lem f h nil ps = nil
of_all_lem f h (cons w ws) [] = nil
of_all_lem f h (cons {a = r} w ws) (p ∷ ps) = all_append (h r p w) (of_all_lem f h ws ps)

-- an event word, with pmi_en or without
event_fits : (s : Setup) (c m : ℕ) → Hex 2 c → Hex 2 m → Hex 16 (event_word s c m)
unfolding event_word enabled pmi_enable
event_fits s c m h j = go (asked s)
  where
    go : (b : Bool) → Hex 16 (enabled_on s.device + pick b (2 ^ 20) 0 + 0x100 * m + c)
    go true = omega (arith, (facts s.device).enabled_small)
    go false = omega (arith, (facts s.device).enabled_small)

rsp_fits : (s : Setup) (i : ℕ) → Hex 16 (rsp_word s i)
unfolding rsp_word rsp_mask offcore_code
rsp_fits s i = go (eqb i 0)
  where
    go : (b : Bool) → Hex 16 (event_word s offcore_code (pick b 1 2))
    go true = event_fits s offcore_code 1 (omega arith) (omega arith)
    go false = event_fits s offcore_code 2 (omega arith) (omega arith)

-- control words
uses_fit : (s : Setup) (r : Request) (p : Place) → WordsFit r → All (λ (u : ℕ × ℕ). Hex 16 u.1) (uses_of s r p)
unfolding uses_of packet_word
uses_fit s (Event c m a) p h = cons (event_fits s c m h.0 h.1) nil
uses_fit s (Packet x y a) p h = cons (event_fits s 0 0 (omega arith) (omega arith)) nil
uses_fit s (Offcore w a) p h = cons (rsp_fits s (second p)) nil
uses_fit s (Latency t a b) p h = cons (rsp_fits s 0) (cons (rsp_fits s 1) nil)

latency_fits_lem : (i t : ℕ) → Hex 4 t → Hex 16 (latency_word i t)
unfolding latency_word outstanding any_response
latency_fits_lem i t h = go (eqb i 0)
  where
    go : (b : Bool) → Hex 16 (t + 2 ^ elim b [ true ↦ outstanding | false ↦ any_response ])
    go true = omega arith
    go false = omega arith

-- words of RSP registers
asked_fit : (i : ℕ) (r : Request) (p : Place) → WordsFit r → All (Hex 16) (words_of i r p)
unfolding words_of
asked_fit i (Event c m a) p h = nil
asked_fit i (Packet x y a) p h = nil
asked_fit i (Offcore w a) (Counter k) h = nil
asked_fit i (Offcore w a) (WithRsp k j) h = go (eqb j i)
  where
    go : (b : Bool) → All (Hex 16) (pick b (w ∷ []) [])
    go true = cons h nil
    go false = nil
asked_fit i (Offcore w a) (Pair j k) h = nil
asked_fit i (Latency t a b) p h = cons (latency_fits_lem i t h) nil

-- match and mask words
abbrev PacketFits : ℕ × ℕ → Type 0
PacketFits x = Hex 16 x.0 × Hex 16 x.1

packet_fits : (r : Request) → WordsFit r → All PacketFits (packets_of r)
unfolding packets_of
packet_fits (Event c m a) h = nil
packet_fits (Packet x y a) h = cons h nil
packet_fits (Offcore w a) h = nil
packet_fits (Latency t a b) h = nil

packets_fit_lem : {rs : List Request} → All WordsFit rs → All PacketFits (flat_map packets_of rs)
unfolding flat_map
packets_fit_lem nil = nil
packets_fit_lem (cons {a = r} h hs) = all_append (packet_fits r h) (packets_fit_lem hs)

-- ---- writes

zero_fits : Hex 16 0
zero_fits = omega arith

-- the values of the global register have bits of the device's counters and fixed counters alone
last_fits : (s : Setup) (used : ℕ) → Hex 16 (last_global s used)
unfolding last_global first_global fixed_enables fixed_at unusable all_counters capacity
last_fits s used =
    let small : 2 ^ counter_count s.device ≤ 2 ^ 8 = pow_mono (plan_length.device_at_most s.device) in
    let some : 1 ≤ 2 ^ counter_count s.device = pow_mono {i = 0} (omega arith) in
    let few : 2 ^ fixed_count s.device ≤ 2 ^ 3 = pow_mono (numbers s.device).fixed_few in
    let one : 1 ≤ 2 ^ fixed_count s.device = pow_mono {i = 0} (omega arith) in
    omega (arith, mod-lt used {m = 2 ^ counter_count s.device} some, mod-lt s.fixed {m = 2 ^ fixed_count s.device} one)

first_fits : (s : Setup) → Hex 16 (first_global s)
unfolding last_global
first_fits s = omega (arith, last_fits s 0)

-- so has that of the U-Box
core_fits_lem : (c : Option ℕ) → core_bit c ≤ 0x100
unfolding core_bit core_sel core_count
core_fits_lem None = omega arith
core_fits_lem (Some c) = go (ltb c 8) refl
  where
    go : (b : Bool) → ltb c 8 ≡ b → pick b (2 ^ (1 + c)) 0 ≤ 0x100
    go true e = pow_mono {i = 1 + c} {j = 8} (omega (arith, ltb-true c 8 e))
    go false e = omega arith

ubox_fits_lem : (s : Setup) → Hex 16 (ubox_value s)
unfolding ubox_value en_all frz_all
ubox_fits_lem s = go (eqb s.overflow.freeze 0)
  where
    go : (b : Bool) → Hex 16 (2 ^ 28 + pick b 0 (2 ^ 31) + core_bit s.overflow.core)
    go true = omega (arith, core_fits_lem s.overflow.core)
    go false = omega (arith, core_fits_lem s.overflow.core)

filter_fits : (a v : ℕ) → a < 0x10000 → Hex 16 v → WriteFits (a, v)
filter_fits a v l h = (omega arith, h)

packet_writes_fit : (asked : List (ℕ × ℕ)) → All PacketFits asked → All WriteFits (packet_writes (head_of asked))
unfolding packet_writes mm_cfg_at match_at mask_at mm_enable
packet_writes_fit (p ∷ asked) (cons h hs) =
    cons (filter_fits mm_cfg_at 0 (omega arith) zero_fits)
    (cons (filter_fits match_at p.0 (omega arith) h.0)
    (cons (filter_fits mask_at p.1 (omega arith) h.1)
    (cons (filter_fits mm_cfg_at (2 ^ mm_enable) (omega arith) (omega arith)) nil)))
packet_writes_fit [] nil = cons (filter_fits mm_cfg_at 0 (omega arith) zero_fits) nil

-- the enables of precise events are bits of a word
pebs_fits_lem : (f : ℕ → ℕ) → Hex 16 (pebs_enable f)
unfolding pebs_enable precise_store
pebs_fits_lem f = go (is_event 0xC0 0x01 (f 1)) (is_event 0xCD 0x02 (f 3))
  where
    go : (a b : Bool) → Hex 16 (pick a (2 ^ 1) 0 + pick b (2 ^ 3 + 2 ^ 63) 0)
    go true true = omega arith
    go true false = omega arith
    go false true = omega arith
    go false false = omega arith

precise_fit : (d : Device) (t : Settings) → All WriteFits (precise_writes d t)
unfolding precise_writes pebs_at
precise_fit d t = go (pebs_on d)
  where
    go : (b : Bool) → All WriteFits (row b pebs_at (pebs_enable (λ k. get_or t.words k 0)))
    go true = cons (filter_fits pebs_at _ (omega arith) (pebs_fits_lem (λ k. get_or t.words k 0))) nil
    go false = nil

module _ (rs : List Request) (ps : List Place) (fit : All WordsFit rs) where
  -- the word of an RSP register
  rsp_word_fits : (i : ℕ) → Hex 16 (head_or 0 (of_all (words_of i) rs ps))
  rsp_word_fits i = all_head 0 (of_all (words_of i) rs ps) zero_fits (of_all_lem (words_of i) (asked_fit i) fit ps)

  filters_fit_lem : (s : Setup) (d : Device) → All WriteFits (filter_writes d (settings_of s rs ps))
  unfolding filter_writes offcore_writes settings_of rsp0_at rsp1_at
  filters_fit_lem s G = cons (filter_fits rsp0_at _ (omega arith) (rsp_word_fits 0)) (cons (filter_fits rsp1_at _ (omega arith) (rsp_word_fits 1)) nil)
  filters_fit_lem s S = packet_writes_fit (flat_map packets_of rs) (packets_fit_lem fit)
  filters_fit_lem s (C b) = nil
  filters_fit_lem s B = nil

  pub writes_fit : (s : Setup) → All WriteFits (writes s rs ps)
  unfolding writes settings_of ubox_at
  writes_fit s =
      let d = s.device in
      let us = of_all (uses_of s) rs ps in
      let t = settings_of s rs ps in
      writes_all s t WriteFits (λ a. ((omega arith, zero_fits), (omega arith, ubox_fits_lem s)))
      (box_all s t WriteFits
      ((widths d).global, first_fits s)
      (λ k l h. ((widths d).control k (in_room d k l), zero_fits))
      (filters_fit_lem s d)
      (λ k l h. ((widths d).counter k (in_room d k l), zero_fits))
      (λ k l h. (
        (widths d).control k (in_room d k l),
        rw (get_d_tabulate capacity (word_at us) k 0 (in_room d k l)) (word_at_lem (Hex 16) us k zero_fits (of_all_lem (uses_of s) (uses_fit s) fit ps)),
      ))
      (precise_fit d t)
      ((widths d).global, last_fits s t.used.0))
