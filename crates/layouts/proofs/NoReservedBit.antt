-- No reserved bit of the published layouts is set: `NoReservedBit`, write by write (`writes-all`), register by register.
use Rattle.std.specs.Prelude.{Option, None, Some}
use mathlib.Core.Path.{◌≡◌, refl, sym, subst, ◌∙◌}
use mathlib.Core.Logic.{⊎_elim}
use mathlib.Core.Bool.{Bool, true, false, true≢false}
use mathlib.Core.List.{List, [], ◌∷◌, Memᴰ, flat_map}
use Prim.Native.Nat.{ℕ, ◌+◌, ◌^◌, ◌<◌}
use native.Mathlib.Nat.{add-zero}
use native.Mathlib.Omega.{arith}
use borrow.Author.Tests.{ltb-true}
use lib.Dec.{eqb, ltb}
use lib.ListN.{get_or}
use Rattle.requests.specs.Choice.{both, either, every, pick}
use Rattle.requests.specs.declared.Device.{Device}
use Rattle.requests.specs.declared.Device.TheVariants.{G, S, C, B}
use Rattle.requests.specs.declared.Setup.{Setup}
use Rattle.requests.specs.declared.Request.{Request}
use Rattle.requests.specs.declared.Request.TheVariants.{Packet, Offcore}
use Rattle.requests.specs.Bits.{bit, in_list, only_bits, outstanding, rsp0_bits, rsp1_bits, rising, field, match_bits, mask_bits}
use Rattle.requests.specs.Askings.{core_count}
use Rattle.requests.specs.Devices.{counter_count, capacity}
use Rattle.requests.specs.WellFormedRequests.{Described, packet, offcore, latency}
use Rattle.requests.proofs.Tests.{every_at}
use Rattle.requests.proofs.WellFormed.{no_outstanding}
use Rattle.plans.specs.declared.Place.{Place}
use Rattle.plans.specs.Lists.{All, nil, cons, Each}
use Rattle.plans.specs.Legal.{Allowed, Legal, words_of, packets_of, of_all}
use Rattle.plans.proofs.Sets.{all_imp}
use Rattle.layouts.specs.Layout.{tabulate, Register, registers_of, layout_of, control_at, counter_at_lem, filters_at, rsp0_at, rsp1_at, mm_cfg_at, match_at, mask_at, ubox_at, pebs_at, pebs_on, pebs_bits, mm_enable, frz_all, en_all, core_sel, precise_store, is_event, ubox_bits, global_bits, control_bits}
use Rattle.layouts.specs.Settings.{uses_of, word_at, head_of, head_or, settings_of}
use Rattle.layouts.specs.Writes.{Write, first_global, last_global, offcore_writes, packet_writes, filter_writes, pebs_enable, precise_writes, core_bit, ubox_value, writes}
use Rattle.layouts.specs.Read.{no_counter}
use Rattle.layouts.specs.NoReservedBit.{Clean, AsksOutstanding, NoReservedBit}
use Rattle.layouts.proofs.UsableSets.{on}
use Rattle.layouts.proofs.ListLaws.{all_member, all_head, tabulate_member}
use Rattle.layouts.proofs.Tabulated.{get_d_tabulate}
use Rattle.layouts.proofs.WordBits.{bit_zero, zero_only}
use Rattle.layouts.proofs.DeviceFacts.{in_room, apart}
use Rattle.layouts.proofs.RegistersAfter.{precise_addresses, row_all, box_all, writes_all}
use Rattle.layouts.proofs.GlobalValues.{first_permitted, last_permitted}
use Rattle.layouts.proofs.ControlWords.{word_clean, plan_words, word_at_lem}
use Rattle.layouts.proofs.OffcoreWords.{offcore_clean, first_clean}
use Rattle.layouts.proofs.AskedWords.{FirstWord, offcore_word, latency_word_lem, first_words, second_words, packet_words}
use Rattle.layouts.proofs.FormedRequests.{describe_all}

-- ---- the registers that have reserved bits

-- the filter registers among them
filter_registers : Device → List Register
filter_registers G = (rsp0_at, rsp0_bits) ∷ (rsp1_at, rsp1_bits) ∷ []
filter_registers S = (mm_cfg_at, mm_enable ∷ []) ∷ (match_at, match_bits) ∷ (mask_at, mask_bits) ∷ []
filter_registers (C b) = []
filter_registers B = []

filter_among : (d : Device) → All (λ (r : Register). Memᴰ r.0 (filters_at d)) (filter_registers d)
unfolding filter_registers filters_at
filter_among G = cons (mathlib.Core.List.Memᴰ.head refl) (cons (mathlib.Core.List.Memᴰ.tail (mathlib.Core.List.Memᴰ.head refl)) nil)
filter_among S =
    cons (mathlib.Core.List.Memᴰ.head refl) (cons (mathlib.Core.List.Memᴰ.tail (mathlib.Core.List.Memᴰ.head refl)) (cons (mathlib.Core.List.Memᴰ.tail (mathlib.Core.List.Memᴰ.tail (mathlib.Core.List.Memᴰ.head refl))) nil))
filter_among (C b) = nil
filter_among B = nil

-- what holds of each of them
registers_all : (d : Device) (P : Register → Type 0) → P ((layout_of d).global, global_bits d) → All P (filter_registers d) → P (ubox_at, ubox_bits) → P (pebs_at, pebs_bits)
    → ((k : ℕ) → k < counter_count d → P (control_at d k, control_bits d)) → (r : Register) → Memᴰ r (registers_of d) → P r
unfolding registers_of filter_registers
registers_all d P global filters ubox pebs controls r m = go d global filters controls m
  where
    control_among : (d : Device) → ((k : ℕ) → k < counter_count d → P (control_at d k, control_bits d)) → Memᴰ r (tabulate (counter_count d) (λ k. (control_at d k, control_bits d))) → P r
    control_among d controls m = let t = tabulate_member (counter_count d) (λ k. (control_at d k, control_bits d)) r m in subst P (sym t.2) (controls t.0 t.1)

    go : (d : Device) → P ((layout_of d).global, global_bits d) → All P (filter_registers d) → ((k : ℕ) → k < counter_count d → P (control_at d k, control_bits d)) → Memᴰ r (registers_of d) → P r
    go G global (cons f0 (cons f1 nil)) controls m =
        ⊎_elim (λ e. subst P (sym e) global)
        (λ m1. ⊎_elim (λ e. subst P (sym e) f0) (λ m2. ⊎_elim (λ e. subst P (sym e) f1) (λ m3. control_among G controls m3) (mathlib.Core.List.Memᴰ.cases_cons m2)) (mathlib.Core.List.Memᴰ.cases_cons m1))
        (mathlib.Core.List.Memᴰ.cases_cons m)
    go S global (cons f0 (cons f1 (cons f2 nil))) controls m =
        ⊎_elim (λ e. subst P (sym e) global)
        (λ m1. ⊎_elim (λ e. subst P (sym e) f0)
        (λ m2. ⊎_elim (λ e. subst P (sym e) f1) (λ m3. ⊎_elim (λ e. subst P (sym e) f2)
        (λ m4. ⊎_elim (λ e. subst P (sym e) ubox) (λ m5. control_among S controls m5) (mathlib.Core.List.Memᴰ.cases_cons m4)) (mathlib.Core.List.Memᴰ.cases_cons m3)) (mathlib.Core.List.Memᴰ.cases_cons m2))
        (mathlib.Core.List.Memᴰ.cases_cons m1))
        (mathlib.Core.List.Memᴰ.cases_cons m)
    go (C b) global nil controls m =
        ⊎_elim (λ e. subst P (sym e) global) (λ m1. ⊎_elim (λ e. subst P (sym e) ubox) (λ m2. control_among (C b) controls m2) (mathlib.Core.List.Memᴰ.cases_cons m1)) (mathlib.Core.List.Memᴰ.cases_cons m)
    go B global nil controls m =
        ⊎_elim (λ e. subst P (sym e) global) (λ m1. ⊎_elim (λ e. subst P (sym e) pebs) (λ m2. control_among B controls m2) (mathlib.Core.List.Memᴰ.cases_cons m1)) (mathlib.Core.List.Memᴰ.cases_cons m)

-- ---- writes

zero_clean : (s : Setup) (a : ℕ) → Clean s (a, 0)
zero_clean s a r m e = zero_only r.1

global_clean : (s : Setup) (v : ℕ) → only_bits (global_bits s.device) v ≡ true → Clean s ((layout_of s.device).global, v)
global_clean s v h =
    let d = s.device in
    registers_all d (λ r. (layout_of d).global ≡ r.0 → only_bits r.1 v ≡ true)
    (λ e. h)
    (all_imp (λ r m e. absurd (all_member (apart d).filter_global m (sym e))) (filter_among d))
    (λ e. absurd ((apart d).ubox_global (sym e)))
    (λ e. absurd ((apart d).pebs_global (sym e)))
    (λ k l e. absurd ((apart d).global_control k (in_room d k l) e))

control_clean : (s : Setup) (k w : ℕ) → k < counter_count s.device → only_bits (control_bits s.device) w ≡ true → Clean s (control_at s.device k, w)
control_clean s k w l h =
    let d = s.device in
    registers_all d (λ r. control_at d k ≡ r.0 → only_bits r.1 w ≡ true)
    (λ e. absurd ((apart d).global_control k (in_room d k l) (sym e)))
    (all_imp (λ r m e. absurd (all_member ((apart d).filter_control k (in_room d k l)) m (sym e))) (filter_among d))
    (λ e. absurd ((apart d).ubox_control k (in_room d k l) (sym e)))
    (λ e. absurd ((apart d).pebs_control k (in_room d k l) (sym e)))
    (λ j b e. h)

-- a write of a filter register, seen by the filter registers alone
filter_clean : (s : Setup) (a w : ℕ) → Memᴰ a (filters_at s.device) → All (λ (r : Register). a ≡ r.0 → only_bits r.1 w ≡ true) (filter_registers s.device) → Clean s (a, w)
filter_clean s a w m h =
    let d = s.device in
    registers_all d (λ r. a ≡ r.0 → only_bits r.1 w ≡ true)
    (λ e. absurd (all_member (apart d).filter_global m e))
    h
    (λ e. absurd (all_member (apart d).ubox_filter m e))
    (λ e. absurd (all_member (apart d).pebs_filter m e))
    (λ k l e. absurd (all_member ((apart d).filter_control k (in_room d k l)) m e))

-- ---- the U-Box

ubox_write_clean : (s : Setup) (v : ℕ) → only_bits ubox_bits v ≡ true → Clean s (ubox_at, v)
ubox_write_clean s v h =
    let d = s.device in
    registers_all d (λ r. ubox_at ≡ r.0 → only_bits r.1 v ≡ true)
    (λ e. absurd ((apart d).ubox_global e))
    (all_imp (λ r m e. absurd (all_member (apart d).ubox_filter m (sym e))) (filter_among d))
    (λ e. h)
    (λ e. absurd ((apart d).pebs_ubox (sym e)))
    (λ k l e. absurd ((apart d).ubox_control k (in_room d k l) e))

-- en_all, with frz_all or without, and with the bit of a core or none
plain_clean : (off : Bool) → only_bits ubox_bits (2 ^ 28 + pick off 0 (2 ^ 31)) ≡ true
unfolding ubox_bits field rising only_bits both every either bit in_list
plain_clean true = refl
plain_clean false = refl

cores_clean : (off : Bool) → every 8 (λ c. only_bits ubox_bits (2 ^ 28 + pick off 0 (2 ^ 31) + 2 ^ (1 + c))) ≡ true
unfolding ubox_bits field rising only_bits both every either bit in_list
cores_clean true = refl
cores_clean false = refl

core_clean : (off : Bool) (c : Option ℕ) → only_bits ubox_bits (2 ^ 28 + pick off 0 (2 ^ 31) + core_bit c) ≡ true
unfolding core_bit core_count core_sel
core_clean off None = rw (add-zero (2 ^ 28 + pick off 0 (2 ^ 31))) (plain_clean off)
core_clean off (Some c) = go (ltb c 8) refl
  where
    go : (b : Bool) → ltb c 8 ≡ b → only_bits ubox_bits (2 ^ 28 + pick off 0 (2 ^ 31) + pick b (2 ^ (1 + c)) 0) ≡ true
    go true h = every_at 8 (λ c. only_bits ubox_bits (2 ^ 28 + pick off 0 (2 ^ 31) + 2 ^ (1 + c))) (cores_clean off) c (ltb-true c 8 h)
    go false h = rw (add-zero (2 ^ 28 + pick off 0 (2 ^ 31))) (plain_clean off)

ubox_clean : (s : Setup) → only_bits ubox_bits (ubox_value s) ≡ true
unfolding ubox_value en_all frz_all
ubox_clean s = core_clean (eqb s.overflow.freeze 0) s.overflow.core

-- ---- IA32_PEBS_ENABLE

pebs_write_clean : (s : Setup) (v : ℕ) → only_bits pebs_bits v ≡ true → Clean s (pebs_at, v)
pebs_write_clean s v h =
    let d = s.device in
    registers_all d (λ r. pebs_at ≡ r.0 → only_bits r.1 v ≡ true)
    (λ e. absurd ((apart d).pebs_global e))
    (all_imp (λ r m e. absurd (all_member (apart d).pebs_filter m (sym e))) (filter_among d))
    (λ e. absurd ((apart d).pebs_ubox e))
    (λ e. h)
    (λ k l e. absurd ((apart d).pebs_control k (in_room d k l) e))

-- the four values
precise_values : (a b : Bool) → only_bits pebs_bits (pick a (2 ^ 1) 0 + pick b (2 ^ 3 + 2 ^ 63) 0) ≡ true
unfolding pebs_bits field rising only_bits both every either bit in_list
precise_values true true = refl
precise_values true false = refl
precise_values false true = refl
precise_values false false = refl

pebs_clean : (f : ℕ → ℕ) → only_bits pebs_bits (pebs_enable f) ≡ true
unfolding pebs_enable precise_store
pebs_clean f = precise_values (is_event 0xC0 0x01 (f 1)) (is_event 0xCD 0x02 (f 3))

-- ---- the filter writes of a plan

first_word_clean : (s : Setup) (rs : List Request) (w : ℕ) → FirstWord s rs w → only_bits rsp0_bits w ≡ true
first_word_clean s rs w (offcore_word (offcore g h t o c)) = offcore_clean w h
first_word_clean s rs w (latency_word_lem t a b m (latency g h o c d) e) = rw e (first_clean t h)

second_word_clean : (s : Setup) (w : ℕ) → Described s (Offcore w no_counter) → only_bits rsp1_bits w ≡ true
second_word_clean s w (offcore g h t o c) = h

enable_clean : only_bits (mm_enable ∷ []) (2 ^ mm_enable) ≡ true
unfolding mm_enable only_bits both every either bit in_list
enable_clean = refl

-- a packet's words have only bits of their fields
packet_clean : (s : Setup) (x y : ℕ) → Described s (Packet x y no_counter) → (only_bits match_bits x ≡ true) × (only_bits mask_bits y ≡ true)
packet_clean s x y (packet g m k c) = (m, k)

-- the writes of the match/mask register, with the words of the first packet request where there is one
packets_clean : (u : Setup) (asked : List (ℕ × ℕ)) → All (λ (p : ℕ × ℕ). Described (on S u) (Packet p.0 p.1 no_counter)) asked
    → All (Clean (on S u)) (packet_writes (head_of asked))
unfolding packet_writes filter_registers filters_at mm_cfg_at match_at mask_at
packets_clean u (p ∷ ps) (cons h hs) =
    let words = packet_clean (on S u) p.0 p.1 h in
    cons (zero_clean (on S u) mm_cfg_at)
    (cons (filter_clean (on S u) match_at p.0 (mathlib.Core.List.Memᴰ.tail (mathlib.Core.List.Memᴰ.head refl)) (cons (λ e. absurd (omega arith)) (cons (λ e. words.0) (cons (λ e. absurd (omega arith)) nil))))
    (cons (filter_clean (on S u) mask_at p.1 (mathlib.Core.List.Memᴰ.tail (mathlib.Core.List.Memᴰ.tail (mathlib.Core.List.Memᴰ.head refl))) (cons (λ e. absurd (omega arith)) (cons (λ e. absurd (omega arith)) (cons (λ e. words.1) nil))))
    (cons (filter_clean (on S u) mm_cfg_at (2 ^ mm_enable) (mathlib.Core.List.Memᴰ.head refl) (cons (λ e. enable_clean) (cons (λ e. absurd (omega arith)) (cons (λ e. absurd (omega arith)) nil)))) nil)))
packets_clean u [] nil = cons (zero_clean (on S u) mm_cfg_at) nil

filters_clean : (d : Device) (u : Setup) (rs : List Request) (ps : List Place) → All (Described (on d u)) rs → Each Allowed rs ps
    → All (Clean (on d u)) (filter_writes d (settings_of (on d u) rs ps))
unfolding filter_writes offcore_writes settings_of filter_registers filters_at rsp0_at rsp1_at
filters_clean G u rs ps f h =
    let first : only_bits rsp0_bits (head_or 0 (of_all (words_of 0) rs ps)) ≡ true =
    all_head 0 (of_all (words_of 0) rs ps) (zero_only rsp0_bits) (all_imp (λ w a. first_word_clean (on G u) rs w a) (first_words (on G u) f h)) in
    let second : only_bits rsp1_bits (head_or 0 (of_all (words_of 1) rs ps)) ≡ true =
    all_head 0 (of_all (words_of 1) rs ps) (zero_only rsp1_bits) (all_imp (λ w a. second_word_clean (on G u) w a) (second_words (on G u) f h)) in
    cons (filter_clean (on G u) rsp0_at _ (mathlib.Core.List.Memᴰ.head refl) (cons (λ e. first) (cons (λ e. absurd (omega arith)) nil)))
    (cons (filter_clean (on G u) rsp1_at _ (mathlib.Core.List.Memᴰ.tail (mathlib.Core.List.Memᴰ.head refl)) (cons (λ e. absurd (omega arith)) (cons (λ e. second) nil))) nil)
filters_clean S u rs ps f h = packets_clean u (flat_map packets_of rs) (packet_words (on S u) f)
filters_clean (C b) u rs ps f h = nil
filters_clean B u rs ps f h = nil

-- ---- the list

module _ (s : Setup) (rs : List Request) (ps : List Place) (described : All (Described s) rs) (legal : Legal s rs ps) where
  clean : All (Clean s) (writes s rs ps)
  unfolding writes settings_of precise_writes
  clean =
      let d = s.device in
      let us = of_all (uses_of s) rs ps in
      writes_all s (settings_of s rs ps) (Clean s) (λ h. (zero_clean s ubox_at, ubox_write_clean s (ubox_value s) (ubox_clean s)))
      (box_all s (settings_of s rs ps) (Clean s)
      (global_clean s (first_global s) (first_permitted s))
      (λ k l h. zero_clean s (control_at d k))
      (filters_clean d s rs ps described legal.allowed)
      (λ k l h. zero_clean s (counter_at_lem d k))
      (λ k l h. control_clean s k (get_or (tabulate capacity (word_at us)) k 0) l
      (rw (get_d_tabulate capacity (word_at us) k 0 (in_room d k l))
      (word_at_lem (λ w. only_bits (control_bits d) w ≡ true) us k (zero_only (control_bits d)) (all_imp (λ x w. word_clean s x.1 w) (plan_words s described legal.allowed)))))
      (row_all (Clean s) (pebs_on d) pebs_at _ (λ h. pebs_write_clean s (pebs_enable (λ k. get_or (settings_of s rs ps).words k 0)) (pebs_clean _)))
      (global_clean s (last_global s (settings_of s rs ps).used.0) (last_permitted s rs ps legal)))

-- a word of RSP0 with bit 38 is a latency request's
first_latency : (s : Setup) (rs : List Request) (w : ℕ) → FirstWord s rs w → bit outstanding w ≡ true → AsksOutstanding rs w
first_latency s rs w (offcore_word (offcore g h t o c)) held = absurd (true≢false (sym held ∙ no_outstanding w h))
first_latency s rs w (latency_word_lem t a b m h e) held = (t, a, b, m, e)

latency_writes : (d : Device) (u : Setup) (rs : List Request) (ps : List Place) → d ≡ G → All (Described (on d u)) rs → Each Allowed rs ps
    → All (λ (w : Write). w.0 ≡ rsp0_at → bit outstanding w.1 ≡ true → AsksOutstanding rs w.1) (filter_writes d (settings_of (on d u) rs ps))
unfolding filter_writes offcore_writes settings_of rsp0_at rsp1_at
latency_writes G u rs ps g f h =
    let first : bit outstanding (head_or 0 (of_all (words_of 0) rs ps)) ≡ true → AsksOutstanding rs (head_or 0 (of_all (words_of 0) rs ps)) =
    all_head {P = λ w. bit outstanding w ≡ true → AsksOutstanding rs w} 0 (of_all (words_of 0) rs ps) (λ e. absurd (true≢false (sym e ∙ bit_zero outstanding)))
    (all_imp (λ w a. first_latency (on G u) rs w a) (first_words (on G u) f h)) in
    cons (λ e. first) (cons (λ (e : rsp1_at ≡ rsp0_at). absurd (omega arith)) nil)
latency_writes (C b) u rs ps g f h = nil
latency_writes B u rs ps g f h = nil
latency_writes S u rs ps g f h = let z : ◌≡◌ {A = ℕ} 0 1 = cc in absurd (omega arith)

rsp0_filter : Memᴰ rsp0_at (filters_at G)
unfolding filters_at
rsp0_filter = mathlib.Core.List.Memᴰ.head refl

latency_only : (s : Setup) (rs : List Request) (ps : List Place) (w : ℕ) → s.device ≡ G → All (Described s) rs → Legal s rs ps
    → Memᴰ (rsp0_at, w) (writes s rs ps) → bit outstanding w ≡ true → AsksOutstanding rs w
unfolding writes
latency_only s rs ps w g described legal m held =
    let d = s.device in
    let filter : Memᴰ rsp0_at (filters_at d) = subst (λ (x : Device). Memᴰ rsp0_at (filters_at x)) (sym g) rsp0_filter in
    all_member
    (writes_all s (settings_of s rs ps) (λ x. x.0 ≡ rsp0_at → bit outstanding x.1 ≡ true → AsksOutstanding rs x.1)
    (λ h. (λ e. absurd (all_member (apart d).ubox_filter filter (sym e)), λ e. absurd (all_member (apart d).ubox_filter filter (sym e))))
    (box_all s (settings_of s rs ps) (λ x. x.0 ≡ rsp0_at → bit outstanding x.1 ≡ true → AsksOutstanding rs x.1)
    (λ e. absurd (all_member (apart d).filter_global filter (sym e)))
    (λ k l h e. absurd (all_member ((apart d).filter_control k (in_room d k l)) filter (sym e)))
    (latency_writes d s rs ps g described legal.allowed)
    (λ k l h e. absurd (all_member ((apart d).filter_counter k (in_room d k l)) filter (sym e)))
    (λ k l h e. absurd (all_member ((apart d).filter_control k (in_room d k l)) filter (sym e)))
    (all_imp (λ x a e. absurd (all_member (apart d).pebs_filter filter (sym e ∙ a))) (precise_addresses d (settings_of s rs ps)))
    (λ e. absurd (all_member (apart d).filter_global filter (sym e)))))
    m refl held

pub no_reserved_bit : NoReservedBit
no_reserved_bit =
    record {
      clean = λ s rs ps f legal. clean s rs ps (describe_all s f) legal;
      latency_only = λ s rs ps w g f legal m held. latency_only s rs ps w g (describe_all s f) legal m held;
    }
