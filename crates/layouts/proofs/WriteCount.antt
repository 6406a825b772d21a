-- The number of writes: at most the device's limit, which a plan that uses every counter has. By the lengths of the parts of the list. Assumes nothing.
use Rattle.std.specs.Prelude.{None, Some, Option}
use mathlib.Core.Path.{◌≡◌, refl, ap, ◌∙◌}
use mathlib.Core.Logic.{◌≢◌, ◌⊎◌, inl, inr}
use mathlib.Core.Bool.{Bool, true, false, not, false≢true}
use mathlib.Core.List.{List, [], ◌∷◌, ◌++◌, flat_map}
use Prim.Native.Nat.{ℕ, zero, suc, ◌+◌, ◌*◌, ◌-◌, ◌%◌, ◌^◌, ◌≤◌, ◌<◌}
use native.Mathlib.Nat.{le_refl, mod-eq_of_lt}
use native.Mathlib.Omega.{arith}
use lib.ListN.{length, get_or, replicate, length-append}
use lib.Pow.{pow_pos, pow_mono}
use Rattle.requests.specs.Choice.{both, either, first_holding, every, pick}
use Rattle.requests.specs.declared.CounterSet.{CounterSet}
use Rattle.requests.specs.declared.Device.{Device}
use Rattle.requests.specs.declared.Device.TheVariants.{G, S, C, B}
use Rattle.requests.specs.declared.Setup.{Setup}
use Rattle.requests.specs.declared.Request.{Request}
use Rattle.requests.specs.declared.Request.TheVariants.{Event, Packet}
use Rattle.requests.specs.Askings.{overflow_on, unasked, core_given, asks, asked}
use Rattle.requests.specs.Bits.{bit, in_list, only_bits, rising, field, match_bits, mask_bits}
use Rattle.requests.specs.Devices.{has, counter_count, capacity, all_counters, box_of, packets_on, offcore_on, pairs_judged, setup_of, opening_of}
use Rattle.requests.specs.Openings.{most_box, MayAsk, NothingAsked, InRange}
use Rattle.requests.specs.MaskRules.{allows}
use Rattle.requests.specs.CBoxEvents.{sink_masks, ring_masks, starved_masks, bypass_masks, cbox_events}
use Rattle.requests.specs.Catalogue.{architectural_events, precise_events, events_of, code_in, pair_in, mask_not_listed}
use Rattle.requests.specs.EventRules.{rule_on_b, has_rules, rule_of, rule_for}
use Rattle.requests.specs.declared.EventRule.TheVariants.{Anywhere}
use Rattle.requests.specs.Checks.{kind_not_on, not_listed_lem, too_wide, out_of_range, incomplete, conflicting, request_rows, request_refusal, Formed}
use Rattle.requests.proofs.AskingTests.{may_ask}
use Rattle.requests.proofs.DeviceNumbers.{numbers}
use Rattle.requests.proofs.OpeningsTaken.{openings}
use Rattle.requests.proofs.RuledEvents.{ruled_events}
use Rattle.requests.proofs.Tests.{both_false}
use Rattle.plans.specs.declared.Place.{Place}
use Rattle.plans.specs.declared.Place.TheVariants.{Counter}
use Rattle.plans.specs.Lists.{All, nil, cons, Pairwise, empty, add, OneValue, Each, none, and}
use Rattle.plans.specs.Places.{counted_of, counters_of}
use Rattle.plans.specs.Legal.{Usable, Allowed, Legal, event, packet, words_of, packets_of, of_all, counters}
use Rattle.layouts.specs.Layout.{tabulate, layout_of, ubox_at, pebs_at, pebs_on}
use Rattle.layouts.specs.Settings.{uses_of, set_from, settings_of}
use Rattle.layouts.specs.Writes.{row, rows, offcore_writes, packet_writes, filter_writes, precise_writes, zeros, ubox_value, box_writes, writes_for, writes}
use Rattle.layouts.specs.WriteCount.{write_limit, Reached, WriteCount}
use Rattle.layouts.specs.declared.Settings.{Settings}
use Rattle.layouts.proofs.CounterSets.{bit_set, set_left}
use Rattle.layouts.proofs.ListLaws.{all_member}
use Rattle.layouts.proofs.WordBits.{bit_zero}
use Rattle.layouts.proofs.DeviceFacts.{filter_room, facts}
use Rattle.layouts.proofs.EnableBits.{asked_served}
use Rattle.layouts.proofs.RuledWords.{no_rules}

rows_length : (n : ℕ) (s : CounterSet) (base step : ℕ) (values : List ℕ) → length (rows n s base step values) ≤ n
unfolding rows
rows_length zero s base step values = le_refl 0
rows_length (suc n) s base step values =
    rw (length-append (rows n s base step values) (row (has s n) (base + step * n) (get_or values n 0)))
    (one (has s n) (rows_length n s base step values))
  where
    one : (b : Bool) → length (rows n s base step values) ≤ n → length (rows n s base step values) + length (row b (base + step * n) (get_or values n 0)) ≤ suc n
    one true l = omega arith
    one false l = omega arith

pub filter_length : (d : Device) (t : Settings) → length (filter_writes d t) ≤ filter_room d
unfolding filter_writes offcore_writes packet_writes filter_room
filter_length G t = le_refl 2
filter_length S t = go t.packet
  where
    go : (packet : Option (ℕ × ℕ)) → length (packet_writes packet) ≤ 4
    go (Some p) = le_refl 4
    go None = omega arith
filter_length (C b) t = le_refl 0
filter_length B t = le_refl 0

pub precise_length : (d : Device) (t : Settings) → length (precise_writes d t) ≡ pick (pebs_on d) 1 0
unfolding precise_writes
precise_length d t = go (pebs_on d) _
  where
    go : (b : Bool) (v : ℕ) → length (row b pebs_at v) ≡ pick b 1 0
    go true v = refl
    go false v = refl

box_at_most : (s : Setup) (t : Settings) → length (box_writes s t) ≤ 2 + 3 * counter_count s.device + filter_room s.device + pick (pebs_on s.device) 1 0
unfolding box_writes
box_at_most s t =
    let d = s.device in
    let n = counter_count s.device in
    let l = layout_of s.device in
    simp length-append
    (omega (
      arith,
      rows_length n s.usable l.control l.step zeros,
      filter_length d t,
      rows_length n t.used l.counter l.step zeros,
      rows_length n t.used l.control l.step t.words,
      precise_length d t,
    ))

-- two more where something is asked
at_most : (s : Setup) (t : Settings) → length (writes_for s t) ≤ write_limit s.device (asked s)
unfolding writes_for
at_most s t = go (asked s) (asked_served s)
  where
    go : (b : Bool) → (b ≡ true → overflow_on s.device ≡ true) → length (row b ubox_at 0 ++ box_writes s t ++ row b ubox_at (ubox_value s)) ≤ write_limit s.device b
    go true served = simp length-append (omega (arith, box_at_most s t, (facts s.device).frame_room (served refl)))
    go false served = simp length-append (omega (arith, box_at_most s t, (facts s.device).write_room))

-- every counter is usable and allowed
all : Device → CounterSet
all d = record { 0 = all_counters d }

has_all : (d : Device) (k : ℕ) → k < counter_count d → has (all d) k ≡ true
unfolding all all_counters has
has_all d k l =
    let n = counter_count d in
    let none : 0 % 2 ^ n ≡ 0 = mod-eq_of_lt (pow_pos n) in
    let every_one : 2 ^ n - 1 ≡ set_from n 0 (λ j. not (bit j 0)) = omega (arith, none, set_left n 0) in
    ap (bit k) every_one ∙ bit_set n 0 k (λ j. not (bit j 0)) l ∙ ap not (bit_zero (0 + k))

all_some : (d : Device) → 1 ≤ all_counters d
unfolding all_counters
all_some d = let more : 2 ^ 1 ≤ 2 ^ counter_count d = pow_mono (numbers d).counters_some in omega arith

-- with a freeze asked, or nothing
setup : Device → Bool → Setup
setup d a = record { device = d; usable = all d; fixed = 0; overflow = pick a (record { freeze = 1; core = None }) unasked }

-- n places, from counter k on
places_from : ℕ → ℕ → List Place
places_from zero k = []
places_from (suc n) k = Counter k ∷ places_from n (suc k)

-- they are all different
all_differ : (n k : ℕ) → Pairwise ◌≢◌ (counters (places_from n k))
unfolding places_from counters counters_of counted_of flat_map
all_differ zero k = empty
all_differ (suc n) k = add (above n (suc k) k (omega arith)) (all_differ n (suc k))
  where
    above : (m j i : ℕ) → i < j → All (λ (x : ℕ). i ≢ x) (counters (places_from m j))
    above zero j i l = nil
    above (suc m) j i l = cons {a = j} (λ e. omega (arith, e)) (above m (suc j) i (omega arith))

-- and all usable
usable_from : (d : Device) (a : Bool) (n k : ℕ) → k + n ≤ counter_count d → All (Usable (setup d a)) (counters (places_from n k))
unfolding places_from counters counters_of counted_of flat_map setup all
usable_from d a zero k l = nil
usable_from d a (suc n) k l = cons {a = k} (omega arith, has_all d k (omega arith)) (usable_from d a n (suc k) (omega arith))

-- a device's longest list: a request for each counter, the first of them a packet request where the device has one
requests : Device → List Request
requests G = replicate 4 (Event 0xC0 0 (all G))
requests S = Packet 0 0 (all S) ∷ replicate 3 (Event 0x52 0 (all S))
requests (C b) = replicate 6 (Event 0x19 0 (all (C b)))
requests B = replicate 4 (Event 0xC0 0 (all B))

places : Device → List Place
places d = places_from (counter_count d) 0

formed : (d : Device) (a : Bool) → All (Formed (setup d a)) (requests d)
unfolding setup requests all both either every bit only_bits rising field match_bits mask_bits first_holding packets_on offcore_on pairs_judged allows in_list events_of architectural_events precise_events cbox_events sink_masks ring_masks starved_masks bypass_masks code_in pair_in mask_not_listed kind_not_on not_listed_lem too_wide out_of_range incomplete conflicting request_rows request_refusal all_counters counter_count
formed G a = cons refl (cons refl (cons refl (cons refl nil)))
formed S a = cons refl (cons refl (cons refl (cons refl nil)))
formed (C b) a = cons refl (cons refl (cons refl (cons refl (cons refl (cons refl nil)))))
formed B a = cons refl (cons refl (cons refl (cons refl nil)))

allowed : (d : Device) → Each Allowed (requests d) (places d)
unfolding requests places places_from all all_counters counter_count has bit
allowed G = and (event refl) (and (event refl) (and (event refl) (and (event refl) none)))
allowed S = and (packet refl) (and (event refl) (and (event refl) (and (event refl) none)))
allowed (C b) = and (event refl) (and (event refl) (and (event refl) (and (event refl) (and (event refl) (and (event refl) none)))))
allowed B = and (event refl) (and (event refl) (and (event refl) (and (event refl) none)))

one_word : (d : Device) (i : ℕ) → OneValue (of_all (words_of i) (requests d) (places d))
unfolding requests places places_from counter_count of_all words_of
one_word G i = (0, nil)
one_word S i = (0, nil)
one_word (C b) i = (0, nil)
one_word B i = (0, nil)

one_packet : (d : Device) → OneValue (flat_map packets_of (requests d))
unfolding requests flat_map packets_of
one_packet G = ((0, 0), nil)
one_packet S = ((0, 0), cons refl nil)
one_packet (C b) = ((0, 0), nil)
one_packet B = ((0, 0), nil)

-- none of them has a rule
unruled : (d : Device) → All (λ (r : Request). rule_for d r ≡ Anywhere) (requests d)
unfolding requests rule_for rule_of has_rules rule_on_b both
unruled G = cons refl (cons refl (cons refl (cons refl nil)))
unruled S = cons refl (cons refl (cons refl (cons refl nil)))
unruled (C b) = cons refl (cons refl (cons refl (cons refl (cons refl (cons refl nil)))))
unruled B = cons refl (cons refl (cons refl (cons refl nil)))

legal : (d : Device) (a : Bool) → Legal (setup d a) (requests d) (places d)
unfolding places setup
legal d a =
    let rules = no_rules (setup d a) (λ r m. (ruled_events.anywhere d r).0 (all_member (unruled d) m)) (allowed d) in
    record {
      differ = all_differ (counter_count d) 0;
      usable_only = usable_from d a (counter_count d) 0 (omega arith);
      allowed = allowed d;
      one_word = λ i l. one_word d i;
      one_packet = one_packet d;
      ruled = rules.ruled;
      alone = rules.alone;
      quiet = rules.quiet;
    }

-- what it asks
setup_asks : (d : Device) (a : Bool) → (a ≡ true → overflow_on d ≡ true) → asked (setup d a) ≡ a
unfolding setup asked asks unasked core_given overflow_on both either
setup_asks d true served = rw (served refl)
setup_asks d false served = both_false (overflow_on d)

-- open takes it
setup_taken : (d : Device) (a : Bool) → (a ≡ true → overflow_on d ≡ true) → box_of d ≤ most_box d → setup_of (opening_of (setup d a)) ≡ Some (setup d a)
unfolding setup opening_of all unasked
setup_taken d a served box =
    openings.taken (opening_of (setup d a)) (setup d a)
    (record {
      given = record {
        letter = refl;
        at_least = all_some d;
        at_most = le_refl (all_counters d);
        fixed_at_most = omega arith;
        box = refl;
        box_at_most = box;
      };
      usable = refl;
      fixed = refl;
      overflow = refl;
      askings = go a served;
    })
  where
    go : (a : Bool) → (a ≡ true → overflow_on d ≡ true) → NothingAsked (setup d a).overflow ⊎ (MayAsk d × InRange (setup d a).overflow)
    go true served = inr (may_ask d (served refl), (le_refl 1, tt))
    go false served = inl (refl, refl)

length_is : (d : Device) (a : Bool) → (a ≡ true → overflow_on d ≡ true) → length (writes (setup d a) (requests d) (places d)) ≡ write_limit d a
unfolding write_limit setup requests places places_from all all_counters counter_count has bit of_all uses_of words_of flat_map packets_of counters counters_of counted_of settings_of set_from in_list either both tabulate capacity layout_of rows filter_writes offcore_writes packet_writes pebs_on precise_writes asked asks unasked core_given overflow_on box_writes writes_for writes
length_is G true served = absurd (false≢true (served refl))
length_is G false served = refl
length_is S true served = refl
length_is S false served = refl
length_is (C b) true served = refl
length_is (C b) false served = refl
length_is B true served = absurd (false≢true (served refl))
length_is B false served = refl

reached : (d : Device) (a : Bool) → (a ≡ true → overflow_on d ≡ true) → Reached d a
unfolding setup
reached d a served =
    record {
      setup = setup d a;
      requests = requests d;
      places = places d;
      device = refl;
      asking = setup_asks d a served;
      taken = setup_taken d a served;
      formed = formed d a;
      legal = legal d a;
      length_is = length_is d a served;
    }

pub write_count : WriteCount
unfolding writes
write_count = record { at_most = λ s rs ps h. at_most s (settings_of s rs ps); reached = reached }
