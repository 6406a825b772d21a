-- What a request takes where it is placed, in the room by rows. Assumes nothing.
use Rattle.std.specs.Prelude.{Option, None, Some}
use mathlib.Core.Path.{◌≡◌, refl, sym, ◌∙◌}
use mathlib.Core.Bool.{Bool, true, false}
use mathlib.Core.List.{List}
use Prim.Native.Nat.{ℕ, ◌+◌, ◌*◌, ◌%◌}
use native.Mathlib.Numerals.{add-one}
use native.Mathlib.Omega.{arith}
use lib.Dec.{eqb, leb}
use lib.ListN.{get_or}
use borrow.Author.Tests.{eqb-true, eqb-false, le-leb, lt-leb}
use Rattle.requests.specs.declared.CounterSet.{CounterSet}
use Rattle.requests.specs.declared.Request.{Request}
use Rattle.requests.specs.declared.Request.TheVariants.{Event, Packet, Offcore, Latency}
use Rattle.requests.specs.Choice.{pick}
use Rattle.requests.specs.Bits.{latency_word}
use Rattle.requests.specs.Devices.{has}
use Rattle.plans.specs.declared.Room.{Room}
use Rattle.search.specs.declared.left.Left.{Left}
use Rattle.plans.specs.Search.{holds, holds_packet, take_counter, take_word, take_packet, and_then, admit}
use Rattle.search.specs.Rows.{set_of, request_of, request_at}
use Rattle.search.specs.Counters.{available}
use Rattle.search.specs.Left.{without_counter, with_rsp0, with_rsp1, with_packet}
use Rattle.search.specs.Filters.{word_at, asked_packet, rsp_of, filter_of, room_of}
use Rattle.search.proofs.CounterBits.{not_available, chosen_same}

-- ---- the user of a register

-- a test of a register for a word that was made first
pub word_told : (r : Option ℕ) (made w : ℕ) (test told : Bool) → made ≡ w → test ≡ holds r made → test ≡ told → holds r w ≡ told
word_told r made w test told e f g = rw e at (sym f ∙ g)

packet_used : (rows : List ℕ) (at : ℕ) (r : Request) → r ≡ request_at rows at → filter_of rows (at + 1) ≡ asked_packet r
packet_used rows at r e = rw (add-one at, e)

module _ (rows : List ℕ) (at : ℕ) where
  abbrev kind : ℕ
  kind = get_or rows (at * 4) 0

  abbrev cell : ℕ → ℕ
  cell j = get_or rows (at * 4 + j) 0

  word_offcore : (i w : ℕ) (a : CounterSet) → Offcore w a ≡ request_at rows at → word_at rows i at ≡ w
  unfolding word_at request_at request_of
  word_offcore i w a e = go (eqb kind 0) (eqb kind 1) (eqb kind 2) refl e
    where
      go : (p q r : Bool) → eqb kind 2 ≡ r
          → Offcore w a ≡ pick p (Event (cell 1 % 256) (cell 2 % 256) (set_of (cell 3))) (pick q (Packet (cell 1) (cell 2) (set_of (cell 3)))
          (pick r (Offcore (cell 1) (set_of (cell 3))) (Latency (cell 1 % 65536) (set_of (cell 2)) (set_of (cell 3)))))
          → pick (leb kind 2) (cell 1) (latency_word i (cell 1 % 65536)) ≡ w
      go true q r k h = let z : ◌≡◌ {A = ℕ} 0 1 = cc in absurd (omega arith)
      go false true r k h = let z : ◌≡◌ {A = ℕ} 0 1 = cc in absurd (omega arith)
      go false false true k h =
          let two : kind ≡ 2 = eqb-true _ _ k in
          let same : cell 1 ≡ w = cc in
          rw (le-leb kind 2 (omega arith), same)
      go false false false k h = let z : ◌≡◌ {A = ℕ} 0 1 = cc in absurd (omega arith)

  word_latency : (i t : ℕ) (a b : CounterSet) → Latency t a b ≡ request_at rows at → word_at rows i at ≡ latency_word i t
  unfolding word_at request_at request_of
  word_latency i t a b e = go (eqb kind 0) (eqb kind 1) (eqb kind 2) refl refl refl e
    where
      go : (p q r : Bool) → eqb kind 0 ≡ p → eqb kind 1 ≡ q → eqb kind 2 ≡ r
          → Latency t a b ≡ pick p (Event (cell 1 % 256) (cell 2 % 256) (set_of (cell 3))) (pick q (Packet (cell 1) (cell 2) (set_of (cell 3)))
          (pick r (Offcore (cell 1) (set_of (cell 3))) (Latency (cell 1 % 65536) (set_of (cell 2)) (set_of (cell 3)))))
          → pick (leb kind 2) (cell 1) (latency_word i (cell 1 % 65536)) ≡ latency_word i t
      go true q r f g k h = let z : ◌≡◌ {A = ℕ} 0 1 = cc in absurd (omega arith)
      go false true r f g k h = let z : ◌≡◌ {A = ℕ} 0 1 = cc in absurd (omega arith)
      go false false true f g k h = let z : ◌≡◌ {A = ℕ} 0 1 = cc in absurd (omega arith)
      go false false false f g k h =
          let not0 : (kind ≡ 0 → ⊥) = eqb-false _ _ f in
          let not1 : (kind ≡ 1 → ⊥) = eqb-false _ _ g in
          let not2 : (kind ≡ 2 → ⊥) = eqb-false _ _ k in
          let same : cell 1 % 65536 ≡ t = cc in
          rw (lt-leb kind 2 (omega arith), same)

  offcore_used : (i w : ℕ) (a : CounterSet) → Offcore w a ≡ request_at rows at → rsp_of rows i (at + 1) ≡ Some w
  offcore_used i w a e = rw (add-one at, word_offcore i w a e)

  latency_used : (i t : ℕ) (a b : CounterSet) → Latency t a b ≡ request_at rows at → rsp_of rows i (at + 1) ≡ Some (latency_word i t)
  latency_used i t a b e = rw (add-one at, word_latency i t a b e)

-- ---- a counter

pub counter_taken : (rows : List ℕ) (a : CounterSet) (k : ℕ) (left after : Left) → available a left.free k ≡ true → after ≡ without_counter left k
    → take_counter a k (room_of rows left) ≡ Some (room_of rows after)
unfolding available take_counter
counter_taken rows a k left after h e = rw (h, e)

pub counter_missing : (a : CounterSet) (k : ℕ) (m : Room) → available a m.free k ≡ false → take_counter a k m ≡ None
unfolding available take_counter
counter_missing a k m h = rw h

-- the counters of `a` that are free, in place of `a`
pub counter_chosen : (a choice : CounterSet) (k : ℕ) (m : Room) → has choice k ≡ available a m.free k → take_counter a k m ≡ take_counter choice k m
unfolding take_counter available
counter_chosen a choice k m chosen = rw (chosen_same a m.free choice k chosen)

pick_then : (b : Bool) (m : Room) (f : Room → Option Room) → and_then (pick b (Some m) None) f ≡ pick b (f m) None
pick_then true m f = refl
pick_then false m f = refl

neither : (b : Bool) → pick {A = Option Room} b None None ≡ None
neither true = refl
neither false = refl

either_then : (b p q : Bool) (m l : Room) (f : Room → Option Room)
    → and_then (pick b (pick p (Some m) None) (pick q (Some l) None)) f ≡ pick b (pick p (f m) None) (pick q (f l) None)
either_then true p q m l f = pick_then p m f
either_then false p q m l f = pick_then q l f

-- ---- the registers of a request in row `at`

-- what an offcore request takes at counter k with RSP register j (0, or else 1), where that is held
abbrev pub offcore_taken : List ℕ → CounterSet → Bool → Bool → Left → Left → ℕ → ℕ → Option Room
offcore_taken rows a held0 held1 left0 left1 k j =
    pick (eqb j 0) (pick held0 (take_counter a k (room_of rows left0)) None) (pick held1 (take_counter a k (room_of rows left1)) None)

-- what a latency request takes where its registers are held
abbrev pub pair_taken : List ℕ → CounterSet → CounterSet → Left → ℕ → ℕ → Option Room
pair_taken rows a b used j k = and_then (take_counter a j (room_of rows used)) (take_counter b k)

-- the counters of `a` that are free, in place of `a`
module _ (rows : List ℕ) (choice : CounterSet) where
  pub offcore_chosen : (a : CounterSet) (held0 held1 : Bool) (left0 left1 : Left) (k j : ℕ) → has choice k ≡ available a left0.free k → has choice k ≡ available a left1.free k
      → offcore_taken rows a held0 held1 left0 left1 k j ≡ offcore_taken rows choice held0 held1 left0 left1 k j
  offcore_chosen a held0 held1 left0 left1 k j p q = rw (counter_chosen a choice k (room_of rows left0) p, counter_chosen a choice k (room_of rows left1) q)

  pub offcore_missing : (held0 held1 : Bool) (left0 left1 : Left) (k j : ℕ) → has choice k ≡ false → offcore_taken rows choice held0 held1 left0 left1 k j ≡ None
  offcore_missing held0 held1 left0 left1 k j h =
      rw (counter_missing choice k (room_of rows left0) (not_available choice left0.free k h), counter_missing choice k (room_of rows left1) (not_available choice left1.free k h))
      (rw (neither held0, neither held1) (neither (eqb j 0)))

  module _ (b : CounterSet) (used : Left) (j : ℕ) where
    pub pair_chosen : (a : CounterSet) (k : ℕ) → has choice j ≡ available a used.free j → pair_taken rows a b used j k ≡ pair_taken rows choice b used j k
    pair_chosen a k p = rw (counter_chosen a choice j (room_of rows used) p)

    pub pair_first : (after : Left) (k : ℕ) → available choice used.free j ≡ true → after ≡ without_counter used j → pair_taken rows choice b used j k ≡ take_counter b k (room_of rows after)
    pair_first after k h e = rw (counter_taken rows choice j used after h e)

    pub pair_missing : (k : ℕ) → has choice j ≡ false → pair_taken rows choice b used j k ≡ None
    pair_missing k h = rw (counter_missing choice j (room_of rows used) (not_available choice used.free j h))

module _ (rows : List ℕ) (at : ℕ) (left : Left) where
  abbrev room : Room
  room = room_of rows left

  module _ (x y : ℕ) (a : CounterSet) (k j : ℕ) where
    pub packet_held : (used : Left) → used ≡ with_packet left (at + 1) → Packet x y a ≡ request_at rows at → holds_packet room.packet x y ≡ true
        → admit (Packet x y a) k j room ≡ take_counter a k (room_of rows used)
    unfolding admit take_packet
    packet_held used u r h = rw (h, u, packet_used rows at (Packet x y a) r)

    pub packet_differs : holds_packet room.packet x y ≡ false → admit (Packet x y a) k j room ≡ None
    unfolding admit take_packet
    packet_differs h = rw h

  pub offcore_asked : (w : ℕ) (a : CounterSet) (held0 held1 : Bool) → Offcore w a ≡ request_at rows at → held0 ≡ holds room.rsp0 w → held1 ≡ holds room.rsp1 w
      → (k j : ℕ) → admit (Offcore w a) k j room ≡ offcore_taken rows a held0 held1 (with_rsp0 left (at + 1)) (with_rsp1 left (at + 1)) k j
  unfolding admit take_word
  offcore_asked w a held0 held1 r f g k j =
      rw (← f, ← g, offcore_used rows at 0 w a r, offcore_used rows at 1 w a r)
      (either_then (eqb j 0) held0 held1 _ _ (take_counter a k))

  module _ (t : ℕ) (a b : CounterSet) (j k : ℕ) where
    pub latency_held : (half used : Left) → half ≡ with_rsp0 left (at + 1) → used ≡ with_rsp1 half (at + 1) → Latency t a b ≡ request_at rows at
        → holds room.rsp0 (latency_word 0 t) ≡ true → holds room.rsp1 (latency_word 1 t) ≡ true
        → admit (Latency t a b) j k room ≡ pair_taken rows a b used j k
    unfolding admit take_word
    latency_held half used u v r f g = rw (f, g, v, u, latency_used rows at 0 t a b r, latency_used rows at 1 t a b r)

    pub rsp0_differs : holds room.rsp0 (latency_word 0 t) ≡ false → admit (Latency t a b) j k room ≡ None
    unfolding admit take_word
    rsp0_differs f = rw f

    pub rsp1_differs : holds room.rsp0 (latency_word 0 t) ≡ true → holds room.rsp1 (latency_word 1 t) ≡ false → admit (Latency t a b) j k room ≡ None
    unfolding admit take_word
    rsp1_differs f g = rw (f, g)
