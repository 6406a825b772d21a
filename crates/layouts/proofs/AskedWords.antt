-- The words that a plan of well-formed requests asks of the filter registers. Assumes nothing.
--     FirstWord, first-words   what is asked of RSP0: an offcore word, or the first word of a latency request of the list
--     second-words             what is asked of RSP1: an offcore word
--     packet-words             what is asked of MATCH and MASK: the words of a packet request
use mathlib.Core.Path.{◌≡◌, refl}
use mathlib.Core.Bool.{Bool, true, false}
use mathlib.Core.List.{List, [], ◌∷◌, ◌++◌, flat_map, Memᴰ}
use Prim.Native.Nat.{ℕ}
use native.Mathlib.Omega.{arith}
use lib.Dec.{eqb}
use Rattle.requests.specs.Choice.{pick}
use Rattle.requests.specs.declared.CounterSet.{CounterSet}
use Rattle.requests.specs.declared.Setup.{Setup}
use Rattle.requests.specs.declared.Request.{Request}
use Rattle.requests.specs.declared.Request.TheVariants.{Packet, Offcore, Latency}
use Rattle.requests.specs.Bits.{latency_word}
use Rattle.requests.specs.WellFormedRequests.{CountersOf, Described, event, packet, offcore, latency}
use Rattle.plans.specs.declared.Place.{Place}
use Rattle.plans.specs.Lists.{All, nil, cons, Each, none, and}
use Rattle.plans.specs.Legal.{Allowed, words_of, packets_of, of_all}
use Rattle.plans.specs.Legal as plans
use Rattle.plans.proofs.Sets.{all_imp}
use Rattle.layouts.specs.Read.{no_counter}
use Rattle.layouts.proofs.OffcoreWords.{second_described}

-- whether a word is well-formed does not depend on the allowed set
pub offcore_allowed : {s : Setup} {w : ℕ} {a : CounterSet} (b : CounterSet) → CountersOf s b → Described s (Offcore w a) → Described s (Offcore w b)
offcore_allowed b l (offcore g h t o c) = offcore g h t o l

-- no counter is a set of the device's counters
pub none_within : (s : Setup) → CountersOf s no_counter
none_within s = omega arith

-- a word that is asked of RSP0
pub data FirstWord (s : Setup) (rs : List Request) (w : ℕ) : Type 0 where
  offcore_word : Described s (Offcore w no_counter) → FirstWord s rs w
  latency_word_lem : (t : ℕ) (a b : CounterSet) → Memᴰ (Latency t a b) rs → Described s (Latency t a b) → w ≡ latency_word 0 t → FirstWord s rs w

first_later : {s : Setup} {rs : List Request} {w : ℕ} (r : Request) → FirstWord s rs w → FirstWord s (r ∷ rs) w
first_later r (offcore_word h) = offcore_word h
first_later r (latency_word_lem t a b m h e) = latency_word_lem t a b (Memᴰ.tail m) h e

-- a word that is asked of this register, or of the other one
if_asked : (P : ℕ → Type 0) (here : Bool) (w : ℕ) {ws : List ℕ} → P w → All P ws → All P (pick here (w ∷ []) [] ++ ws)
if_asked P true w h hs = cons h hs
if_asked P false w h hs = hs

pub first_words : (s : Setup) {rs : List Request} {ps : List Place} → All (Described s) rs → Each Allowed rs ps → All (FirstWord s rs) (of_all (words_of 0) rs ps)
unfolding of_all words_of
first_words s nil none = nil
first_words s (cons {a = r} (event h a) fs) (and (plans.event b) es) = all_imp (λ w f. first_later r f) (first_words s fs es)
first_words s (cons {a = r} (packet g x y a) fs) (and (plans.packet b) es) = all_imp (λ w f. first_later r f) (first_words s fs es)
first_words s (cons {a = r} {rest = rs} (offcore {w = w} g h t o c) fs) (and (plans.offcore {i = i} b l) es) =
    if_asked (FirstWord s (r ∷ rs)) (eqb i 0) w (offcore_word (offcore g h t o (none_within s))) (all_imp (λ w f. first_later r f) (first_words s fs es))
first_words s (cons {a = r} (latency {t = t} {a = a} {b = b} g h o c d) fs) (and (plans.latency x y) es) =
    cons (latency_word_lem t a b (Memᴰ.head refl) (latency g h o c d) refl) (all_imp (λ w f. first_later r f) (first_words s fs es))

pub second_words : (s : Setup) {rs : List Request} {ps : List Place} → All (Described s) rs → Each Allowed rs ps → All (λ (w : ℕ). Described s (Offcore w no_counter)) (of_all (words_of 1) rs ps)
unfolding of_all words_of
second_words s nil none = nil
second_words s (cons (event h a) fs) (and (plans.event b) es) = second_words s fs es
second_words s (cons (packet g x y a) fs) (and (plans.packet b) es) = second_words s fs es
second_words s (cons (offcore {w = w} g h t o c) fs) (and (plans.offcore {i = i} b l) es) = if_asked (λ v. Described s (Offcore v no_counter)) (eqb i 1) w (offcore g h t o (none_within s)) (second_words s fs es)
second_words s (cons (latency {t = t} g h o c d) fs) (and (plans.latency x y) es) = cons (second_described t h s no_counter g o (none_within s)) (second_words s fs es)

-- whether the words of a packet request are well-formed does not depend on the allowed set
pub packet_allowed : {s : Setup} {x y : ℕ} {a : CounterSet} (b : CounterSet) → CountersOf s b → Described s (Packet x y a) → Described s (Packet x y b)
packet_allowed b l (packet g m k c) = packet g m k l

pub packet_words : (s : Setup) {rs : List Request} → All (Described s) rs → All (λ (p : ℕ × ℕ). Described s (Packet p.0 p.1 no_counter)) (flat_map packets_of rs)
unfolding flat_map packets_of
packet_words s nil = nil
packet_words s (cons (event h a) fs) = packet_words s fs
packet_words s (cons (packet {x = x} {y = y} g m k c) fs) = cons {a = (x, y)} (packet g m k (none_within s)) (packet_words s fs)
packet_words s (cons (offcore g h t o c) fs) = packet_words s fs
packet_words s (cons (latency g h o c d) fs) = packet_words s fs
