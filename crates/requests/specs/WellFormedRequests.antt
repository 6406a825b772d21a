-- Document 01, 'Requests and legal plans': which requests are well-formed, in the words of its paragraphs. The refusals 7 to 11 refuse all others.
use Rattle.std.specs.Prelude.{◌≡◌, ◌⊎◌, true, false, ℕ, ◌≤◌}
use Rattle.requests.specs.Bits.{bit, only_bits, any_bit, type_bits, any_response, answer_bits, rsp1_bits, match_bits, mask_bits}
use Rattle.requests.specs.Devices.{all_counters}
use Rattle.requests.specs.Catalogue.{events_of, pair_in}
use Rattle.requests.specs.Checks.{Formed}
use Rattle.requests.specs.declared.CounterSet.{CounterSet}
use Rattle.requests.specs.declared.Device.TheVariants.{G, S}
use Rattle.requests.specs.declared.Setup.{Setup}
use Rattle.requests.specs.declared.Request.{Request}
use Rattle.requests.specs.declared.Request.TheVariants.{Event, Packet, Offcore, Latency}

-- a set of the device's counters
abbrev pub CountersOf : Setup → CounterSet → Type 0
CountersOf s a = a.0 ≤ all_counters s.device

-- "either bit 16 or one or more snoop answers, not both"; L2_HIT is "one more answer" (order 1)
abbrev pub OneResponse : ℕ → Type 0
OneResponse w =
    ((bit any_response w ≡ true) × (any_bit answer_bits w ≡ false))
    ⊎ ((bit any_response w ≡ false) × (any_bit answer_bits w ≡ true))

-- a request as the paragraphs describe it
pub data Described (s : Setup) : Request → Type 0 where
  -- "the pair must be one of" the listed ones
  event : {c m : ℕ} {a : CounterSet} → pair_in (events_of s.device) c m ≡ true → CountersOf s a → Described s (Event c m a)
  -- "S only": no bit outside the fields of match and of mask
  packet : {x y : ℕ} {a : CounterSet} → s.device ≡ S → only_bits match_bits x ≡ true → only_bits mask_bits y ≡ true → CountersOf s a
      → Described s (Packet x y a)
  -- "G only": no reserved bit nor bit 38, "a request type and either bit 16 or one or more snoop answers, not both"
  offcore : {w : ℕ} {a : CounterSet} → s.device ≡ G → only_bits rsp1_bits w ≡ true → any_bit type_bits w ≡ true → OneResponse w → CountersOf s a
      → Described s (Offcore w a)
  -- "G only": request type bits, at least one
  latency : {t : ℕ} {a b : CounterSet} → s.device ≡ G → only_bits type_bits t ≡ true → any_bit type_bits t ≡ true → CountersOf s a → CountersOf s b
      → Described s (Latency t a b)

pub record WellFormedRequests : Type 0 where
  pub described : (s : Setup) (r : Request) → Formed s r → Described s r
  pub formed : (s : Setup) (r : Request) → Described s r → Formed s r
