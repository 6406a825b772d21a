-- Document 01, 'Refusal numbers', 7 to 11: the checks of a request on a device.
use Rattle.std.specs.Prelude.{List, [], ◌∷◌, ◌++◌, Bool, false, not, ◌≡◌, ltb, eqb, Option, None}
use Rattle.requests.specs.Choice.{both, either, pick, is_some, Row, first_holding}
use Rattle.requests.specs.Bits.{only_bits, any_bit, type_bits, any_response, answer_bits, outstanding, rsp0_bits, match_bits, mask_bits}
use Rattle.requests.specs.Devices.{all_counters, packets_on, offcore_on, pairs_judged}
use Rattle.requests.specs.Catalogue.{events_of, code_in, pair_in, mask_not_listed}
use Rattle.requests.specs.declared.CounterSet.{CounterSet}
use Rattle.requests.specs.declared.Device.{Device}
use Rattle.requests.specs.declared.Setup.{Setup}
use Rattle.requests.specs.declared.Request.{Request}
use Rattle.requests.specs.declared.Request.TheVariants.{Event, Packet, Offcore, Latency}
use Rattle.requests.specs.declared.Refusal.{Refusal}
use Rattle.requests.specs.declared.Refusal.TheVariants.{KindNotOnDevice, NotListed, OutOfRange, Incomplete, Conflicting}

-- 7: request kind not on this device
unfoldable pub kind_not_on : Device → Request → Bool
kind_not_on d (Event c m a) = false
kind_not_on d (Packet x y a) = not (packets_on d)
kind_not_on d (Offcore w a) = not (offcore_on d)
kind_not_on d (Latency t a b) = not (offcore_on d)

-- 8: G and B: pair not listed; S and C: code not listed
unfoldable pub not_listed_lem : Device → Request → Bool
not_listed_lem d (Event c m a) = not (pick (pairs_judged d) (pair_in (events_of d) c m) (code_in (events_of d) c))
not_listed_lem d (Packet x y a) = false
not_listed_lem d (Offcore w a) = false
not_listed_lem d (Latency t a b) = false

-- an allowed set above all counters
unfoldable pub too_wide : Device → CounterSet → Bool
too_wide d a = ltb (all_counters d) a.0

-- 10: a mask, not 0, that is not listed for its code; reserved word or type bit; bit outside the fields of match or mask; allowed set above all
-- counters
unfoldable pub out_of_range : Device → Request → Bool
out_of_range d (Event c m a) = either (both (not (eqb m 0)) (mask_not_listed d c m)) (too_wide d a)
out_of_range d (Packet x y a) = either (not (only_bits match_bits x)) (either (not (only_bits mask_bits y)) (too_wide d a))
out_of_range d (Offcore w a) = either (not (only_bits rsp0_bits w)) (too_wide d a)
out_of_range d (Latency t a b) = either (not (only_bits type_bits t)) (either (too_wide d a) (too_wide d b))

-- 9: mask 0 where others are listed; no request type; offcore with neither response bit nor bit 38
unfoldable pub incomplete : Device → Request → Bool
incomplete d (Event c m a) = both (eqb m 0) (mask_not_listed d c m)
incomplete d (Packet x y a) = false
incomplete d (Offcore w a) = either (not (any_bit type_bits w)) (not (any_bit ((any_response ∷ answer_bits) ++ (outstanding ∷ [])) w))
incomplete d (Latency t a b) = not (any_bit type_bits t)

-- 11: offcore with bit 38, or bit 16 with an answer
unfoldable pub conflicting : Device → Request → Bool
conflicting d (Event c m a) = false
conflicting d (Packet x y a) = false
conflicting d (Offcore w a) = either (any_bit (outstanding ∷ []) w) (both (any_bit (any_response ∷ []) w) (any_bit answer_bits w))
conflicting d (Latency t a b) = false

-- the rows 7, 8, 10, 9, 11, in the order in which they are checked
unfoldable pub request_rows : Setup → Request → List (Row Refusal)
request_rows s r =
    (kind_not_on s.device r, KindNotOnDevice)
    ∷ (not_listed_lem s.device r, NotListed)
    ∷ (out_of_range s.device r, OutOfRange)
    ∷ (incomplete s.device r, Incomplete)
    ∷ (conflicting s.device r, Conflicting)
    ∷ []

-- the first of them that applies
unfoldable pub request_refusal : Setup → Request → Option Refusal
request_refusal s r = first_holding (request_rows s r)

-- whether none of 7 to 11 applies
unfoldable pub formed : Setup → Request → Bool
formed s r = not (is_some (request_refusal s r))

-- document 01: "well-formed requests (none of 7 to 11 applies)"
abbrev pub Formed : Setup → Request → Type 0
Formed s r = request_refusal s r ≡ None
