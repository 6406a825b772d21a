-- Document 02, order 11: requests and openings, and the number and the field that refuse them.
use Rattle.std.specs.Prelude.{◌≡◌, List, [], ◌∷◌, map, ℕ, Option, None, Some}
use Rattle.requests.specs.Refusals.{number_of}
use Rattle.requests.specs.Askings.{unasked}
use Rattle.requests.specs.Faults.{opening_fault, request_fault}
use Rattle.requests.specs.declared.CounterSet.{CounterSet}
use Rattle.requests.specs.declared.Device.{Device}
use Rattle.requests.specs.declared.Device.TheVariants.{G, S, C, B}
use Rattle.requests.specs.declared.Request.{Request}
use Rattle.requests.specs.declared.Request.TheVariants.{Event, Packet, Offcore, Latency}
use Rattle.requests.specs.declared.Fault.{Fault}

-- the number and the field of a fault
unfoldable pub numbered : Option Fault → Option (ℕ × ℕ)
numbered None = None
numbered (Some f) = Some (number_of f.refusal, f.field)

-- what is checked, and the number and the field, or none
pub record Example : Type 0 where
  pub fault : Option Fault
  pub told : Option (ℕ × ℕ)

abbrev set : ℕ → CounterSet
set n = record { 0 = n }

abbrev on : Device → Request → Option (ℕ × ℕ) → Example
on d r t = record { fault = request_fault (record { device = d; usable = set 15; fixed = 0; overflow = unasked }) r; told = t }

abbrev opening : ℕ → ℕ → ℕ → ℕ → ℕ → Option ℕ → Option (ℕ × ℕ) → Example
opening letter usable fixed box freeze core t =
    record {
      fault = opening_fault (record { device = letter; usable = set usable; fixed = fixed; cbox = box; overflow = record { freeze = freeze; core = core } });
      told = t;
    }

unfoldable pub fault_examples : List Example
fault_examples =
    -- a letter of no device, G, S, C and B
    opening 88 0 9 9 2 (Some 9) (Some (3, 1))
    ∷ opening 71 16 8 1 2 None (Some (3, 2))
    ∷ opening 71 0 0 0 0 None (Some (3, 2))
    ∷ opening 71 15 8 1 0 None (Some (3, 3))
    ∷ opening 71 15 7 1 0 None (Some (3, 4))
    ∷ opening 83 15 1 0 0 None (Some (3, 3))
    ∷ opening 67 63 0 8 2 (Some 9) (Some (3, 4))
    ∷ opening 71 15 0 0 2 (Some 9) (Some (7, 0))
    ∷ opening 83 15 0 0 2 (Some 9) (Some (10, 4))
    ∷ opening 83 15 0 0 0 (Some 9) (Some (10, 5))
    ∷ opening 67 63 0 7 2 (Some 9) (Some (10, 5))
    ∷ opening 67 63 0 7 1 (Some 9) (Some (10, 6))
    ∷ opening 67 63 0 7 1 (Some 7) None
    ∷ opening 66 16 8 1 2 None (Some (3, 2))
    ∷ opening 66 15 8 1 0 None (Some (3, 3))
    ∷ opening 66 15 7 1 0 None (Some (3, 4))
    ∷ opening 66 15 0 0 1 None (Some (7, 0))
    ∷ opening 66 15 0 0 0 (Some 9) (Some (7, 0))
    ∷ opening 66 15 7 0 0 None None
    -- "8 gives the code's field", also where the mask alone is wrong
    ∷ on G (Event 0xC1 0x00 (set 15)) (Some (8, 2))
    ∷ on G (Event 0xC0 0x05 (set 16)) (Some (8, 2))
    ∷ on S (Event 0x50 0x05 (set 16)) (Some (8, 2))
    ∷ on B (Event 0xCD 0x01 (set 16)) (Some (8, 2))
    ∷ on B (Event 0xC0 0x02 (set 15)) (Some (8, 2))
    -- "where several fields fail under one number, the leftmost"
    ∷ on G (Event 0xC0 0x00 (set 16)) (Some (10, 4))
    ∷ on S (Event 0x51 0x04 (set 16)) (Some (10, 3))
    ∷ on S (Event 0x51 0x00 (set 16)) (Some (10, 4))
    ∷ on S (Event 0x51 0x00 (set 15)) (Some (9, 3))
    ∷ on (C 7) (Event 0x0B 0x00 (set 63)) (Some (9, 3))
    ∷ on (C 7) (Event 0x0B 0x00 (set 64)) (Some (10, 4))
    ∷ on B (Event 0xC0 0x01 (set 16)) (Some (10, 4))
    ∷ on B (Latency 0x0040 (set 16) (set 16)) (Some (7, 0))
    ∷ on G (Packet 0 0 (set 16)) (Some (7, 0))
    ∷ on S (Packet 0x8000000000000000 0x8000000000000000 (set 16)) (Some (10, 3))
    ∷ on S (Packet 0 0 (set 16)) (Some (10, 4))
    ∷ on S (Offcore 0x10040 (set 16)) (Some (7, 0))
    ∷ on G (Offcore 0x10040 (set 16)) (Some (10, 2))
    ∷ on G (Offcore 0x10001 (set 16)) (Some (10, 3))
    ∷ on G (Offcore 0x1 (set 15)) (Some (9, 2))
    ∷ on G (Offcore 0x200010001 (set 15)) (Some (11, 2))
    ∷ on G (Latency 0x0040 (set 16) (set 16)) (Some (10, 2))
    ∷ on G (Latency 0x0001 (set 16) (set 16)) (Some (10, 3))
    ∷ on G (Latency 0x0001 (set 15) (set 16)) (Some (10, 4))
    ∷ on G (Latency 0x0000 (set 15) (set 15)) (Some (9, 2))
    ∷ on G (Latency 0x0001 (set 15) (set 15)) None
    ∷ []

-- each is told so
abbrev pub FaultExamples : Type 0
FaultExamples = map (λ (e : Example). numbered e.fault) fault_examples ≡ map (λ (e : Example). e.told) fault_examples
