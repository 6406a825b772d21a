-- Document 01, tries H and I, the cases beside them, and orders 1, 3, 5 and 12: requests, and the numbers that refuse them.
use Rattle.std.specs.Prelude.{◌≡◌, List, [], ◌∷◌, map, ℕ, Option, None, Some}
use Rattle.requests.specs.Refusals.{answer_for, answer_number}
use Rattle.requests.specs.Askings.{unasked}
use Rattle.requests.specs.Checks.{request_refusal}
use Rattle.requests.specs.declared.CounterSet.{CounterSet}
use Rattle.requests.specs.declared.Device.{Device}
use Rattle.requests.specs.declared.Device.TheVariants.{G, S, C, B}
use Rattle.requests.specs.declared.Request.{Request}
use Rattle.requests.specs.declared.Request.TheVariants.{Event, Packet, Offcore, Latency}

-- a request on a device, and the number that refuses it, or none
pub record Example : Type 0 where
  pub device : Device
  pub request : Request
  pub number : Option ℕ

-- counters 0 to 3
abbrev all : CounterSet
all = record { 0 = 15 }

-- counters 0 to 5
abbrev six : CounterSet
six = record { 0 = 63 }

abbrev example : Device → Request → Option ℕ → Example
example d r n = record { device = d; request = r; number = n }

unfoldable pub examples : List Example
examples =
    -- H. "Word 10040: 10; 1: 9; 200010001: 11"
    example G (Offcore 0x10040 all) (Some 10)
    ∷ example G (Offcore 0x1 all) (Some 9)
    ∷ example G (Offcore 0x200010001 all) (Some 11)
    -- I. "S 51/0: 9; 51/3: 400351; 51/4: 10"
    ∷ example S (Event 0x51 0 all) (Some 9)
    ∷ example S (Event 0x51 3 all) None
    ∷ example S (Event 0x51 4 all) (Some 10)
    -- "004 says of mask 0 in the first two that nothing will be counted"
    ∷ example S (Event 0x31 0 all) (Some 9)
    -- S2B_HOM_BYPASS has the mask 0 alone
    ∷ example S (Event 0x52 1 all) (Some 10)
    -- "the pair must be one of the SDM's architectural events": the offcore event is none
    ∷ example G (Event 0xB7 0x01 all) (Some 8)
    -- "Document 000's table lists bit 31 as usable, 002 lists it as reserved: 002 decides"
    ∷ example G (Offcore 0x80010001 all) (Some 10)
    ∷ example G (Offcore 0x10001 all) None
    -- "offcore with bit 38", alone and beside bit 16
    ∷ example G (Offcore 0x4000000001 all) (Some 11)
    ∷ example G (Offcore 0x4000010001 all) (Some 11)
    -- each of the snoop answers is a response, and does not go with bit 16
    ∷ example G (Offcore 0x200000001 all) None
    ∷ example G (Offcore 0x400000001 all) None
    ∷ example G (Offcore 0x1000000001 all) None
    ∷ example G (Offcore 0x2000000001 all) None
    ∷ example G (Offcore 0x400010001 all) (Some 11)
    ∷ example G (Offcore 0x1000010001 all) (Some 11)
    ∷ example G (Offcore 0x2000010001 all) (Some 11)
    -- each request type stands alone beside bit 16
    ∷ example G (Offcore 0x10002 all) None
    ∷ example G (Offcore 0x10004 all) None
    ∷ example G (Offcore 0x10008 all) None
    ∷ example G (Offcore 0x10010 all) None
    ∷ example G (Offcore 0x10020 all) None
    ∷ example G (Offcore 0x10080 all) None
    ∷ example G (Offcore 0x10100 all) None
    ∷ example G (Offcore 0x10200 all) None
    ∷ example G (Offcore 0x10400 all) None
    ∷ example G (Offcore 0x10800 all) None
    ∷ example G (Offcore 0x11000 all) None
    ∷ example G (Offcore 0x12000 all) None
    ∷ example G (Offcore 0x14000 all) None
    ∷ example G (Offcore 0x18000 all) None
    -- "no request type", checked before "bit 16 with a snoop answer"
    ∷ example G (Offcore 0x10000 all) (Some 9)
    ∷ example G (Offcore 0x200010000 all) (Some 9)
    ∷ example G (Latency 0x0000 all all) (Some 9)
    -- order 1: L2_HIT "satisfies the response rule, may stand with" the snoop answers
    ∷ example G (Offcore 0x40001 all) None
    ∷ example G (Offcore 0x200040001 all) None
    ∷ example G (Offcore 0x360004FFBF all) None
    -- "and is refused with 11 beside bit 16"; so is every word with bit 38
    ∷ example G (Offcore 0x50001 all) (Some 11)
    ∷ example G (Offcore 0x4000040001 all) (Some 11)
    -- it is no request type
    ∷ example G (Offcore 0x40000 all) (Some 9)
    -- bits 17 and 19 are reserved, which is checked before 11
    ∷ example G (Offcore 0x20001 all) (Some 10)
    ∷ example G (Offcore 0x60001 all) (Some 10)
    ∷ example G (Offcore 0x70001 all) (Some 10)
    ∷ example G (Offcore 0x80001 all) (Some 10)
    -- bit 6 is no request type
    ∷ example G (Latency 0x0040 all all) (Some 10)
    ∷ example G (Latency 0x0001 all all) None
    -- "S: code not listed"
    ∷ example S (Event 0x2E 0x00 all) (Some 8)
    -- "S only", "G only"
    ∷ example G (Packet 0 0 all) (Some 7)
    ∷ example S (Packet 0 0 all) None
    ∷ example S (Offcore 0x10001 all) (Some 7)
    ∷ example S (Latency 0x0001 all all) (Some 7)
    -- order 5: bits outside the fields of the mask register; of the match register none is known
    ∷ example S (Packet 0 0x0000007FFFFFFFFF all) None
    ∷ example S (Packet 0 0x0000008000000000 all) (Some 10)
    ∷ example S (Packet 0 0x8000000000000000 all) (Some 10)
    ∷ example S (Packet 0xFFFFFFFFFFFFFFFF 0x1 all) None
    -- "7 first"
    ∷ example G (Packet 0 0x8000000000000000 (record { 0 = 16 })) (Some 7)
    -- "allowed set above 15"
    ∷ example S (Packet 0 0 (record { 0 = 16 })) (Some 10)
    ∷ example G (Latency 0x0001 all (record { 0 = 16 })) (Some 10)
    -- C: "STARVED_EGRESS 0B, whose listed mask values are the only ones accepted (0 is refused with 9, others with 10"
    ∷ example (C 0) (Event 0x0B 0x00 six) (Some 9)
    ∷ example (C 0) (Event 0x0B 0x05 six) (Some 10)
    ∷ example (C 0) (Event 0x0B 0x07 six) None
    -- "elsewhere mask 0 alone is accepted"
    ∷ example (C 7) (Event 0x19 0x00 six) None
    ∷ example (C 7) (Event 0x19 0x01 six) (Some 10)
    -- "Known entries": TRANS_IRQ 19 above, TRANS_IPQ, TRANS_MAF, TRANS_RSPF
    ∷ example (C 0) (Event 0x1B 0x00 six) None
    ∷ example (C 0) (Event 0x1F 0x00 six) None
    ∷ example (C 0) (Event 0x23 0x00 six) None
    -- a printed x may be either bit
    ∷ example (C 0) (Event 0x14 0x05 six) None
    ∷ example (C 0) (Event 0x14 0x08 six) (Some 10)
    ∷ example (C 0) (Event 0x06 0x03 six) (Some 10)
    ∷ example (C 0) (Event 0x28 0xFF six) None
    -- the masks of INGRESS_BYPASS_WINS_AD are lost, and so is the code of LLC_HITS
    ∷ example (C 0) (Event 0x0E 0x00 six) (Some 9)
    ∷ example (C 0) (Event 0x0E 0x01 six) (Some 10)
    ∷ example (C 0) (Event 0x15 0x01 six) (Some 8)
    ∷ example (C 0) (Event 0x0D 0x00 six) (Some 8)
    -- "3 and 10 use that bound", and 10 is checked before 9
    ∷ example (C 0) (Event 0x0B 0x00 (record { 0 = 64 })) (Some 10)
    ∷ example (C 0) (Event 0x23 0x00 (record { 0 = 0 })) None
    -- "Packet, offcore and latency requests on C get 7"
    ∷ example (C 0) (Packet 0 0 six) (Some 7)
    ∷ example (C 0) (Offcore 0x10001 six) (Some 7)
    ∷ example (C 0) (Latency 0x0001 six six) (Some 7)
    -- B: G's pairs "and two more, 8 as on G"; their masks are those of no other code
    ∷ example B (Event 0xC0 0x00 all) None
    ∷ example B (Event 0xC0 0x01 all) None
    ∷ example B (Event 0xCD 0x02 all) None
    ∷ example B (Event 0xCD 0x01 all) (Some 8)
    ∷ example B (Event 0xC0 0x02 all) (Some 8)
    ∷ example B (Event 0xCD 0x00 all) (Some 8)
    ∷ example G (Event 0xC0 0x01 all) (Some 8)
    ∷ example G (Event 0xCD 0x02 all) (Some 8)
    -- a rule of counters narrows the allowed set and does not bound it: without counter 1 it is no matter of 10, and 16 is
    ∷ example B (Event 0xC0 0x01 (record { 0 = 13 })) None
    ∷ example B (Event 0xC0 0x01 (record { 0 = 16 })) (Some 10)
    -- "without packet, offcore or latency requests"
    ∷ example B (Packet 0 0 all) (Some 7)
    ∷ example B (Offcore 0x10001 all) (Some 7)
    ∷ example B (Latency 0x0001 all all) (Some 7)
    ∷ []

-- the number that refuses the request of an example
unfoldable pub number_for : Example → Option ℕ
number_for e = answer_number (answer_for (request_refusal (record { device = e.device; usable = all; fixed = 0; overflow = unasked }) e.request))

-- each request is answered by its number
abbrev pub Examples : Type 0
Examples = map number_for examples ≡ map (λ e. e.number) examples
