-- Document 01, 'What is on the bench' and 'open': devices, their counters, and what open takes.
use Rattle.std.specs.Prelude.{Bool, true, false, not, List, [], ◌∷◌, ℕ, zero, suc, ◌+◌, ◌-◌, ◌^◌, ltb, leb, eqb, Option, None, Some, Result, Ok, Err}
use Rattle.requests.specs.Choice.{both, pick, Row, first_holding}
use Rattle.requests.specs.Bits.{bit}
use Rattle.requests.specs.Askings.{overflow_not_on, overflow_fits}
use Rattle.requests.specs.declared.CounterSet.{CounterSet}
use Rattle.requests.specs.declared.Device.{Device}
use Rattle.requests.specs.declared.Device.TheVariants.{G, S, C, B}
use Rattle.requests.specs.declared.Opening.{Opening}
use Rattle.requests.specs.declared.Setup.{Setup}
use Rattle.requests.specs.declared.Refusal.{Refusal}
use Rattle.requests.specs.declared.Refusal.TheVariants.{BadOpening, KindNotOnDevice, OutOfRange}
use Rattle.requests.specs.Answers.{Answer}

-- "Sets are numbers: counter k is 2^k": whether counter k is in the set
unfoldable pub has : CounterSet → ℕ → Bool
has s k = bit k s.0

-- how many counters below n the set has
unfoldable pub size : ℕ → CounterSet → ℕ
size zero s = 0
size (suc k) s = size k s + pick (has s k) 1 0

-- the number of counters that arrays have room for
unfoldable pub capacity : ℕ
capacity = 8

-- counters 0 to 3 on G, S and B, 0 to 5 on C (document 004, 2.3.2)
unfoldable pub counter_count : Device → ℕ
counter_count G = 4
counter_count S = 4
counter_count (C b) = 6
counter_count B = 4

-- the set of all counters of the device
unfoldable pub all_counters : Device → ℕ
all_counters d = 2 ^ counter_count d - 1

-- fixed counters, which always count one event: three on G, on B as on G
unfoldable pub fixed_count : Device → ℕ
fixed_count G = 3
fixed_count S = 0
fixed_count (C b) = 0
fixed_count B = 3

-- the enables of all fixed counters of the device
unfoldable pub all_fixed : Device → ℕ
all_fixed d = 2 ^ fixed_count d - 1

-- the code of the device's letter
unfoldable pub letter_of : Device → ℕ
letter_of G = 71
letter_of S = 83
letter_of (C b) = 67
letter_of B = 66

-- how many boxes the device has: the eight C-Boxes of document 004, 2.3.1, and elsewhere one, whose number is 0
unfoldable pub box_count : Device → ℕ
box_count G = 1
box_count S = 1
box_count (C b) = 8
box_count B = 1

-- the number of the box
unfoldable pub box_of : Device → ℕ
box_of G = 0
box_of S = 0
box_of (C b) = b
box_of B = 0

-- a device of each letter, where the box has the number
unfoldable pub devices : ℕ → List Device
devices box = G ∷ S ∷ C box ∷ B ∷ []

-- the first device of the list with the letter's code
unfoldable pub named : List Device → ℕ → Option Device
named [] letter = None
named (d ∷ ds) letter = elim (eqb letter (letter_of d)) [ true ↦ Some d | false ↦ named ds letter ]

-- the device of a letter's code and the number of a box
unfoldable pub device_of : ℕ → ℕ → Option Device
device_of letter box = named (devices box) letter

-- whether the device has packet requests: "S only"
unfoldable pub packets_on : Device → Bool
packets_on G = false
packets_on S = true
packets_on (C b) = false
packets_on B = false

-- whether the device has offcore and latency requests: "G only"
unfoldable pub offcore_on : Device → Bool
offcore_on G = true
offcore_on S = false
offcore_on (C b) = false
offcore_on B = false

-- whether an event is judged as a pair of code and mask, as on G and B: on S and C the code has to be listed, and then the mask be one of its own
unfoldable pub pairs_judged : Device → Bool
pairs_judged G = true
pairs_judged S = false
pairs_judged (C b) = false
pairs_judged B = true

-- whether a usable set is neither 0 nor above all counters
unfoldable pub usable_set : Device → CounterSet → Bool
usable_set d u = both (ltb 0 u.0) (leb u.0 (all_counters d))

-- whether the device has the counters, the fixed enables and the box that are given beside its letter
unfoldable pub opens : Device → Opening → Bool
opens d o = both (usable_set d o.usable) (both (leb o.fixed (all_fixed d)) (ltb o.cbox (box_count d)))

-- the rows of an opening, by what holds of its device: 3; 7, something asked that the device does not do; 10, an asking out of range
unfoldable pub rows_where : ((Device → Bool) → Bool) → Opening → List (Row Refusal)
rows_where holds o =
    (not (holds (λ d. opens d o)), BadOpening)
    ∷ (holds (λ d. overflow_not_on d o.overflow), KindNotOnDevice)
    ∷ (not (overflow_fits o.overflow), OutOfRange)
    ∷ []

-- what a device answers to an opening
unfoldable pub opening_rows : Device → Opening → List (Row Refusal)
opening_rows d o = rows_where (λ test. test d) o

-- whether there is a device of the letter and the test holds of it
unfoldable pub on_device : Opening → (Device → Bool) → Bool
on_device o test = elim (device_of o.device o.cbox) [ None ↦ false | Some d ↦ test d ]

-- the same of every opening: 3 also where no device has the letter
unfoldable pub opening_table : Opening → List (Row Refusal)
opening_table o = rows_where (on_device o) o

-- the device with what is given beside its letter
unfoldable pub setup_on : Device → Opening → Setup
setup_on d o = record { device = d; usable = o.usable; fixed = o.fixed; overflow = o.overflow }

-- what an opening of the device opens, by the refusal or none
unfoldable pub opened_on : Device → Opening → Option Refusal → Result Setup Refusal
opened_on d o None = Ok (setup_on d o)
opened_on d o (Some x) = Err x

-- what an opening opens, or why none
unfoldable pub opened_by : Opening → Result Setup Refusal
opened_by o =
    elim (device_of o.device o.cbox) [
      | None ↦ Err BadOpening
      | Some d ↦ opened_on d o (first_holding (opening_rows d o))
    ]

-- the setup, where one is opened
unfoldable pub opened_setup : Result Setup Refusal → Option Setup
opened_setup (Ok s) = Some s
opened_setup (Err x) = None

-- what open takes; none is one of the refusals 3, 7 and 10
unfoldable pub setup_of : Opening → Option Setup
setup_of o = opened_setup (opened_by o)

-- the opening that a setup is of: of an accepted open, what it was given, as it was given
unfoldable pub opening_of : Setup → Opening
opening_of s = record { device = letter_of s.device; usable = s.usable; fixed = s.fixed; cbox = box_of s.device; overflow = s.overflow }

-- how it is answered: `answerNumber` gives the number of each case
unfoldable pub opened_answer : Result Setup Refusal → Answer
opened_answer (Ok s) = Ok tt
opened_answer (Err x) = Err x
