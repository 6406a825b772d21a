-- "open: device, usable set 1..15" ("to the device's counter count"), "a third number, 0 to 7, for those three bits (0 on S)" and the box of C; 3
-- everywhere else: "device unknown, or usable set 0 or above" the bound, a fixed enable on S or C, and a box "that document 004 does not have".
-- Order 7: "freeze 0 or 1 (else 10) and core or `-` for none", "A core number that does not fit the field is refused with 10, and asking on G
-- (anything but 0 and `-`) with 7".
use Rattle.std.specs.Prelude.{◌≡◌, true, false, ◌⊎◌, ℕ, ◌≤◌, Option, None, Some}
use Rattle.requests.specs.Refusals.{answer_number}
use Rattle.requests.specs.Askings.{asked}
use Rattle.requests.specs.Devices.{all_counters, letter_of, box_of, setup_of, opening_of, opened_by, opened_answer}
use Rattle.requests.specs.declared.Device.{Device}
use Rattle.requests.specs.declared.Device.TheVariants.{G, S, C, B}
use Rattle.requests.specs.declared.Overflow.{Overflow}
use Rattle.requests.specs.declared.Opening.{Opening}
use Rattle.requests.specs.declared.Setup.{Setup}

-- the codes of the letters G, S, C and B
abbrev pub letter_code : Device → ℕ
letter_code G = 71
letter_code S = 83
letter_code (C b) = 67
letter_code B = 66

-- the largest usable set: "3 and 10 use that bound"
abbrev pub most_usable : Device → ℕ
most_usable G = 15
most_usable S = 15
most_usable (C b) = 63
most_usable B = 15

-- the largest number of fixed enables: bits 32 to 34 on G and B (order 12: "fixed enables as on G"), none elsewhere
abbrev pub most_fixed : Device → ℕ
most_fixed G = 7
most_fixed S = 0
most_fixed (C b) = 0
most_fixed B = 7

-- the largest number of a box: document 004 has the C-Boxes 0 to 7
abbrev pub most_box : Device → ℕ
most_box G = 0
most_box S = 0
most_box (C b) = 7
most_box B = 0

-- "A session on S or C may ask"; B is "without .. order 7's askings"
abbrev pub MayAsk : Device → Type 0
MayAsk G = ⊥
MayAsk S = Unit {0}
MayAsk (C b) = Unit {0}
MayAsk B = ⊥

-- "0 and `-`"
abbrev pub NothingAsked : Overflow → Type 0
NothingAsked a = (a.freeze ≡ 0) × (a.core ≡ None)

-- a core that is given is one of the eight of pmi_core_sel
abbrev pub CoreInField : Option ℕ → Type 0
CoreInField None = Unit {0}
CoreInField (Some c) = c ≤ 7

-- "freeze 0 or 1", and the core fits the field
abbrev pub InRange : Overflow → Type 0
InRange a = (a.freeze ≤ 1) × CoreInField a.core

-- the letter is that of a device that may not be asked
abbrev pub NotAsked : Opening → Type 0
NotAsked o = (d : Device) × (o.device ≡ letter_of d) × (¬ MayAsk d)

-- the opening has the letter of the device, a usable set neither 0 nor above all counters, fixed enables and a box that the device has
pub record GivenFor (o : Opening) (d : Device) : Type 0 where
  pub letter : o.device ≡ letter_of d
  pub at_least : 1 ≤ o.usable.0
  pub at_most : o.usable.0 ≤ all_counters d
  pub fixed_at_most : o.fixed ≤ most_fixed d
  pub box : o.cbox ≡ box_of d
  pub box_at_most : o.cbox ≤ most_box d

-- the opening opens a session with the setup: it is for its device, has its numbers, and asks nothing, or what the device may be asked
pub record Opens (o : Opening) (s : Setup) : Type 0 where
  pub given : GivenFor o s.device
  pub usable : o.usable ≡ s.usable
  pub fixed : o.fixed ≡ s.fixed
  pub overflow : o.overflow ≡ s.overflow
  pub askings : NothingAsked o.overflow ⊎ (MayAsk s.device × InRange o.overflow)

-- the number of what `setup_of` answers: none where it opens a session
abbrev pub opening_number : Opening → Option ℕ
opening_number o = answer_number (opened_answer (opened_by o))

pub record Openings : Type 0 where
  pub taken : (o : Opening) (s : Setup) → Opens o s → setup_of o ≡ Some s
  pub only : (o : Opening) (s : Setup) → setup_of o ≡ Some s → Opens o s
  pub refused : (o : Opening) → ((s : Setup) → ¬ Opens o s) → setup_of o ≡ None
  -- the answer in each case, 3 before 7 before 10
  pub accepted : (o : Opening) (s : Setup) → Opens o s → opening_number o ≡ None
  pub three : (o : Opening) → ((d : Device) → ¬ GivenFor o d) → opening_number o ≡ Some 3
  pub seven : (o : Opening) (d : Device) → GivenFor o d → ¬ MayAsk d → ¬ NothingAsked o.overflow → opening_number o ≡ Some 7
  pub ten : (o : Opening) (d : Device) → GivenFor o d → MayAsk d → ¬ InRange o.overflow → opening_number o ≡ Some 10
  -- whether the session asks something
  pub nothing : (o : Opening) (s : Setup) → setup_of o ≡ Some s → NothingAsked o.overflow → asked s ≡ false
  pub something : (o : Opening) (s : Setup) → setup_of o ≡ Some s → ¬ NothingAsked o.overflow → asked s ≡ true
  -- what open is given for a setup, also for one that it refuses: the numbers of a line reach the call as they stand there
  pub given : (s : Setup)
      → ((opening_of s).device ≡ letter_of s.device) × ((opening_of s).usable ≡ s.usable) × ((opening_of s).fixed ≡ s.fixed) × ((opening_of s).cbox ≡ box_of s.device) × ((opening_of s).overflow ≡ s.overflow)
  -- the letters of the `open` line, over the calls their codes
  pub letters : (d : Device) → letter_of d ≡ letter_code d
  -- the bound of a usable set, and of an allowed one
  pub bounds : (d : Device) → all_counters d ≡ most_usable d
