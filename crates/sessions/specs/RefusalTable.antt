-- The refusal table in document 01's words, and what it settles: a call is refused by the first row that applies, and accepted where none does.
use Rattle.std.specs.Prelude.{◌≡◌, ℕ, zero, suc, ◌*◌, ◌≤◌, ◌<◌, length, None, Some}
use mathlib.Core.List.{List, [], ◌∷◌, map, Memᴰ}
use Rattle.requests.specs.declared.Device.{Device}
use Rattle.requests.specs.declared.Opening.{Opening}
use Rattle.requests.specs.declared.Setup.{Setup}
use Rattle.requests.specs.declared.Request.{Request}
use Rattle.requests.specs.declared.Entry.{Entry}
use Rattle.requests.specs.declared.Refusal.{Refusal}
use Rattle.requests.specs.Refusals.{number_of, checked_before}
use Rattle.requests.specs.Openings.{NothingAsked, InRange, NotAsked, GivenFor}
use Rattle.requests.specs.RefusedRequests.{KindNotOn, NotListed, Incomplete, OutOfRange, Conflicting}
use Rattle.plans.specs.declared.Place.{Place}
use Rattle.plans.specs.Lists.{All}
use Rattle.plans.specs.Legal.{HasPlan}
use Rattle.plans.specs.Order.{First}
use Rattle.layouts.specs.Writes.{Write, writes}
use Rattle.sessions.specs.Turns.{requests_of, taken, turned, joined}
use Rattle.sessions.specs.Calls.{Call, Open, Add, Drop, Turn, Turns, Plain, not_open_lem, opened}
use Rattle.sessions.specs.Table.{refusal}
use Rattle.sessions.specs.Sessions.{queue_limit}

-- "an id 1..65535"
abbrev pub IsId : ℕ → Type 0
IsId id = (1 ≤ id) × (id ≤ 65535)

-- the id is waiting
abbrev pub Waits : ℕ → List Entry → Type 0
Waits id q = Memᴰ id (map (λ (e : Entry). e.id) q)

-- the write lists of n turns, each that of the first legal plan of those taken
pub data Lists (s : Setup) : ℕ → List Entry → List (List Write) → Type 0 where
  no_turn : {q : List Entry} → Lists s zero q []
  a_turn : {n : ℕ} {q : List Entry} {ps : List Place} {lists : List (List Write)} → First s (requests_of (taken s q)) ps → Lists s n (turned s q) lists
      → Lists s (suc n) q (writes s (requests_of (taken s q)) ps ∷ lists)

-- the row of this number applies to the call in the state, where the queue holds at most `limit` requests
pub data Applies (limit : ℕ) : Plain → Call → ℕ → Type 0 where
  -- 2: a call before open, or a second open
  add_before : {id : ℕ} {r : Request} → Applies limit not_open_lem (Add id r) 2
  drop_before : {id : ℕ} → Applies limit not_open_lem (Drop id) 2
  turn_before : {room : ℕ} → Applies limit not_open_lem (Turn room) 2
  turns_before : {n room places : ℕ} → Applies limit not_open_lem (Turns n room places) 2
  second_open : {s : Setup} {q : List Entry} {o : Opening} → Applies limit (opened s q) (Open o) 2
  -- 3: device unknown, usable set 0 or above all counters, fixed enables or a box that the device has not
  no_device : {o : Opening} → ((d : Device) → ¬ GivenFor o d) → Applies limit not_open_lem (Open o) 3
  -- 4: id 0 or above 65535
  add_id : {s : Setup} {q : List Entry} {id : ℕ} {r : Request} → ¬ IsId id → Applies limit (opened s q) (Add id r) 4
  drop_id : {s : Setup} {q : List Entry} {id : ℕ} → ¬ IsId id → Applies limit (opened s q) (Drop id) 4
  -- 5: add: id is waiting; 6: drop: id isn't waiting
  id_waits : {s : Setup} {q : List Entry} {id : ℕ} {r : Request} → Waits id q → Applies limit (opened s q) (Add id r) 5
  id_not_waits : {s : Setup} {q : List Entry} {id : ℕ} → ¬ Waits id q → Applies limit (opened s q) (Drop id) 6
  -- 7 to 11: the rows of the request, phrase by phrase in `RefusedRequests`
  -- and of open, order 7: "asking on G (anything but 0 and `-`) with 7", "freeze 0 or 1 (else 10)", "A core number that does not fit the field"
  asked_elsewhere : {o : Opening} → NotAsked o → ¬ NothingAsked o.overflow → Applies limit not_open_lem (Open o) 7
  asked_outside : {o : Opening} → ¬ InRange o.overflow → Applies limit not_open_lem (Open o) 10
  kind : {s : Setup} {q : List Entry} {id : ℕ} {r : Request} → KindNotOn s.device r → Applies limit (opened s q) (Add id r) 7
  not_listed : {s : Setup} {q : List Entry} {id : ℕ} {r : Request} → NotListed s.device r → Applies limit (opened s q) (Add id r) 8
  lacks : {s : Setup} {q : List Entry} {id : ℕ} {r : Request} → Incomplete s.device r → Applies limit (opened s q) (Add id r) 9
  range : {s : Setup} {q : List Entry} {id : ℕ} {r : Request} → OutOfRange s.device r → Applies limit (opened s q) (Add id r) 10
  -- order 6: "n is 0 to 64, above that 10"
  many : {s : Setup} {q : List Entry} {n room places : ℕ} → 64 < n → Applies limit (opened s q) (Turns n room places) 10
  conflict : {s : Setup} {q : List Entry} {id : ℕ} {r : Request} → Conflicting s.device r → Applies limit (opened s q) (Add id r) 11
  -- 12: the request has no plan alone
  alone : {s : Setup} {q : List Entry} {id : ℕ} {r : Request} → ¬ HasPlan s (r ∷ []) → Applies limit (opened s q) (Add id r) 12
  -- 13: queue full
  full : {s : Setup} {q : List Entry} {id : ℕ} {r : Request} → limit ≤ length q → Applies limit (opened s q) (Add id r) 13
  -- 14: slice shorter than twice the writes of the first legal plan of those taken
  short : {s : Setup} {q : List Entry} {room : ℕ} {ps : List Place} → First s (requests_of (taken s q)) ps
      → room < 2 * length (writes s (requests_of (taken s q)) ps) → Applies limit (opened s q) (Turn room) 14
  -- order 6: "If either slice is too short for all n"
  lists_short : {s : Setup} {q : List Entry} {n room places : ℕ} {lists : List (List Write)} → Lists s n q lists
      → room < 2 * length (joined lists) → Applies limit (opened s q) (Turns n room places) 14
  ends_short : {s : Setup} {q : List Entry} {n room places : ℕ} → places < n → Applies limit (opened s q) (Turns n room places) 14

pub record RefusalTable : Type 0 where
  -- the row by which a call is refused applies, and none that is checked before it
  pub refused : (limit : ℕ) (p : Plain) (c : Call) (x : Refusal) → refusal limit p c ≡ Some x
      → Applies limit p c (number_of x) × All (λ (n : ℕ). ¬ Applies limit p c n) (checked_before (number_of x))
  -- no row applies to an accepted call
  pub accepted : (limit : ℕ) (p : Plain) (c : Call) → refusal limit p c ≡ None → (n : ℕ) → ¬ Applies limit p c n
  -- "The queue holds at most 16 requests"
  pub sixteen : queue_limit ≡ 16
