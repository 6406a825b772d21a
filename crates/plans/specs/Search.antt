-- The first plan, found by placing requests one after another and going on with the rest.
use Rattle.std.specs.Prelude.{List, [], ◌∷◌, map, Bool, true, ℕ, zero, suc, ◌*◌, ◌-◌, ◌/◌, ◌%◌, ◌^◌, eqb, Option, None, Some}
use Rattle.requests.specs.declared.CounterSet.{CounterSet}
use Rattle.requests.specs.declared.Setup.{Setup}
use Rattle.requests.specs.declared.Request.{Request}
use Rattle.requests.specs.declared.Request.TheVariants.{Event, Packet, Offcore, Latency}
use Rattle.requests.specs.Choice.{both, pick, is_some}
use Rattle.requests.specs.Bits.{latency_word}
use Rattle.requests.specs.Devices.{has, counter_count}
use Rattle.plans.specs.Narrowed.{narrowed, quiet_kept}
use Rattle.plans.specs.declared.Place.{Place}
use Rattle.plans.specs.declared.Place.TheVariants.{Counter, WithRsp, Pair}
use Rattle.plans.specs.declared.Room.{Room}

-- ---- what is left

-- the room before the first request
abbrev pub empty_room : Setup → Room
empty_room s = record { free = s.usable; rsp0 = None; rsp1 = None; packet = None }

-- whether a register can hold the word: it is unused, or holds the same
abbrev pub holds : Option ℕ → ℕ → Bool
holds None w = true
holds (Some v) w = eqb v w

-- the same of the match/mask register
abbrev pub holds_packet : Option (ℕ × ℕ) → ℕ → ℕ → Bool
holds_packet None x y = true
holds_packet (Some (v, w)) x y = both (eqb v x) (eqb w y)

-- counter k, where it is allowed and free
unfoldable pub take_counter : CounterSet → ℕ → Room → Option Room
take_counter a k m =
    pick (both (has a k) (has m.free k))
    (Some (record { free = record { 0 = m.free.0 - 2 ^ k }; rsp0 = m.rsp0; rsp1 = m.rsp1; packet = m.packet }))
    None

-- RSP register i (0, or else 1) with the word w
unfoldable pub take_word : ℕ → ℕ → Room → Option Room
take_word i w m =
    pick (eqb i 0)
    (pick (holds m.rsp0 w) (Some (record { free = m.free; rsp0 = Some w; rsp1 = m.rsp1; packet = m.packet })) None)
    (pick (holds m.rsp1 w) (Some (record { free = m.free; rsp0 = m.rsp0; rsp1 = Some w; packet = m.packet })) None)

-- the match/mask register with the words x and y
unfoldable pub take_packet : ℕ → ℕ → Room → Option Room
take_packet x y m =
    pick (holds_packet m.packet x y)
    (Some (record { free = m.free; rsp0 = m.rsp0; rsp1 = m.rsp1; packet = Some (x, y) }))
    None

-- one step after another
abbrev pub and_then : Option Room → (Room → Option Room) → Option Room
and_then (Some m) f = f m
and_then None f = None

-- ---- one request

-- its place at counter k with register or second counter j
unfoldable pub place_of : Request → ℕ → ℕ → Place
place_of (Event c m a) k j = Counter k
place_of (Packet x y a) k j = Counter k
place_of (Offcore w a) k j = WithRsp k j
place_of (Latency t a b) k j = Pair k j

-- the room that is left when it is placed there
unfoldable pub admit : Request → ℕ → ℕ → Room → Option Room
admit (Event c m a) k j room = take_counter a k room
admit (Packet x y a) k j room = and_then (take_packet x y room) (take_counter a k)
admit (Offcore w a) k j room = and_then (take_word j w room) (take_counter a k)
admit (Latency t a b) k j room =
    and_then (and_then (and_then (take_word 0 (latency_word 0 t) room) (take_word 1 (latency_word 1 t))) (take_counter a k))
    (take_counter b j)

-- how many values j has, where there are n counters
unfoldable pub width : ℕ → Request → ℕ
width n (Event c m a) = 1
width n (Packet x y a) = 1
width n (Offcore w a) = 2
width n (Latency t a b) = n

-- ---- all requests

-- the first result among f p, f (p + 1), .. of as many as are left
unfoldable pub first_from : {B : Type 0} → (ℕ → Option B) → ℕ → ℕ → Option B
first_from f p zero = None
first_from f p (suc left) = elim (f p) [ None ↦ first_from f (suc p) left | Some b ↦ Some b ]

-- a place before those of the rest
unfoldable pub put_first : Place → Option (List Place) → Option (List Place)
put_first p None = None
put_first p (Some ps) = Some (p ∷ ps)

-- the rest is planned in the room that is left
unfoldable pub then_rest : (Room → Option (List Place)) → Place → Option Room → Option (List Place)
then_rest rest p (Some m) = put_first p (rest m)
then_rest rest p None = None

-- the request is given its place number p: places are numbered in the order of document 01, j rising faster than k
unfoldable pub try_number : (Room → Option (List Place)) → ℕ → Request → Room → ℕ → Option (List Place)
try_number rest n r m p = then_rest rest (place_of r (p / width n r) (p % width n r)) (admit r (p / width n r) (p % width n r) m)

-- the first plan of the requests on n counters, in the room
unfoldable pub plan_in : ℕ → List Request → Room → Option (List Place)
plan_in n [] m = Some []
plan_in n (r ∷ rs) m = first_from (try_number (plan_in n rs) n r m) 0 (n * width n r)

-- the first plan of the requests, as the rules of the device's events leave them
unfoldable pub first_plan : Setup → List Request → Option (List Place)
first_plan s rs = pick (quiet_kept s rs) (plan_in (counter_count s.device) (map (narrowed s.device) rs) (empty_room s)) None

-- whether the requests have a plan
unfoldable pub has_plan_lem : Setup → List Request → Bool
has_plan_lem s rs = is_some (first_plan s rs)
