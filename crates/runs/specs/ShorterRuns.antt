-- Order 14, computed on the definitions: queues on which the shorter promise is tight, and such as it does not speak of.
use Rattle.std.specs.Prelude.{◌≡◌, List, [], ◌∷◌, ◌++◌, map, Bool, false, ℕ, suc, eqb, length, drop, replicate}
use Rattle.requests.specs.declared.Device.{Device}
use Rattle.requests.specs.declared.Device.TheVariants.{G, S, C, B}
use Rattle.requests.specs.declared.CounterSet.{CounterSet}
use Rattle.requests.specs.declared.Setup.{Setup}
use Rattle.requests.specs.declared.Request.{Request}
use Rattle.requests.specs.declared.Request.TheVariants.{Event, Packet, Offcore, Latency}
use Rattle.requests.specs.declared.Entry.{Entry}
use Rattle.requests.specs.Askings.{unasked}
use Rattle.requests.specs.Choice.{either, pick}
use Rattle.requests.specs.Devices.{opening_of}
use Rattle.plans.specs.Lists.{All}
use Rattle.sessions.specs.Calls.{Call, Open, Add, Drop, Turn, Turns, not_open_lem}
use Rattle.sessions.specs.Sessions.{queue_limit, new_session}
use Rattle.sessions.specs.Completed.{small_session, CompletedTurn, turns_of}
use Rattle.sessions.specs.ShorterPromise.{rounds, FreeAhead}
use Rattle.runs.specs.Runs.{up_to}
use Rattle.sessions.specs.declared.Assigned.{Assigned}

-- ---- a place in a list of calls

-- in a session of the setup these requests wait under the ids 1, 2, .., and mine under the next; the first `dropped` of them are dropped; then
-- come the calls of `after`, and mine is to be in the plan of this turn first
pub record Waits : Type 0 where
  pub setup : Setup
  pub ahead : List Request
  pub mine : Request
  pub dropped : ℕ
  pub after : List Call
  pub turn : ℕ

-- the requests under ids from n on
unfoldable pub entries_from : ℕ → List Request → List Entry
entries_from n [] = []
entries_from n (r ∷ rs) = record { id = n; request = r } ∷ entries_from (suc n) rs

-- all calls, from the open on
unfoldable pub calls_of : Waits → List Call
calls_of w =
    Open (opening_of w.setup)
    ∷ map (λ (e : Entry). Add e.id e.request) (entries_from 1 (w.ahead ++ w.mine ∷ []))
    ++ map (λ (id : ℕ). Drop id) (up_to w.dropped)
    ++ w.after

-- whether the plan gives the id a place
unfoldable pub gives : ℕ → List Assigned → Bool
gives id [] = false
gives id (a ∷ plan) = either (eqb id a.id) (gives id plan)

-- which of the turns, counted from n, has the id in its plan first; 0 where none has
unfoldable pub first_with : ℕ → ℕ → List CompletedTurn → ℕ
first_with id n [] = 0
first_with id n (t ∷ ts) = pick (gives id t.plan) n (first_with id (suc n) ts)

-- which completed turn has mine in its plan first
unfoldable pub turn_of_mine : Waits → ℕ
turn_of_mine w = first_with (suc (length w.ahead)) 1 (turns_of small_session queue_limit not_open_lem new_session (calls_of w))

-- those ahead of mine at the place of the claim
unfoldable pub ahead_of : Waits → List Entry
ahead_of w = drop w.dropped (entries_from 1 w.ahead)

-- by which turn the shorter promise would have mine: p÷u + 1
unfoldable pub shorter_bound : Waits → ℕ
shorter_bound w = suc (rounds w.setup (ahead_of w))

-- the promise speaks of it
abbrev pub Claimed : Waits → Type 0
Claimed w = FreeAhead w.setup (ahead_of w) (record { id = suc (length w.ahead); request = w.mine })

-- ---- the tables

abbrev set : ℕ → CounterSet
set n = record { 0 = n }

abbrev with : Device → ℕ → Setup
with d usable = record { device = d; usable = set usable; fixed = 0; overflow = unasked }

-- so many turns follow, with slices that are long enough
abbrev on : Device → ℕ → List Request → Request → ℕ → Waits
on d usable ahead mine turn = record { setup = with d usable; ahead = ahead; mine = mine; dropped = 0; after = replicate turn (Turn 44); turn = turn }

-- an instruction count with an allowed set, on G and B
abbrev instructions : ℕ → Request
instructions allowed = Event 0xC0 0x00 (set allowed)

-- mine comes in the last turn that is promised
unfoldable pub tight : List Waits
tight =
    on G 15 (replicate 3 (instructions 15)) (instructions 1) 1
    ∷ on G 15 (replicate 4 (instructions 15)) (instructions 1) 2
    ∷ on G 15 (replicate 8 (instructions 15)) (Offcore 0x10001 (set 15)) 3
    -- counters 0 and 2 are usable; an allowed set may have more than those
    ∷ on G 5 (replicate 4 (instructions 7)) (instructions 4) 3
    ∷ on G 1 (replicate 15 (instructions 15)) (instructions 15) 16
    -- counters 2 to 5 are usable
    ∷ on (C 4) 60 (replicate 8 (Event 0x19 0x00 (set 63))) (Event 0x23 0x00 (set 32)) 3
    ∷ on S 15 (replicate 4 (Event 0x52 0x00 (set 15))) (Packet 1 2 (set 15)) 2
    -- one of those ahead is dropped before the first turn
    ∷ record { setup = with G 15; ahead = replicate 4 (instructions 15); mine = instructions 1; dropped = 1; after = Turn 44 ∷ []; turn = 1 }
    -- others that want its counter are added behind it
    ∷ record { setup = with G 15; ahead = replicate 4 (instructions 15); mine = instructions 2; dropped = 0; after = Add 6 (instructions 2) ∷ Turn 44 ∷ Add 7 (instructions 2) ∷ Turn 44 ∷ []; turn = 2 }
    -- the turns are order 6's
    ∷ record { setup = with G 15; ahead = replicate 4 (instructions 15); mine = instructions 1; dropped = 0; after = Turns 2 88 2 ∷ []; turn = 2 }
    ∷ []

pub record Tight : Type 0 where
  pub claimed : All Claimed tight
  pub turns : map turn_of_mine tight ≡ map (λ (w : Waits). w.turn) tight
  pub bounds : map shorter_bound tight ≡ map (λ (w : Waits). w.turn) tight

-- nothing is claimed where mine needs two counters, where one ahead does not allow all usable ones, or on B, where mine or one ahead may want every
-- other counter quiet: mine comes later than p÷u + 1
unfoldable pub outside : List Waits
outside =
    on G 3 (instructions 15 ∷ []) (Latency 0x0001 (set 3) (set 3)) 2
    ∷ on G 15 (replicate 4 (instructions 1)) (instructions 1) 5
    ∷ on B 15 (replicate 3 (instructions 15)) (Event 0xC0 0x01 (set 15)) 2
    ∷ on B 15 (Event 0xC0 0x01 (set 15) ∷ []) (instructions 15) 2
    ∷ []

pub record Outside : Type 0 where
  pub unclaimed : All (λ (w : Waits). ¬ Claimed w) outside
  pub turns : map turn_of_mine outside ≡ map (λ (w : Waits). w.turn) outside
  pub bounds : map shorter_bound outside ≡ 1 ∷ 2 ∷ 1 ∷ 1 ∷ []
