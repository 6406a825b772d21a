-- Order 6, computed on the definitions: what both slices hold after turns at once. `Runs` has the bounds of its refusals 2, 10 and 14.
use Rattle.std.specs.Prelude.{◌≡◌, List, [], ◌∷◌, ◌++◌, map, ℕ, zero, suc, ◌*◌, replicate}
use Rattle.requests.specs.Askings.{unasked}
use Rattle.requests.specs.declared.CounterSet.{CounterSet}
use Rattle.requests.specs.declared.Request.TheVariants.{Event, Packet}
use Rattle.sessions.specs.Calls.{Call, Open, Add}
use Rattle.sessions.specs.Sessions.{new_session, session_after, turns_slice, turns_ends}
use Rattle.runs.specs.Runs.{up_to}

-- n turns at once after these calls, with slices of so many sevens, and what these are to hold afterwards
pub record Shift : Type 0 where
  pub calls : List Call
  pub n : ℕ
  pub room : ℕ
  pub places : ℕ
  pub list : List ℕ
  pub ends : List ℕ

unfoldable pub list_after : Shift → List ℕ
list_after x = turns_slice (session_after new_session x.calls) x.n (replicate x.room 7) x.places

unfoldable pub ends_after : Shift → List ℕ
ends_after x = turns_ends (session_after new_session x.calls) x.n x.room (replicate x.places 7)

-- slices that stay as they are
abbrev kept : List Call → ℕ → ℕ → ℕ → Shift
kept calls n room places = record { calls = calls; n = n; room = room; places = places; list = replicate room 7; ends = replicate places 7 }

-- a list so often
unfoldable pub times : ℕ → List ℕ → List ℕ
times zero l = []
times (suc n) l = l ++ times n l

abbrev set : ℕ → CounterSet
set n = record { 0 = n }

-- the letter of a device, with usable set 15
abbrev opening : ℕ → Call
opening letter = Open (record { device = letter; usable = set 15; fixed = 0; cbox = 0; overflow = unasked })

-- ---- two events on counter 0 of G: each turn takes one of them, and writes 10 times

abbrev two : List Call
two = opening 71 ∷ Add 1 (Event 0xC0 0x00 (set 1)) ∷ Add 2 (Event 0x3C 0x00 (set 1)) ∷ []

-- the list of a turn with this event word
abbrev event_list : ℕ → List ℕ
event_list word =
    (0x038F ∷ 0 ∷ 0x0186 ∷ 0 ∷ 0x0187 ∷ 0 ∷ 0x0188 ∷ 0 ∷ 0x0189 ∷ 0 ∷ [])
    ++ (0x01A6 ∷ 0 ∷ 0x01A7 ∷ 0 ∷ 0x00C1 ∷ 0 ∷ 0x0186 ∷ word ∷ 0x038F ∷ 1 ∷ [])

abbrev two_lists : List ℕ
two_lists = event_list 0x4300C0 ++ event_list 0x43003C

-- ---- a packet and an event on counter 0 of S: 12 writes and 9 by turns

abbrev uneven : List Call
uneven = opening 83 ∷ Add 1 (Packet 1 2 (set 1)) ∷ Add 2 (Event 0x52 0x00 (set 1)) ∷ []

abbrev cleared : List ℕ
cleared = 0x0C40 ∷ 0 ∷ 0x0C50 ∷ 0 ∷ 0x0C52 ∷ 0 ∷ 0x0C54 ∷ 0 ∷ 0x0C56 ∷ 0 ∷ 0x0E48 ∷ 0 ∷ []

abbrev with_packet : List ℕ
with_packet = cleared ++ 0x0E49 ∷ 1 ∷ 0x0E4A ∷ 2 ∷ 0x0E48 ∷ 0x8000000000000000 ∷ 0x0C51 ∷ 0 ∷ 0x0C50 ∷ 0x400000 ∷ 0x0C40 ∷ 1 ∷ []

abbrev with_event : List ℕ
with_event = cleared ++ 0x0C51 ∷ 0 ∷ 0x0C50 ∷ 0x400052 ∷ 0x0C40 ∷ 1 ∷ []

-- "what lies past the last list and end stays"; one number too few, and one end; 64 turns; lists of other lengths
unfoldable pub shifts : List Shift
shifts =
    record { calls = two; n = 2; room = 50; places = 4; list = two_lists ++ replicate 10 7; ends = 20 ∷ 40 ∷ 7 ∷ 7 ∷ [] }
    ∷ record { calls = two; n = 2; room = 40; places = 2; list = two_lists; ends = 20 ∷ 40 ∷ [] }
    ∷ kept two 2 39 2
    ∷ kept two 2 40 1
    ∷ kept two 0 3 1
    ∷ record { calls = two; n = 64; room = 1280; places = 64; list = times 32 two_lists; ends = map (λ (i : ℕ). 20 * i) (up_to 64) }
    ∷ kept two 64 1279 64
    ∷ record { calls = uneven; n = 3; room = 66; places = 3; list = with_packet ++ with_event ++ with_packet; ends = 24 ∷ 42 ∷ 66 ∷ [] }
    ∷ kept uneven 3 65 3
    ∷ []

-- both slices hold what the row says
pub record TurnsRuns : Type 0 where
  pub lists : map list_after shifts ≡ map (λ (x : Shift). x.list) shifts
  pub ends : map ends_after shifts ≡ map (λ (x : Shift). x.ends) shifts
