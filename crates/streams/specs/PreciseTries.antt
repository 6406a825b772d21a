-- Tries of order 12, the precise events of B: whole inputs and outputs, as in `Tries`, in one statement ranging over a table.
use Rattle.std.specs.Prelude.{◌≡◌, List, [], ◌∷◌, map}
use Rattle.streams.specs.Tries.{Try, outcome, expected}

-- the table
abbrev pub precise_tries : List Try
precise_tries =
    -- Both rules: a store event beside another, on counter 3; the lone event by itself, on counter 1; each with its enable bits in 03F1 just before
    -- the last write, and 0 there where neither is taken. What is refused on B.
    record {
      input =
          "open B 15 0 1 -" ∷
          "open B 15 0 0 0" ∷
          "open B 16 0 1 -" ∷
          "open B 15 8 0 -" ∷
          "open B 15 0 7 0 -" ∷
          "open B 15 0 0 -" ∷
          "event 1 C0 00 15" ∷
          "event 2 C0 01 15" ∷
          "event 3 CD 02 8" ∷
          "turn" ∷
          "turn" ∷
          "drop 2" ∷
          "drop 3" ∷
          "turn" ∷
          "event 4 C0 01 13" ∷
          "event 4 CD 02 7" ∷
          "event 4 C0 01 16" ∷
          "event 4 CD 01 15" ∷
          "event 4 C0 02 15" ∷
          "offcore 4 0000000000010001 15" ∷
          "latency 4 0001 15 15" ∷
          "packet 4 0000000000000000 0000000000000000 15" ∷ [];
      output =
          "no 7 0" ∷
          "no 7 0" ∷
          "no 3 2" ∷
          "no 3 3" ∷
          "no 1 6" ∷
          "ok" ∷
          "ok" ∷
          "ok" ∷
          "ok" ∷
          "take 1 0 -" ∷
          "take 3 3 -" ∷
          "set 038F 0000000000000000" ∷
          "set 0186 0000000000000000" ∷
          "set 0187 0000000000000000" ∷
          "set 0188 0000000000000000" ∷
          "set 0189 0000000000000000" ∷
          "set 00C1 0000000000000000" ∷
          "set 00C4 0000000000000000" ∷
          "set 0186 00000000004300C0" ∷
          "set 0189 00000000004302CD" ∷
          "set 03F1 8000000000000008" ∷
          "set 038F 0000000000000009" ∷
          "ok" ∷
          "take 2 1 -" ∷
          "set 038F 0000000000000000" ∷
          "set 0186 0000000000000000" ∷
          "set 0187 0000000000000000" ∷
          "set 0188 0000000000000000" ∷
          "set 0189 0000000000000000" ∷
          "set 00C2 0000000000000000" ∷
          "set 0187 00000000004301C0" ∷
          "set 03F1 0000000000000002" ∷
          "set 038F 0000000000000002" ∷
          "ok" ∷
          "ok" ∷
          "ok" ∷
          "take 1 0 -" ∷
          "set 038F 0000000000000000" ∷
          "set 0186 0000000000000000" ∷
          "set 0187 0000000000000000" ∷
          "set 0188 0000000000000000" ∷
          "set 0189 0000000000000000" ∷
          "set 00C1 0000000000000000" ∷
          "set 0186 00000000004300C0" ∷
          "set 03F1 0000000000000000" ∷
          "set 038F 0000000000000001" ∷
          "ok" ∷
          "no 12 0" ∷
          "no 12 0" ∷
          "no 10 4" ∷
          "no 8 2" ∷
          "no 8 2" ∷
          "no 7 0" ∷
          "no 7 0" ∷
          "no 7 0" ∷ [];
      waiting = 1 ∷ [];
    } ∷
    -- Without counter 0 a store event goes through, the lone one does not; fixed enables as on G.
    record {
      input = "open B 14 5 0 -" ∷ "event 1 CD 02 15" ∷ "event 2 C0 01 15" ∷ "turn" ∷ [];
      output =
          "ok" ∷
          "ok" ∷
          "no 12 0" ∷
          "take 1 3 -" ∷
          "set 038F 0000000500000001" ∷
          "set 0187 0000000000000000" ∷
          "set 0188 0000000000000000" ∷
          "set 0189 0000000000000000" ∷
          "set 00C4 0000000000000000" ∷
          "set 0189 00000000004302CD" ∷
          "set 03F1 8000000000000008" ∷
          "set 038F 0000000500000009" ∷
          "ok" ∷ [];
      waiting = 1 ∷ [];
    } ∷
    -- Without counter 3 neither has a plan; and an empty queue.
    record {
      input = "open B 7 0 0 -" ∷ "event 1 C0 01 15" ∷ "event 1 CD 02 15" ∷ "turn" ∷ [];
      output =
          "ok" ∷
          "no 12 0" ∷
          "no 12 0" ∷
          "set 038F 0000000000000008" ∷
          "set 0186 0000000000000000" ∷
          "set 0187 0000000000000000" ∷
          "set 0188 0000000000000000" ∷
          "set 03F1 0000000000000000" ∷
          "set 038F 0000000000000008" ∷
          "ok" ∷ [];
      waiting = [];
    } ∷
    -- G lists neither.
    record {
      input = "open G 15 0 0 -" ∷ "event 1 C0 01 15" ∷ "event 1 CD 02 15" ∷ [];
      output = "ok" ∷ "no 8 2" ∷ "no 8 2" ∷ [];
      waiting = [];
    } ∷ []

-- each input gives the output and leaves the ids waiting
abbrev pub PreciseTries : Type 0
PreciseTries = map outcome precise_tries ≡ map expected precise_tries
