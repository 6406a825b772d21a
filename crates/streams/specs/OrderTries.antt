-- Tries of the orders: whole inputs and outputs, as in `Tries`, in one statement ranging over a table.
use Rattle.std.specs.Prelude.{◌≡◌, List, [], ◌∷◌, map}
use Rattle.streams.specs.Tries.{Try, outcome, expected}

-- the table
abbrev pub order_tries : List Try
order_tries =
    -- Order 2. "0 to 7, for those three bits (0 on S; anything else is refused with 3)", in a fourth field; every write to 038F carries it.
    record {
      input =
          "open G 15 0 -" ∷
          "open G 15 08 0 -" ∷
          "open G 15 8 0 -" ∷
          "open G 15 256 0 -" ∷
          "open G 271 0 0 -" ∷
          "open G 0 9 0 -" ∷
          "open S 15 1 0 -" ∷
          "open G 14 5 0 -" ∷
          "event 1 C0 00 15" ∷
          "turn" ∷ [];
      output =
          "no 1 4" ∷
          "no 1 3" ∷
          "no 3 3" ∷
          "no 3 3" ∷
          "no 3 2" ∷
          "no 3 2" ∷
          "no 3 3" ∷
          "ok" ∷
          "ok" ∷
          "take 1 1 -" ∷
          "set 038F 0000000500000001" ∷
          "set 0187 0000000000000000" ∷
          "set 0188 0000000000000000" ∷
          "set 0189 0000000000000000" ∷
          "set 01A6 0000000000000000" ∷
          "set 01A7 0000000000000000" ∷
          "set 00C2 0000000000000000" ∷
          "set 0187 00000000004300C0" ∷
          "set 038F 0000000500000003" ∷
          "ok" ∷ [];
      waiting = 1 ∷ [];
    } ∷
    -- Order 3. Box 7: two counters of six, at the addresses of that box.
    record {
      input = "open C 63 0 7 0 -" ∷ "event 1 19 00 63" ∷ "event 2 0B 18 1" ∷ "turn" ∷ [];
      output =
          "ok" ∷
          "ok" ∷
          "ok" ∷
          "take 1 1 -" ∷
          "take 2 0 -" ∷
          "set 0DE0 0000000000000000" ∷
          "set 0DF0 0000000000000000" ∷
          "set 0DF2 0000000000000000" ∷
          "set 0DF4 0000000000000000" ∷
          "set 0DF6 0000000000000000" ∷
          "set 0DF8 0000000000000000" ∷
          "set 0DFA 0000000000000000" ∷
          "set 0DF1 0000000000000000" ∷
          "set 0DF3 0000000000000000" ∷
          "set 0DF0 000000000040180B" ∷
          "set 0DF2 0000000000400019" ∷
          "set 0DE0 0000000000000003" ∷
          "ok" ∷ [];
      waiting = 1 ∷ 2 ∷ [];
    } ∷
    -- Order 3. Box 1, counters 4 and 5 usable: the enable bits of the other four stay.
    record {
      input = "open C 48 0 1 0 -" ∷ "event 1 1F 00 63" ∷ "turn" ∷ [];
      output =
          "ok" ∷
          "ok" ∷
          "take 1 4 -" ∷
          "set 0D80 000000000000000F" ∷
          "set 0D98 0000000000000000" ∷
          "set 0D9A 0000000000000000" ∷
          "set 0D99 0000000000000000" ∷
          "set 0D98 000000000040001F" ∷
          "set 0D80 000000000000001F" ∷
          "ok" ∷ [];
      waiting = 1 ∷ [];
    } ∷
    -- Order 3. What is refused on C: lines of a field too few or too many, openings, masks, codes, sets and kinds.
    record {
      input =
          "open C 63 0 0 -" ∷
          "open S 15 0 0 0 -" ∷
          "open C 63 0 8 0 -" ∷
          "open C 64 0 0 0 -" ∷
          "open C 63 1 0 0 -" ∷
          "open C 0 0 0 0 -" ∷
          "open C 63 0 0 0 -" ∷
          "event 1 19 00 63" ∷
          "event 2 19 01 63" ∷
          "event 2 0B 00 63" ∷
          "event 2 0B 05 63" ∷
          "event 2 0B 00 64" ∷
          "event 3 0D 00 63" ∷
          "event 3 23 00 0" ∷
          "packet 3 0000000000000000 0000000000000000 63" ∷ [];
      output =
          "no 1 5" ∷
          "no 1 6" ∷
          "no 3 4" ∷
          "no 3 2" ∷
          "no 3 3" ∷
          "no 3 2" ∷
          "ok" ∷
          "ok" ∷
          "no 10 3" ∷
          "no 9 3" ∷
          "no 10 3" ∷
          "no 10 4" ∷
          "no 8 2" ∷
          "no 12 0" ∷
          "no 7 0" ∷ [];
      waiting = 1 ∷ [];
    } ∷
    -- Order 7. Freeze and core, and the base's list where neither is asked: 1, then 3, then 7 on G and 10 on S and C.
    record {
      input =
          "open S 15 0" ∷
          "open S 15 0 1" ∷
          "open S 15 0 - 0" ∷
          "open S 15 0 0 01" ∷
          "open S 0 0 2 8" ∷
          "open G 16 0 1 -" ∷
          "open G 15 0 1 -" ∷
          "open G 15 0 2 -" ∷
          "open G 15 0 0 0" ∷
          "open G 15 0 0 9" ∷
          "open S 15 0 2 -" ∷
          "open S 15 0 0 8" ∷
          "open C 63 0 7 1 8" ∷
          "open S 15 0 0 -" ∷
          "open S 15 0 2 -" ∷
          "turn" ∷ [];
      output =
          "no 1 4" ∷
          "no 1 5" ∷
          "no 1 4" ∷
          "no 1 5" ∷
          "no 3 2" ∷
          "no 3 2" ∷
          "no 7 0" ∷
          "no 7 0" ∷
          "no 7 0" ∷
          "no 7 0" ∷
          "no 10 4" ∷
          "no 10 5" ∷
          "no 10 6" ∷
          "ok" ∷
          "no 2 0" ∷
          "set 0C40 0000000000000000" ∷
          "set 0C50 0000000000000000" ∷
          "set 0C52 0000000000000000" ∷
          "set 0C54 0000000000000000" ∷
          "set 0C56 0000000000000000" ∷
          "set 0E48 0000000000000000" ∷
          "set 0C40 0000000000000000" ∷
          "ok" ∷ [];
      waiting = [];
    } ∷
    -- Order 7. Freeze and core 2: the U-Box is written first and last, and pmi_en with the event.
    record {
      input = "open S 15 0 1 2" ∷ "event 1 52 00 15" ∷ "turn" ∷ [];
      output =
          "ok" ∷
          "ok" ∷
          "take 1 0 -" ∷
          "set 0C00 0000000000000000" ∷
          "set 0C40 0000000000000000" ∷
          "set 0C50 0000000000000000" ∷
          "set 0C52 0000000000000000" ∷
          "set 0C54 0000000000000000" ∷
          "set 0C56 0000000000000000" ∷
          "set 0E48 0000000000000000" ∷
          "set 0C51 0000000000000000" ∷
          "set 0C50 0000000000500052" ∷
          "set 0C40 0000000000000001" ∷
          "set 0C00 0000000090000008" ∷
          "ok" ∷ [];
      waiting = 1 ∷ [];
    } ∷
    -- Order 7. Core 7 of a session on C, and no request.
    record {
      input = "open C 1 0 0 0 7" ∷ "turn" ∷ [];
      output =
          "ok" ∷
          "set 0C00 0000000000000000" ∷
          "set 0D00 000000000000003E" ∷
          "set 0D10 0000000000000000" ∷
          "set 0D00 000000000000003E" ∷
          "set 0C00 0000000010000100" ∷
          "ok" ∷ [];
      waiting = [];
    } ∷
    -- Order 11. The field at fault behind the number, "counted from 0 at the verb".
    record {
      input =
          "evnt 1" ∷
          "" ∷
          "event 1 C0" ∷
          "event 01 C0 00 1" ∷
          "event 1 c0 00 1 9" ∷
          "turn 5" ∷
          "drop 5 6" ∷
          "drop" ∷
          "open G 15 0 0" ∷
          "open X 15 0 0 -" ∷
          "turn" ∷
          "open G 16 8 0 -" ∷
          "open G 15 8 0 -" ∷
          "open C 63 0 8 0 -" ∷
          "open C 63 0 7 2 9" ∷
          "open C 63 0 7 1 9" ∷
          "open S 15 0 0 9" ∷
          "open G 15 0 1 -" ∷
          "open G 15 0 0 -" ∷
          "event 0 C0 00 1" ∷
          "event 2 C0 05 15" ∷
          "event 2 C0 00 16" ∷
          "offcore 2 0000000000010040 16" ∷
          "offcore 2 0000000000000001 15" ∷
          "offcore 2 0000000200010001 15" ∷
          "latency 2 0040 16 16" ∷
          "latency 2 0001 15 16" ∷
          "latency 2 0000 15 15" ∷
          "latency 2 0001 4 4" ∷
          "drop 9" ∷ [];
      output =
          "no 1 0" ∷
          "no 1 0" ∷
          "no 1 3" ∷
          "no 1 1" ∷
          "no 1 2" ∷
          "no 1 1" ∷
          "no 1 2" ∷
          "no 1 1" ∷
          "no 1 5" ∷
          "no 1 1" ∷
          "no 2 0" ∷
          "no 3 2" ∷
          "no 3 3" ∷
          "no 3 4" ∷
          "no 10 5" ∷
          "no 10 6" ∷
          "no 10 5" ∷
          "no 7 0" ∷
          "ok" ∷
          "no 4 1" ∷
          "no 8 2" ∷
          "no 10 4" ∷
          "no 10 2" ∷
          "no 9 2" ∷
          "no 11 2" ∷
          "no 10 2" ∷
          "no 10 4" ∷
          "no 9 2" ∷
          "no 12 0" ∷
          "no 6 1" ∷ [];
      waiting = [];
    } ∷
    -- Order 11. "The leftmost" of two fields under 10, on S.
    record {
      input =
          "open S 15 0 0 -" ∷
          "event 2 51 04 16" ∷
          "event 2 51 00 15" ∷ [];
      output =
          "ok" ∷
          "no 10 3" ∷
          "no 9 3" ∷ [];
      waiting = [];
    } ∷ []

-- each input gives the output and leaves the ids waiting
abbrev pub OrderTries : Type 0
OrderTries = map outcome order_tries ≡ map expected order_tries
