-- Document 01, 'Bench tries': the marked ones, and two beside them on S, "proved of the definitions by a single statement ranging over a table of them".
use Rattle.std.specs.Prelude.{◌≡◌, List, [], ◌∷◌, map, ℕ}
use Prim.Native.String.{String}
use Rattle.requests.specs.declared.Entry.{Entry}
use Rattle.sessions.specs.Sessions.{queued}
use Rattle.names.specs.Lists.{NameLists}
use Rattle.grammar.specs.Examples.{typed}
use Rattle.streams.specs.Stream.{feed_start, feed_state, transcript}

-- "Whole input (blanks stand for tabs, in the output too)", "Whole output, no header", and the ids waiting afterwards
pub record Try : Type 0 where
  pub input : List String
  pub output : List String
  pub waiting : List ℕ

-- a whole output, and the ids waiting
pub record Outcome : Type 0 where
  pub text : List ℕ
  pub ids : List ℕ

-- what an input gives with two lists of names
unfoldable pub outcome_with : NameLists → Try → Outcome
outcome_with n t =
    record { text = transcript n (typed t.input); ids = map (λ (e : Entry). e.id) (queued (feed_state n feed_start (typed t.input)).session) }

-- what it gives without names
unfoldable pub outcome : Try → Outcome
outcome t = outcome_with (record { site = []; house = [] }) t

-- what it must give
unfoldable pub expected : Try → Outcome
expected t = record { text = typed t.output; ids = t.waiting }

-- the table
abbrev pub tries : List Try
tries =
    -- A. The queue is now 3, 1, 2.
    record {
      input = "open G 15 0 0 -" ∷ "event 1 C0 00 1" ∷ "latency 2 0001 15 15" ∷ "event 3 3C 00 1" ∷ "turn" ∷ [];
      output =
          "ok" ∷
          "ok" ∷
          "ok" ∷
          "ok" ∷
          "take 1 0 -" ∷
          "take 2 1 0" ∷
          "take 2 2 1" ∷
          "set 038F 0000000000000000" ∷
          "set 0186 0000000000000000" ∷
          "set 0187 0000000000000000" ∷
          "set 0188 0000000000000000" ∷
          "set 0189 0000000000000000" ∷
          "set 01A6 0000004000000001" ∷
          "set 01A7 0000000000010001" ∷
          "set 00C1 0000000000000000" ∷
          "set 00C2 0000000000000000" ∷
          "set 00C3 0000000000000000" ∷
          "set 0186 00000000004300C0" ∷
          "set 0187 00000000004301B7" ∷
          "set 0188 00000000004302B7" ∷
          "set 038F 0000000000000007" ∷
          "ok" ∷ [];
      waiting = 3 ∷ 1 ∷ 2 ∷ [];
    } ∷
    -- B. Allowed 15, then allowed 1: the first goes to counter 1, the second to 0.
    record {
      input = "open G 15 0 0 -" ∷ "event 1 C0 00 15" ∷ "event 2 C0 00 1" ∷ "turn" ∷ [];
      output =
          "ok" ∷
          "ok" ∷
          "ok" ∷
          "take 1 1 -" ∷
          "take 2 0 -" ∷
          "set 038F 0000000000000000" ∷
          "set 0186 0000000000000000" ∷
          "set 0187 0000000000000000" ∷
          "set 0188 0000000000000000" ∷
          "set 0189 0000000000000000" ∷
          "set 01A6 0000000000000000" ∷
          "set 01A7 0000000000000000" ∷
          "set 00C1 0000000000000000" ∷
          "set 00C2 0000000000000000" ∷
          "set 0186 00000000004300C0" ∷
          "set 0187 00000000004300C0" ∷
          "set 038F 0000000000000003" ∷
          "ok" ∷ [];
      waiting = 1 ∷ 2 ∷ [];
    } ∷
    -- C. Offcore 10001, latency 0001: RSP1 is shared.
    record {
      input = "open G 15 0 0 -" ∷ "offcore 1 0000000000010001 15" ∷ "latency 2 0001 15 15" ∷ "turn" ∷ [];
      output =
          "ok" ∷
          "ok" ∷
          "ok" ∷
          "take 1 0 1" ∷
          "take 2 1 0" ∷
          "take 2 2 1" ∷
          "set 038F 0000000000000000" ∷
          "set 0186 0000000000000000" ∷
          "set 0187 0000000000000000" ∷
          "set 0188 0000000000000000" ∷
          "set 0189 0000000000000000" ∷
          "set 01A6 0000004000000001" ∷
          "set 01A7 0000000000010001" ∷
          "set 00C1 0000000000000000" ∷
          "set 00C2 0000000000000000" ∷
          "set 00C3 0000000000000000" ∷
          "set 0186 00000000004302B7" ∷
          "set 0187 00000000004301B7" ∷
          "set 0188 00000000004302B7" ∷
          "set 038F 0000000000000007" ∷
          "ok" ∷ [];
      waiting = 1 ∷ 2 ∷ [];
    } ∷
    -- D. With 10002 the latency request waits.
    record {
      input = "open G 15 0 0 -" ∷ "offcore 1 0000000000010002 15" ∷ "latency 2 0001 15 15" ∷ "turn" ∷ [];
      output =
          "ok" ∷
          "ok" ∷
          "ok" ∷
          "take 1 0 0" ∷
          "set 038F 0000000000000000" ∷
          "set 0186 0000000000000000" ∷
          "set 0187 0000000000000000" ∷
          "set 0188 0000000000000000" ∷
          "set 0189 0000000000000000" ∷
          "set 01A6 0000000000010002" ∷
          "set 01A7 0000000000000000" ∷
          "set 00C1 0000000000000000" ∷
          "set 0186 00000000004301B7" ∷
          "set 038F 0000000000000001" ∷
          "ok" ∷ [];
      waiting = 2 ∷ 1 ∷ [];
    } ∷
    -- E. Three different offcore words: the third waits beside two free counters.
    record {
      input = "open G 15 0 0 -" ∷ "offcore 1 0000000000010001 15" ∷ "offcore 2 0000000000010002 15" ∷ "offcore 3 0000000000010004 15" ∷ "turn" ∷ [];
      output =
          "ok" ∷
          "ok" ∷
          "ok" ∷
          "ok" ∷
          "take 1 0 0" ∷
          "take 2 1 1" ∷
          "set 038F 0000000000000000" ∷
          "set 0186 0000000000000000" ∷
          "set 0187 0000000000000000" ∷
          "set 0188 0000000000000000" ∷
          "set 0189 0000000000000000" ∷
          "set 01A6 0000000000010001" ∷
          "set 01A7 0000000000010002" ∷
          "set 00C1 0000000000000000" ∷
          "set 00C2 0000000000000000" ∷
          "set 0186 00000000004301B7" ∷
          "set 0187 00000000004302B7" ∷
          "set 038F 0000000000000003" ∷
          "ok" ∷ [];
      waiting = 3 ∷ 1 ∷ 2 ∷ [];
    } ∷
    -- F. Usable 14: 038F gets 1 first.
    record {
      input = "open G 14 0 0 -" ∷ "event 1 C0 00 15" ∷ "turn" ∷ [];
      output =
          "ok" ∷
          "ok" ∷
          "take 1 1 -" ∷
          "set 038F 0000000000000001" ∷
          "set 0187 0000000000000000" ∷
          "set 0188 0000000000000000" ∷
          "set 0189 0000000000000000" ∷
          "set 01A6 0000000000000000" ∷
          "set 01A7 0000000000000000" ∷
          "set 00C2 0000000000000000" ∷
          "set 0187 00000000004300C0" ∷
          "set 038F 0000000000000003" ∷
          "ok" ∷ [];
      waiting = 1 ∷ [];
    } ∷
    -- G. Latency 4 and 4: 12; 4 and 8: accepted.
    record {
      input = "open G 15 0 0 -" ∷ "latency 1 0001 4 4" ∷ "latency 1 0001 4 8" ∷ [];
      output =
          "ok" ∷
          "no 12 0" ∷
          "ok" ∷ [];
      waiting = 1 ∷ [];
    } ∷
    -- H. Word 10040: 10; 1: 9; 200010001: 11.
    record {
      input = "open G 15 0 0 -" ∷ "offcore 1 0000000000010040 15" ∷ "offcore 1 0000000000000001 15" ∷ "offcore 1 0000000200010001 15" ∷ [];
      output =
          "ok" ∷
          "no 10 2" ∷
          "no 9 2" ∷
          "no 11 2" ∷ [];
      waiting = [];
    } ∷
    -- I. S 51/0: 9; 51/3: 400351; 51/4: 10.
    record {
      input = "open S 15 0 0 -" ∷ "event 1 51 00 15" ∷ "event 1 51 03 15" ∷ "event 2 51 04 15" ∷ "turn" ∷ [];
      output =
          "ok" ∷
          "no 9 3" ∷
          "ok" ∷
          "no 10 3" ∷
          "take 1 0 -" ∷
          "set 0C40 0000000000000000" ∷
          "set 0C50 0000000000000000" ∷
          "set 0C52 0000000000000000" ∷
          "set 0C54 0000000000000000" ∷
          "set 0C56 0000000000000000" ∷
          "set 0E48 0000000000000000" ∷
          "set 0C51 0000000000000000" ∷
          "set 0C50 0000000000400351" ∷
          "set 0C40 0000000000000001" ∷
          "ok" ∷ [];
      waiting = 1 ∷ [];
    } ∷
    -- S. Usable 14, a packet and 51/3: the order of the writes on S.
    record {
      input = "open S 14 0 0 -" ∷ "packet 1 00000000000000A5 00000000000000FF 15" ∷ "event 2 51 03 15" ∷ "turn" ∷ [];
      output =
          "ok" ∷
          "ok" ∷
          "ok" ∷
          "take 1 1 -" ∷
          "take 2 2 -" ∷
          "set 0C40 0000000000000001" ∷
          "set 0C52 0000000000000000" ∷
          "set 0C54 0000000000000000" ∷
          "set 0C56 0000000000000000" ∷
          "set 0E48 0000000000000000" ∷
          "set 0E49 00000000000000A5" ∷
          "set 0E4A 00000000000000FF" ∷
          "set 0E48 8000000000000000" ∷
          "set 0C53 0000000000000000" ∷
          "set 0C55 0000000000000000" ∷
          "set 0C52 0000000000400000" ∷
          "set 0C54 0000000000400351" ∷
          "set 0C40 0000000000000007" ∷
          "ok" ∷ [];
      waiting = 1 ∷ 2 ∷ [];
    } ∷
    -- S. Packets of equal match and equal mask go together, one of another mask waits.
    record {
      input = "open S 15 0 0 -" ∷ "packet 1 0000000000000005 0000000000000006 15" ∷ "packet 2 0000000000000005 0000000000000007 15" ∷ "packet 3 0000000000000005 0000000000000006 15" ∷ "turn" ∷ [];
      output =
          "ok" ∷
          "ok" ∷
          "ok" ∷
          "ok" ∷
          "take 1 0 -" ∷
          "take 3 1 -" ∷
          "set 0C40 0000000000000000" ∷
          "set 0C50 0000000000000000" ∷
          "set 0C52 0000000000000000" ∷
          "set 0C54 0000000000000000" ∷
          "set 0C56 0000000000000000" ∷
          "set 0E48 0000000000000000" ∷
          "set 0E49 0000000000000005" ∷
          "set 0E4A 0000000000000006" ∷
          "set 0E48 8000000000000000" ∷
          "set 0C51 0000000000000000" ∷
          "set 0C53 0000000000000000" ∷
          "set 0C50 0000000000400000" ∷
          "set 0C52 0000000000400000" ∷
          "set 0C40 0000000000000003" ∷
          "ok" ∷ [];
      waiting = 2 ∷ 1 ∷ 3 ∷ [];
    } ∷ []

-- each input gives the output and leaves the ids waiting
abbrev pub Tries : Type 0
Tries = map outcome tries ≡ map expected tries
