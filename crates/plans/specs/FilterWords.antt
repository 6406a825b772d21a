-- The filter words that requests ask for, whatever counters they take. Each of the two RSP registers holds one word, the match/mask register
-- one match and one mask. Where more are asked for no plan is legal, and nothing needs to be searched. The converse is not claimed:
-- counters are not looked at.
use Rattle.std.specs.Prelude.{◌≡◌, List, [], ◌∷◌, Bool, true, false, ℕ, None, Some}
use Rattle.requests.specs.declared.Setup.{Setup}
use Rattle.requests.specs.declared.Request.{Request}
use Rattle.requests.specs.declared.Request.TheVariants.{Event, Packet, Offcore, Latency}
use Rattle.requests.specs.Choice.{pick}
use Rattle.requests.specs.Bits.{latency_word}
use Rattle.plans.specs.declared.Asked.{Asked}
use Rattle.plans.specs.Legal.{HasPlan}
use Rattle.plans.specs.Search.{holds, holds_packet}

-- nothing is asked for
unfoldable pub none_asked : Asked
none_asked = record { first = None; second = None; packet = None; crowded = false }

-- one word more, in the first of both registers that can hold it
unfoldable pub ask_word : ℕ → Asked → Asked
ask_word w a =
    pick (holds a.first w) (record { first = Some w; second = a.second; packet = a.packet; crowded = a.crowded })
    (pick (holds a.second w) (record { first = a.first; second = Some w; packet = a.packet; crowded = a.crowded })
    (record { first = a.first; second = a.second; packet = a.packet; crowded = true }))

-- one match and mask more
unfoldable pub ask_packet : ℕ → ℕ → Asked → Asked
ask_packet x y a =
    pick (holds_packet a.packet x y) (record { first = a.first; second = a.second; packet = Some (x, y); crowded = a.crowded })
    (record { first = a.first; second = a.second; packet = a.packet; crowded = true })

-- what one request more asks for
unfoldable pub asked_by : Request → Asked → Asked
asked_by (Event c m k) a = a
asked_by (Packet x y k) a = ask_packet x y a
asked_by (Offcore w k) a = ask_word w a
asked_by (Latency t j k) a = ask_word (latency_word 1 t) (ask_word (latency_word 0 t) a)

-- what requests ask for, one after another
unfoldable pub asked_from : Asked → List Request → Asked
asked_from a [] = a
asked_from a (r ∷ rs) = asked_from (asked_by r a) rs

-- whether they ask for more than the registers hold
unfoldable pub crowded : List Request → Bool
crowded rs = (asked_from none_asked rs).crowded

pub record FilterWords : Type 0 where
  -- where they ask for more, no plan is legal
  pub unplanned : (s : Setup) (rs : List Request) → crowded rs ≡ true → ¬ HasPlan s rs
