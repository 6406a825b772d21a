-- Document 02, order 13: texts in pieces, and what each call answers and leaves in its output.
use Rattle.std.specs.Prelude.{◌≡◌, List, [], ◌∷◌, ◌++◌, map, ℕ, ◌-◌, length, replicate, Option, None, Some}
use Rattle.requests.specs.Refusals.{answer_number}
use Rattle.grammar.specs.Examples.{tabbed, typed}
use Rattle.streams.specs.Stream.{no_names}
use Rattle.streams.specs.Feeds.{new_feed, piece_of, piece_out, end_of, end_out}
use Rattle.streams.specs.declared.PieceFeed.{PieceFeed}

-- a piece or the end, with the length of the output that is lent for it
pub data FeedCall : Type 0 where
  give : ℕ → List ℕ → FeedCall
  finish : ℕ → FeedCall

-- what a call says: the number of its refusal, and the whole output afterwards
pub record Said : Type 0 where
  pub refused : Option ℕ
  pub output : List ℕ

-- a lent output: `#` at every place
unfoldable pub lent : ℕ → List ℕ
lent room = replicate room 35

-- what calls say, one after another
unfoldable pub said_by : PieceFeed → List FeedCall → List Said
said_by s [] = []
said_by s (give room text ∷ rest) =
    record { refused = answer_number (piece_of no_names s text room).answer; output = piece_out no_names s text (lent room) } ∷ said_by (piece_of no_names s text room).state rest
said_by s (finish room ∷ rest) =
    record { refused = answer_number (end_of s room).answer; output = end_out s (lent room) } ∷ said_by (end_of s room).state rest

-- calls, and what they say
pub record FeedTry : Type 0 where
  pub calls : List FeedCall
  pub said : List Said

-- accepted, with these answers to lines at the start of the output
unfoldable pub ok : ℕ → List ℕ → Said
ok room answers = record { refused = None; output = answers ++ replicate (room - length answers) 35 }

-- refused, with the output as it was
unfoldable pub no : ℕ → ℕ → Said
no room number = record { refused = Some number; output = lent room }

-- n times the letter A
unfoldable pub letters : ℕ → List ℕ
letters n = replicate n 65

-- the table
abbrev pub feed_tries : List FeedTry
feed_tries =
    -- a line in two pieces
    record {
      calls = give 8 (tabbed "op") ∷ give 8 (typed ("en G 15 0 0 -" ∷ [])) ∷ finish 8 ∷ [];
      said = ok 8 [] ∷ ok 8 (typed ("ok" ∷ [])) ∷ ok 8 [] ∷ [];
    }
    ∷
    -- an empty piece within a line
    record {
      calls = give 8 (tabbed "turn") ∷ give 0 [] ∷ give 8 (typed ("" ∷ [])) ∷ finish 0 ∷ [];
      said = ok 8 [] ∷ ok 0 [] ∷ ok 8 (typed ("no 2 0" ∷ [])) ∷ ok 0 [] ∷ [];
    }
    ∷
    -- a line of 80 bytes is answered by its fields, and one of 81 once; the next is read normally
    record {
      calls = give 8 (letters 80) ∷ give 8 (typed ("" ∷ [])) ∷ give 8 (letters 81) ∷ give 20 (typed ("" ∷ "turn" ∷ [])) ∷ finish 0 ∷ [];
      said = ok 8 [] ∷ ok 8 (typed ("no 1 0" ∷ [])) ∷ ok 8 [] ∷ ok 20 (typed ("no 1 0" ∷ "no 2 0" ∷ [])) ∷ ok 0 [] ∷ [];
    }
    ∷
    -- a line too long in three pieces, without its newline: once, at the end
    record {
      calls = give 8 (letters 70) ∷ give 8 (letters 70) ∷ give 8 (letters 60) ∷ finish 8 ∷ [];
      said = ok 8 [] ∷ ok 8 [] ∷ ok 8 [] ∷ ok 8 (typed ("no 1 0" ∷ [])) ∷ [];
    }
    ∷
    -- the field of a line too long
    record {
      calls = give 8 (tabbed "event 1 ") ∷ give 8 (replicate 80 67) ∷ give 8 (typed ("" ∷ [])) ∷ finish 0 ∷ [];
      said = ok 8 [] ∷ ok 8 [] ∷ ok 8 (typed ("no 1 2" ∷ [])) ∷ ok 0 [] ∷ [];
    }
    ∷
    -- an unfinished line at the end, an empty one, and what comes after the end, with and without room
    record {
      calls = give 8 (tabbed "turn") ∷ finish 8 ∷ finish 8 ∷ [];
      said = ok 8 [] ∷ ok 8 (typed ("no 1 1" ∷ [])) ∷ no 8 2 ∷ [];
    }
    ∷ record { calls = give 0 (tabbed "open C 63 0 7 0 -") ∷ finish 8 ∷ []; said = ok 0 [] ∷ ok 8 (typed ("no 1 7" ∷ [])) ∷ [] }
    ∷ record { calls = finish 0 ∷ finish 0 ∷ give 0 [] ∷ give 3 (typed ("turn" ∷ [])) ∷ []; said = ok 0 [] ∷ no 0 2 ∷ no 0 2 ∷ no 3 2 ∷ [] }
    ∷
    -- an output that is one byte too short, and one that is just long enough
    record {
      calls = give 6 (typed ("turn" ∷ [])) ∷ give 7 (typed ("turn" ∷ [])) ∷ give 0 (tabbed "t") ∷ finish 6 ∷ finish 7 ∷ [];
      said = no 6 14 ∷ ok 7 (typed ("no 2 0" ∷ [])) ∷ ok 0 [] ∷ no 6 14 ∷ ok 7 (typed ("no 1 0" ∷ [])) ∷ [];
    }
    ∷ []

abbrev pub FeedTries : Type 0
FeedTries = map (λ (t : FeedTry). said_by new_feed t.calls) feed_tries ≡ map (λ (t : FeedTry). t.said) feed_tries
