-- Requests as rows of four numbers in one array: the form in which the search reads them.
use Rattle.std.specs.Prelude.{List, [], ◌∷◌, ℕ, zero, suc, ◌+◌, ◌*◌, ◌%◌, eqb, set, get_or}
use Rattle.requests.specs.declared.CounterSet.{CounterSet}
use Rattle.requests.specs.declared.Request.{Request}
use Rattle.requests.specs.declared.Request.TheVariants.{Event, Packet, Offcore, Latency}
use Rattle.requests.specs.Choice.{pick}

-- the set of a number
abbrev pub set_of : ℕ → CounterSet
set_of a = record { 0 = a }

-- the request of a row: its kind (0 event, 1 packet, 2 offcore, otherwise latency) and what it holds
unfoldable pub request_of : ℕ → ℕ → ℕ → ℕ → Request
request_of kind a b c =
    pick (eqb kind 0) (Event (a % 256) (b % 256) (set_of c))
    (pick (eqb kind 1) (Packet a b (set_of c))
    (pick (eqb kind 2) (Offcore a (set_of c)) (Latency (a % 65536) (set_of b) (set_of c))))

-- the request of row i
unfoldable pub request_at : List ℕ → ℕ → Request
request_at rows i = request_of (get_or rows (i * 4) 0) (get_or rows (i * 4 + 1) 0) (get_or rows (i * 4 + 2) 0) (get_or rows (i * 4 + 3) 0)

-- the requests of as many rows as are left, from row `at` on
unfoldable pub rows_from : List ℕ → ℕ → ℕ → List Request
rows_from rows at zero = []
rows_from rows at (suc left) = request_at rows at ∷ rows_from rows (at + 1) left

-- row i set to four numbers
unfoldable pub set_row : List ℕ → ℕ → ℕ → ℕ → ℕ → ℕ → List ℕ
set_row rows i kind a b c = set (set (set (set rows (i * 4) kind) (i * 4 + 1) a) (i * 4 + 2) b) (i * 4 + 3) c

-- row i set to a request
unfoldable pub set_request : List ℕ → ℕ → Request → List ℕ
set_request rows i (Event code mask a) = set_row rows i 0 code mask a.0
set_request rows i (Packet x y a) = set_row rows i 1 x y a.0
set_request rows i (Offcore w a) = set_row rows i 2 w 0 a.0
set_request rows i (Latency t a b) = set_row rows i 3 t a.0 b.0
