-- A turn: what it takes and passes over, the plan, the writes, and the queue afterwards. And n turns, one after another.
use Rattle.std.specs.Prelude.{List, [], ◌∷◌, ◌++◌, map, Bool, ℕ, zero, suc, ◌+◌, ◌*◌, length, None, Some}
use Rattle.requests.specs.declared.Setup.{Setup}
use Rattle.requests.specs.declared.Request.{Request}
use Rattle.requests.specs.declared.Entry.{Entry}
use Rattle.plans.specs.declared.Place.{Place}
use Rattle.plans.specs.Search.{first_plan, has_plan_lem}
use Rattle.layouts.specs.Writes.{Write, writes}
use Rattle.sessions.specs.Choose.{taken_after, passed_after}
use Rattle.sessions.specs.declared.Assigned.{Assigned}

-- the requests of entries
unfoldable pub requests_of : List Entry → List Request
requests_of es = map (λ (e : Entry). e.request) es

-- whether the entries have a plan
unfoldable pub fits : Setup → List Entry → Bool
fits s es = has_plan_lem s (requests_of es)

-- the entries that a turn takes
unfoldable pub taken : Setup → List Entry → List Entry
taken s q = taken_after (fits s) [] q

-- the entries that it passes over
unfoldable pub passed : Setup → List Entry → List Entry
passed s q = passed_after (fits s) [] q

-- "Afterwards the queue is the ones passed over, then the taken ones, both in their former order."
unfoldable pub turned : Setup → List Entry → List Entry
turned s q = passed s q ++ taken s q

-- the first plan of the entries
unfoldable pub places_of : Setup → List Entry → List Place
places_of s es = elim (first_plan s (requests_of es)) [ None ↦ [] | Some ps ↦ ps ]

-- each entry's id with its place
unfoldable pub assign : List Entry → List Place → List Assigned
assign [] ps = []
assign (e ∷ es) [] = []
assign (e ∷ es) (p ∷ ps) = record { id = e.id; place = p } ∷ assign es ps

-- the writes of a turn that takes these entries
unfoldable pub writes_of : Setup → List Entry → List Write
writes_of s es = writes s (requests_of es) (places_of s es)

-- ---- n turns

-- the queue after n turns
unfoldable pub turned_times : Setup → ℕ → List Entry → List Entry
turned_times s zero q = q
turned_times s (suc n) q = turned_times s n (turned s q)

-- their write lists
unfoldable pub lists_of : Setup → ℕ → List Entry → List (List Write)
lists_of s zero q = []
lists_of s (suc n) q = writes_of s (taken s q) ∷ lists_of s n (turned s q)

-- "the lists one after another"
unfoldable pub joined : List (List Write) → List Write
joined [] = []
joined (ws ∷ lists) = ws ++ joined lists

-- "the ends, as places in the first" slice, of lists that begin at a place there: a write is two numbers
unfoldable pub ends_from : ℕ → List (List Write) → List ℕ
ends_from at [] = []
ends_from at (ws ∷ lists) = (at + 2 * length ws) ∷ ends_from (at + 2 * length ws) lists
