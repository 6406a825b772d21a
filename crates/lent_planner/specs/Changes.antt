-- The records changed in place, in one pass: where each is read, and what it becomes.
use Rattle.std.specs.Prelude.{List, [], ◌∷◌, ℕ, zero, suc, ◌+◌, ◌-◌, ◌≤◌, min, ltb, leb, get_or, set, replicate}
use Rattle.requests.specs.declared.Entry.{Entry}
use Rattle.requests.specs.Choice.{pick}
use Rattle.sessions.specs.Sessions.{vacant}
use Rattle.lent_planner.specs.declared.Change.{Change}

-- one place further, where the record that goes is not behind
unfoldable pub past : ℕ → ℕ → ℕ
past at k = pick (leb at k) (k + 1) k

-- past all records that go, given in rising order
unfoldable pub past_all_lem : List ℕ → ℕ → ℕ
past_all_lem [] k = k
past_all_lem (a ∷ rest) k = past_all_lem rest (past a k)

-- where the record of place i is read, as if there were records past the end
unfoldable pub ahead : Change → ℕ → ℕ
ahead c i = past_all_lem c.at (i + c.skip)

-- of the places from k on, at most `room`, those that stand before the record that goes; all of them, where it is behind
unfoldable pub clear : ℕ → ℕ → ℕ → ℕ
clear at k room = pick (leb at k) room (min room (at - k))

unfoldable pub clear_all : List ℕ → ℕ → ℕ → ℕ
clear_all [] k room = room
clear_all (a ∷ rest) k room = clear_all rest (past a k) (clear a k room)

-- a number past all places
unfoldable pub nowhere : ℕ
nowhere = 65536

-- how many places from i on are read equally far ahead
unfoldable pub stretch : Change → ℕ → ℕ
stretch c i = clear_all c.at (i + c.skip) nowhere

-- the record that is read at k, a fresh one past the end
unfoldable pub read_at : Change → ℕ → List Entry → Entry
read_at c k ys = pick (ltb k c.end) (get_or ys k vacant) (get_or c.fresh (k - c.end) vacant)

-- where it is read
unfoldable pub source : Change → ℕ → ℕ
source c i = pick (ltb (ahead c i) c.end) (ahead c i) i

-- what it becomes, where e is read
unfoldable pub placed : Change → ℕ → Entry → Entry
placed c i e = pick (ltb (ahead c i) c.end) e (get_or c.fresh (ahead c i - c.end) vacant)

-- a change that fits n records
pub record Fitting (c : Change) (n : ℕ) : Type 0 where
  pub from : c.from ≤ n
  pub end : c.end ≤ n
  pub skip : c.skip ≤ n

-- the k records from place i on
unfoldable pub rearranged_from : ℕ → ℕ → Change → List Entry → List Entry
rearranged_from zero i c ys = ys
rearranged_from (suc k) i c ys = rearranged_from k (i + 1) c (set ys i (placed c i (get_or ys (source c i) vacant)))

unfoldable pub rearranged : Change → List Entry → List Entry
rearranged c ys = rearranged_from (c.end - c.from) c.from c ys

-- each record from `from` to `end` becomes the one `skip` places ahead, and e past the end
unfoldable pub shifted : ℕ → ℕ → ℕ → Entry → Change
shifted from end skip e = record { from = from; end = end; skip = skip; at = replicate 8 nowhere; fresh = replicate 8 e }
