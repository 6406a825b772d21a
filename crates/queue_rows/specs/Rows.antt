-- A queue in two arrays: the ids of its entries, and their requests as rows of four numbers.
use Rattle.std.specs.Prelude.{◌≡◌, List, ℕ, length, take, get_or}
use Rattle.requests.specs.declared.Entry.{Entry}
use Rattle.search.specs.Rows.{request_at}
use Rattle.layouts.specs.Layout.{tabulate}

-- the entry at place i
unfoldable pub entry_at : List ℕ → List ℕ → ℕ → Entry
entry_at ids rows i = record { id = get_or ids i 0; request = request_at rows i }

-- the entries at the first n places
abbrev pub entries_in : ℕ → List ℕ → List ℕ → List Entry
entries_in n ids rows = tabulate n (entry_at ids rows)

-- what stands in all places
abbrev pub queue_in : List ℕ → List ℕ → List Entry
queue_in ids rows = entries_in 16 ids rows

-- the arrays have 16 places
pub record Sized (ids rows : List ℕ) : Type 0 where
  pub ids_size : length ids ≡ 16
  pub rows_size : length rows ≡ 64

-- the arrays hold these entries
pub record Holding (ids rows : List ℕ) (q : List Entry) : Type 0 where
  pub size : Sized ids rows
  pub queue : queue_in ids rows ≡ q

-- the first k places are these entries, and no more
pub record ClosesUp (q : List Entry) (ids rows : List ℕ) (k : ℕ) : Type 0 where
  pub size : Sized ids rows
  pub count : k ≡ length q
  pub front : take k (queue_in ids rows) ≡ q
