-- Requests put into rows read back, and the rows in front stay. Assumes nothing.
--     put-length, put-front   a request put into row i keeps the length and the rows in front
--     rows-put                .. and the first i + 1 rows are the first i with the request behind them
use mathlib.Core.Path.{◌≡◌, refl, ap, sym, ◌∙◌}
use mathlib.Core.List.{List, [], ◌∷◌, ◌++◌}
use Prim.Native.Nat.{ℕ, zero, suc, ◌+◌, ◌-◌, ◌*◌, ◌<◌}
use native.Mathlib.Nat.{mod-eq_of_lt, add-zero}
use native.Mathlib.Numerals.{add-one}
use native.Mathlib.Omega.{arith}
use lib.ListN.{length, get_or, set, take, length-set}
use lib.Seq.{get_or-set_same, get_or-set_other, take-suc}
use Rattle.requests.specs.declared.CounterSet.{CounterSet}
use Rattle.requests.specs.declared.Request.{Request}
use Rattle.requests.specs.declared.Request.TheVariants.{Event, Packet, Offcore, Latency}
use Rattle.search.specs.Rows.{request_of, request_at, set_row, set_request, rows_from}

-- ---- one row

pub row_here : (rows : List ℕ) (i kind a b c : ℕ) → i * 4 + 3 < length rows → request_at (set_row rows i kind a b c) i ≡ request_of kind a b c
unfolding request_at set_row
row_here rows i kind a b c l =
    let x1 = set rows (i * 4) kind in
    let x2 = set x1 (i * 4 + 1) a in
    let x3 = set x2 (i * 4 + 2) b in
    let x4 = set x3 (i * 4 + 3) c in
    let l1 : length x1 ≡ length rows = length-set rows (i * 4) kind in
    let l2 : length x2 ≡ length rows = length-set x1 (i * 4 + 1) a ∙ l1 in
    let l3 : length x3 ≡ length rows = length-set x2 (i * 4 + 2) b ∙ l2 in
    let e3 : get_or x4 (i * 4 + 3) 0 ≡ c = get_or-set_same x3 (i * 4 + 3) c 0 (omega arith) in
    let e2 : get_or x4 (i * 4 + 2) 0 ≡ b =
    get_or-set_other x3 (i * 4 + 3) (i * 4 + 2) c 0 (λ q. omega arith) ∙ get_or-set_same x2 (i * 4 + 2) b 0 (omega arith) in
    let e1 : get_or x4 (i * 4 + 1) 0 ≡ a =
    get_or-set_other x3 (i * 4 + 3) (i * 4 + 1) c 0 (λ q. omega arith)
    ∙ get_or-set_other x2 (i * 4 + 2) (i * 4 + 1) b 0 (λ q. omega arith) ∙ get_or-set_same x1 (i * 4 + 1) a 0 (omega arith) in
    let e0 : get_or x4 (i * 4) 0 ≡ kind =
    get_or-set_other x3 (i * 4 + 3) (i * 4) c 0 (λ q. omega arith) ∙ get_or-set_other x2 (i * 4 + 2) (i * 4) b 0 (λ q. omega arith)
    ∙ get_or-set_other x1 (i * 4 + 1) (i * 4) a 0 (λ q. omega arith) ∙ get_or-set_same rows (i * 4) kind 0 (omega arith) in
    rw (e0, e1, e2, e3)

pub row_length : (rows : List ℕ) (i kind a b c : ℕ) → length (set_row rows i kind a b c) ≡ length rows
unfolding set_row
row_length rows i kind a b c = rw (length-set, length-set, length-set, length-set)

cell_other : (rows : List ℕ) (i kind a b c j k : ℕ) → k < 4 → (j ≡ i → ⊥) → get_or (set_row rows i kind a b c) (j * 4 + k) 0 ≡ get_or rows (j * 4 + k) 0
unfolding set_row
cell_other rows i kind a b c j k few other =
    let x1 = set rows (i * 4) kind in
    let x2 = set x1 (i * 4 + 1) a in
    let x3 = set x2 (i * 4 + 2) b in
    get_or-set_other x3 (i * 4 + 3) (j * 4 + k) c 0 (λ q. other (omega arith)) ∙ get_or-set_other x2 (i * 4 + 2) (j * 4 + k) b 0 (λ q. other (omega arith))
    ∙ get_or-set_other x1 (i * 4 + 1) (j * 4 + k) a 0 (λ q. other (omega arith)) ∙ get_or-set_other rows (i * 4) (j * 4 + k) kind 0 (λ q. other (omega arith))

pub row_other : (rows : List ℕ) (i kind a b c j : ℕ) → (j ≡ i → ⊥) → request_at (set_row rows i kind a b c) j ≡ request_at rows j
unfolding request_at
row_other rows i kind a b c j other =
    let z : j * 4 + 0 ≡ j * 4 = omega arith in
    let first = rw z at (cell_other rows i kind a b c j 0 (omega arith) other) in
    rw (
      first,
      cell_other rows i kind a b c j 1 (omega arith) other,
      cell_other rows i kind a b c j 2 (omega arith) other,
      cell_other rows i kind a b c j 3 (omega arith) other,
    )

-- ---- a request

-- the numbers of an event and of a latency read back
pub event_read : (code mask : ℕ) (a : CounterSet) → code < 256 → mask < 256 → request_of 0 code mask a.0 ≡ Event code mask a
unfolding request_of
event_read code mask a f g = rw (mod-eq_of_lt f, mod-eq_of_lt g)

module _ (rows : List ℕ) (i : ℕ) where
  pub put_length : (r : Request) → length (set_request rows i r) ≡ length rows
  unfolding set_request
  put_length (Event code mask a) = row_length rows i 0 code mask a.0
  put_length (Packet x y a) = row_length rows i 1 x y a.0
  put_length (Offcore w a) = row_length rows i 2 w 0 a.0
  put_length (Latency t a b) = row_length rows i 3 t a.0 b.0

  pub put_front : (r : Request) (j : ℕ) → j < i → request_at (set_request rows i r) j ≡ request_at rows j
  unfolding set_request
  put_front (Event code mask a) j l = row_other rows i 0 code mask a.0 j (λ e. omega arith)
  put_front (Packet x y a) j l = row_other rows i 1 x y a.0 j (λ e. omega arith)
  put_front (Offcore w a) j l = row_other rows i 2 w 0 a.0 j (λ e. omega arith)
  put_front (Latency t a b) j l = row_other rows i 3 t a.0 b.0 j (λ e. omega arith)

-- ---- all rows

-- the first request of those that are left
pub rows_next : (rows : List ℕ) (at count : ℕ) → at < count → rows_from rows at (count - at) ≡ request_at rows at ∷ rows_from rows (at + 1) (count - (at + 1))
unfolding rows_from
rows_next rows at count l = let s : count - at ≡ suc (count - (at + 1)) = omega arith in rw (s, rows_from)

pub rows_length : (rows : List ℕ) (at left : ℕ) → length (rows_from rows at left) ≡ left
unfolding rows_from
rows_length rows at zero = refl
rows_length rows at (suc left) = ap suc (rows_length rows (at + 1) left)

-- one row more
pub rows_last : (rows : List ℕ) (at left : ℕ) → rows_from rows at (suc left) ≡ rows_from rows at left ++ (request_at rows (at + left) ∷ [])
unfolding rows_from
rows_last rows at zero = rw (add-zero at)
rows_last rows at (suc left) =
    let s : at + 1 + left ≡ at + suc left = omega arith in
    ap (λ (l : List Request). request_at rows at ∷ l) (rw (← s) (rows_last rows (at + 1) left))

rows_same : (old new : List ℕ) (at left : ℕ) → ((j : ℕ) → j < at + left → request_at new j ≡ request_at old j) → rows_from new at left ≡ rows_from old at left
unfolding rows_from
rows_same old new at zero h = refl
rows_same old new at (suc left) h = rw (h at (omega arith), rows_same old new (at + 1) left (λ j l. h j (omega arith)))

pub rows_put : (old new : List ℕ) (i : ℕ) (r : Request) → new ≡ set_request old i r → request_at new i ≡ r → rows_from new 0 (i + 1) ≡ rows_from old 0 i ++ (r ∷ [])
rows_put old new i r e back =
    let front : rows_from new 0 i ≡ rows_from old 0 i = rows_same old new 0 i (λ j l. rw e (put_front old i r j (omega arith))) in
    let z : 0 + i ≡ i = omega arith in
    rw (add-one i) (rows_last new 0 i ∙ rw (front, z, back))

-- where the first i rows are the first i requests, so they are with the next one
pub rows_take : (old new : List ℕ) (rs : List Request) (i : ℕ) (r d : Request) → i < length rs → new ≡ set_request old i r → request_at new i ≡ r → r ≡ get_or rs i d
    → rows_from old 0 i ≡ take i rs → rows_from new 0 (i + 1) ≡ take (i + 1) rs
rows_take old new rs i r d l e back is same = rows_put old new i r e back ∙ rw (same, is, add-one i) (sym (take-suc rs i d l))
