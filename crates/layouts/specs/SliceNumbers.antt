-- "The write list goes into the caller's slice of 64-bit numbers, address then value; numbers past the list stay": number by number.
use Rattle.std.specs.Prelude.{◌≡◌, List, ℕ, ◌+◌, ◌*◌, ◌≤◌, ◌<◌, length, get_or}
use Rattle.layouts.specs.Writes.{Write, filled}

pub record SliceNumbers : Type 0 where
  pub size : (ws : List Write) (out : List ℕ) → 2 * length ws ≤ length out → length (filled ws out) ≡ length out
  -- the address of write k stands at place 2k, and its value behind it
  pub addresses : (ws : List Write) (out : List ℕ) (k : ℕ) → k < length ws → get_or (filled ws out) (2 * k) 0 ≡ (get_or ws k (0, 0)).0
  pub values : (ws : List Write) (out : List ℕ) (k : ℕ) → k < length ws → get_or (filled ws out) (2 * k + 1) 0 ≡ (get_or ws k (0, 0)).1
  -- "numbers past the list stay"
  pub stay : (ws : List Write) (out : List ℕ) (i : ℕ) → 2 * length ws ≤ i → get_or (filled ws out) i 0 ≡ get_or out i 0
