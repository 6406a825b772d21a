-- What a call that moves bytes may answer.
use Rattle.std.specs.Prelude.{ℕ, ◌≤◌, ℤ, Result, Ok, Err}

-- what a call that is handed n bytes may answer: how many bytes it moved, at most n, or errno
abbrev pub Moved : ℕ → Result ℕ ℤ → Type 0
Moved n (Ok k) = k ≤ n
Moved n (Err errno) = Unit {0}
