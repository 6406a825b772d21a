-- What the requests placed so far leave, as it changes with each of them.
use Rattle.std.specs.Prelude.{ℕ, ◌^◌, ◌<◌, ◌≤◌}
use Rattle.search.specs.declared.left.Left.{Left}
use Rattle.search.specs.Counters.{without}

-- each register's user is none, or one of the eight rows
abbrev pub InRows : Left → Type 0
InRows left = (left.rsp0 ≤ 8) × (left.rsp1 ≤ 8) × (left.packet ≤ 8)

-- there are n counters, as many as six bits a place allow, and no other is free
pub record OnCounters (n : ℕ) (left : Left) : Type 0 where
  pub some : 1 ≤ n
  pub few : n ≤ 8
  pub below : left.free.0 < 2 ^ n

-- what is left without counter k
abbrev pub without_counter : Left → ℕ → Left
without_counter left k = record { free = without left.free k; rsp0 = left.rsp0; rsp1 = left.rsp1; packet = left.packet }

-- what is left with RSP0 used
abbrev pub with_rsp0 : Left → ℕ → Left
with_rsp0 left user = record { free = left.free; rsp0 = user; rsp1 = left.rsp1; packet = left.packet }

-- what is left with RSP1 used
abbrev pub with_rsp1 : Left → ℕ → Left
with_rsp1 left user = record { free = left.free; rsp0 = left.rsp0; rsp1 = user; packet = left.packet }

-- what is left with the match/mask register used
abbrev pub with_packet : Left → ℕ → Left
with_packet left user = record { free = left.free; rsp0 = left.rsp0; rsp1 = left.rsp1; packet = user }
