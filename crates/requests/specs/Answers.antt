-- How a call is answered.
use Rattle.std.specs.Prelude.{Result, ⊤}
use Rattle.requests.specs.declared.Refusal.{Refusal}

-- the answer of a call: `Ok` where it is accepted, and else the refusal
abbrev pub Answer : Type 0
Answer = Result ⊤ Refusal
