-- "It is dropped by an accepted drop of its id": no drop of an id is counted exactly where none of the calls is an accepted drop of it. `Dropped.first` rests
-- on it.
use Rattle.std.specs.Prelude.{◌≡◌, ◌↔◌, List, ◌∷◌, ◌++◌, ℕ, None}
use Rattle.sessions.specs.Calls.{Call, Drop, Plain}
use Rattle.sessions.specs.Table.{refusal}
use Rattle.sessions.specs.Plain.{run, drops}

abbrev pub DropsCounted : Type 0
DropsCounted =
    (limit id : ℕ) (p : Plain) (calls : List Call)
    → (drops limit id p calls ≡ 0) ↔ ((since rest : List Call) → calls ≡ since ++ Drop id ∷ rest → ¬ (refusal limit (run limit p since) (Drop id) ≡ None))
