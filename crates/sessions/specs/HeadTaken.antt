-- "an idle turn (the head must be taken ..)": the head of every queue that calls have left is taken, whatever the queue's limit.
use Rattle.std.specs.Prelude.{◌≡◌, List, ◌∷◌, ℕ}
use Rattle.requests.specs.declared.Setup.{Setup}
use Rattle.requests.specs.declared.Entry.{Entry}
use Rattle.sessions.specs.Turns.{taken}
use Rattle.sessions.specs.Calls.{Call, not_open_lem, opened}
use Rattle.sessions.specs.Plain.{run}

abbrev pub HeadTaken : Type 0
HeadTaken =
    (limit : ℕ) (calls : List Call) (s : Setup) (head : Entry) (rest : List Entry)
    → run limit not_open_lem calls ≡ opened s (head ∷ rest)
    → (more : List Entry) × (taken s (head ∷ rest) ≡ head ∷ more)
