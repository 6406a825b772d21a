-- The plain queue: "A call that the refusal table refuses in that state leaves it as it is. Every other call is accepted and changes it".
use Rattle.std.specs.Prelude.{List, [], ◌∷◌, ◌++◌, ℕ, ◌+◌, eqb, Option, None, Some}
use Rattle.requests.specs.declared.Setup.{Setup}
use Rattle.requests.specs.declared.Entry.{Entry}
use Rattle.requests.specs.declared.Refusal.{Refusal}
use Rattle.requests.specs.Choice.{pick}
use Rattle.requests.specs.Devices.{setup_of}
use Rattle.sessions.specs.Turns.{turned, turned_times}
use Rattle.sessions.specs.Calls.{Call, Open, Add, Drop, Turn, Turns, Plain, not_open_lem, opened}
use Rattle.sessions.specs.Table.{refusal}

-- "drop: an id. The others keep their order."
unfoldable pub removed : ℕ → List Entry → List Entry
removed id [] = []
removed id (e ∷ es) = pick (eqb id e.id) (removed id es) (e ∷ removed id es)

-- a queue changed, where there is one
unfoldable pub on_queue : Plain → (Setup → List Entry → List Entry) → Plain
on_queue not_open_lem f = not_open_lem
on_queue (opened s q) f = opened s (f s q)

-- what an accepted call makes of the state
unfoldable pub change : Plain → Call → Plain
change p (Open o) = elim (setup_of o) [ None ↦ p | Some s ↦ opened s [] ]
change p (Add id r) = on_queue p (λ s q. q ++ record { id = id; request = r } ∷ [])
change p (Drop id) = on_queue p (λ s q. removed id q)
change p (Turn room) = on_queue p (λ s q. turned s q)
change p (Turns n room places) = on_queue p (λ s q. turned_times s n q)

-- the turns that a call asks for
unfoldable pub turns_asked : Call → ℕ
turns_asked (Open o) = 0
turns_asked (Add id r) = 0
turns_asked (Drop id) = 0
turns_asked (Turn room) = 1
turns_asked (Turns n room places) = n

-- how often a call asks to drop the id
unfoldable pub drops_asked : ℕ → Call → ℕ
drops_asked id (Open o) = 0
drops_asked id (Add other r) = 0
drops_asked id (Drop other) = pick (eqb id other) 1 0
drops_asked id (Turn room) = 0
drops_asked id (Turns n room places) = 0

-- the first of two where a call is refused, the second where it is accepted
abbrev pub unless_refused : {A : Type 0} → Option Refusal → A → A → A
unless_refused None old new = new
unless_refused (Some x) old new = old

module _ (limit : ℕ) where
  -- one call
  unfoldable pub step : Plain → Call → Plain
  step p c = unless_refused (refusal limit p c) p (change p c)

  -- the state that a list of calls leaves
  unfoldable pub run : Plain → List Call → Plain
  run p [] = p
  run p (c ∷ cs) = run (step p c) cs

  -- how many turns the call completes: "A turn is completed when it is accepted." And n turns at once: "accepted, it counts as its n turns"
  unfoldable pub completes : Plain → Call → ℕ
  completes p c = unless_refused (refusal limit p c) 0 (turns_asked c)

  -- how many turns a list of calls completes
  unfoldable pub completed : Plain → List Call → ℕ
  completed p [] = 0
  completed p (c ∷ cs) = completes p c + completed (step p c) cs

  -- how often the call drops the id: "It is dropped by an accepted drop of its id."
  unfoldable pub drops_of : ℕ → Plain → Call → ℕ
  drops_of id p c = unless_refused (refusal limit p c) 0 (drops_asked id c)

  -- how often a list of calls drops the id
  unfoldable pub drops : ℕ → Plain → List Call → ℕ
  drops id p [] = 0
  drops id p (c ∷ cs) = drops_of id p c + drops id (step p c) cs
