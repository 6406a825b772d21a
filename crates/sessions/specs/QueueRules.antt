-- "A call that the refusal table refuses in that state leaves it as it is. Every other call is accepted and changes it as written above."
use Rattle.std.specs.Prelude.{◌≡◌, List, [], ◌∷◌, ◌++◌, map, ℕ, length, None, Some}
use Rattle.requests.specs.declared.Opening.{Opening}
use Rattle.requests.specs.declared.Setup.{Setup}
use Rattle.requests.specs.declared.Request.{Request}
use Rattle.requests.specs.declared.Entry.{Entry}
use Rattle.requests.specs.declared.Refusal.{Refusal}
use Rattle.requests.specs.Devices.{opening_of}
use Rattle.sessions.specs.Turns.{taken, passed}
use Rattle.sessions.specs.Calls.{Call, Open, Add, Drop, Turn, Turns, Plain, not_open_lem, opened}
use Rattle.sessions.specs.Table.{refusal}
use Rattle.sessions.specs.Plain.{step, run, completed}
use Rattle.sessions.specs.DistinctIds.{Distinct}

pub record QueueRules (limit : ℕ) : Type 0 where
  pub refused : (p : Plain) (c : Call) (x : Refusal) → refusal limit p c ≡ Some x → step limit p c ≡ p
  -- "what the accepted open was given and a list of ids with their requests, empty after that open"
  pub opens : (o : Opening) → refusal limit not_open_lem (Open o) ≡ None → (s : Setup) × (opening_of s ≡ o) × (step limit not_open_lem (Open o) ≡ opened s [])
  -- order 2: "The session keeps it": whatever is called afterwards, what the accepted open was given stays
  pub kept : (s : Setup) (q : List Entry) (calls : List Call) → (later : List Entry) × (run limit (opened s q) calls ≡ opened s later)
  -- "placed at the back"
  pub adds : (s : Setup) (q : List Entry) (id : ℕ) (r : Request) → refusal limit (opened s q) (Add id r) ≡ None
      → step limit (opened s q) (Add id r) ≡ opened s (q ++ record { id = id; request = r } ∷ [])
  -- "The others keep their order."
  pub drops : (s : Setup) (ahead behind : List Entry) (e : Entry) → Distinct (ahead ++ e ∷ behind) → refusal limit (opened s (ahead ++ e ∷ behind)) (Drop e.id) ≡ None
      → step limit (opened s (ahead ++ e ∷ behind)) (Drop e.id) ≡ opened s (ahead ++ behind)
  -- "Afterwards the queue is the ones passed over, then the taken ones"; `Taking` says which these are
  pub turns : (s : Setup) (q : List Entry) (room : ℕ) → refusal limit (opened s q) (Turn room) ≡ None → step limit (opened s q) (Turn room) ≡ opened s (passed s q ++ taken s q)
  -- order 6: n turns at once are n single turns, whatever the lengths of their slices, "all completed"
  pub turns_at_once : (s : Setup) (q : List Entry) (rooms : List ℕ) (room places : ℕ) → completed limit (opened s q) (map Turn rooms) ≡ length rooms
      → refusal limit (opened s q) (Turns (length rooms) room places) ≡ None → step limit (opened s q) (Turns (length rooms) room places) ≡ run limit (opened s q) (map Turn rooms)
