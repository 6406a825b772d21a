-- What a call answers, at the field of its line, is the reply to the record that a line asks for, by name or not. Assumes nothing.
use Rattle.std.specs.Prelude.{Option, None, Some}
use mathlib.Core.Path.{◌≡◌, refl}
use mathlib.Core.Bool.{Bool, true, false}
use mathlib.Core.List.{[], ◌∷◌, ◌++◌}
use Prim.Native.Nat.{ℕ}
use Rattle.requests.specs.declared.Opening.{Opening}
use Rattle.requests.specs.declared.Setup.{Setup}
use Rattle.requests.specs.declared.Refusal.{Refusal}
use Rattle.requests.specs.declared.Request.{Request}
use Rattle.requests.specs.Devices.{opening_of}
use Rattle.requests.specs.Faults.{opening_fields, request_fields, no_fields, answer_field}
use Rattle.sessions.specs.declared.Session.{Session}
use Rattle.sessions.specs.declared.Answered.{Answered}
use Rattle.sessions.specs.Calls as calls
use Rattle.sessions.specs.Plain.{unless_refused}
use Rattle.sessions.specs.Sessions.{queued, session_of, refused_by, answered, open_of, add_of, drop_of}
use Rattle.grammar.specs.declared.Record.{Record}
use Rattle.grammar.specs.declared.Record.TheVariants.{Open, Add, Drop, Turn}
use Rattle.names.specs.Named.{named_field}
use Rattle.answers.specs.Replies.{reply_at, reply_of, record_reply, named_reply}
use Rattle.responder.specs.Written.{line_field, asked_reply}

-- an accepted call has no field at fault
pub line_zero : (named : Bool) → line_field named 0 ≡ 0
unfolding line_field named_field
line_zero true = refl
line_zero false = refl

-- a record that is not asked for by name
pub asked_plain : (s : Session) (r : Record) → asked_reply s r false ≡ record_reply s r
unfolding asked_reply
asked_plain s (Open given) = refl
asked_plain s (Add id r) = refl
asked_plain s (Drop id) = refl
asked_plain s Turn = refl

module _ (s : Session) (x : Answered) (k : ℕ) where
  pub open_replied : (given : Setup) (o : Opening) → o ≡ opening_of given → x ≡ open_of s o → k ≡ answer_field x.answer (opening_fields o)
      → reply_at x k ≡ record_reply s (Open given)
  unfolding record_reply reply_of
  open_replied given o a b e = rw (e, b, a)

  pub drop_replied : (id : ℕ) → x ≡ drop_of s id → k ≡ answer_field x.answer no_fields → reply_at x k ≡ record_reply s (Drop id)
  unfolding record_reply reply_of
  drop_replied id b e = rw (e, b)

-- an add leaves the device as it is
add_setup : (s : Session) (id : ℕ) (r : Request) → (add_of s id r).session.setup ≡ s.setup
unfolding add_of answered session_of
add_setup s id r = go (refused_by s (calls.Add id r))
  where
    go : (y : Option Refusal) → (unless_refused y s (session_of s.setup (queued s ++ record { id = id; request = r } ∷ []))).setup ≡ s.setup
    go None = refl
    go (Some y) = refl

pub add_asked : (s : Session) (x : Answered) (k id : ℕ) (r : Request) (named : Bool) → x ≡ add_of s id r
    → k ≡ line_field named (answer_field x.answer (request_fields x.session.setup.device r)) → reply_at x k ≡ asked_reply s (Add id r) named
unfolding asked_reply record_reply named_reply reply_of line_field
add_asked s x k id r true b e = rw (e, b, add_setup s id r)
add_asked s x k id r false b e = rw (e, b, add_setup s id r)
