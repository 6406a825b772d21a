-- Laws of replies that are given in a slice: a text at its start, and what `reply` answers of it.
-- Assumes nothing.
use mathlib.Core.Path.{◌≡◌, ◌∙◌}
use mathlib.Core.List.{List, ◌++◌, flat_map}
use Prim.Native.Nat.{ℕ, ◌*◌, ◌-◌, ◌<◌, ◌≤◌}
use native.Mathlib.Nat.{zero-add}
use native.Mathlib.Omega.{arith}
use lib.ListN.{length, take, length-replicate}
use lib.Seq.{sets-eq}
use borrow.Author.Tests.{lt-ltb, le-ltb}
use Rattle.requests.specs.Answers.{Answer}
use Rattle.sessions.specs.declared.Session.{Session}
use Rattle.sessions.specs.declared.Assigned.{Assigned}
use Rattle.sessions.specs.declared.TurnAnswered.{TurnAnswered}
use Rattle.sessions.specs.Sessions.{plan_of}
use Rattle.grammar.specs.Parsed.{Parsed}
use Rattle.names.specs.Lists.{NameLists}
use Rattle.parser.specs.ParseWith.{parse_line_with}
use Rattle.answers.specs.Replies.{Reply, answer_text, take_lines, set_lines, turn_reply, parsed_reply, answer_line}
use Rattle.answers.specs.ReplyLength.{reply_room}
use Rattle.responder.specs.Written.{in_array, at_start, Left, replied_in, replied_out}
use Rattle.responder.specs.Texts.{Put, Delivered}
use Rattle.responder.proofs.Putting.{then}
use Rattle.answers.proofs.ReplyLength.{reply_length}
use Rattle.answers.proofs.Zeros.{zeros, drop_zeros}

-- a text put at the start delivers a reply
pub delivered : (x : Reply) (d e : List ℕ) (n : ℕ) → Put d 0 x.text e n → Delivered x d e (record { session = x.session; written = n })
delivered x d e n p = record { answered = let q : n ≡ length x.text = omega (arith, p.place) in rw q; contents = p.contents }

-- ---- a turn

-- the `take` lines, the `set` lines and the answer deliver the reply to a turn
pub turn_delivered : (t : TurnAnswered) (list : List ℕ) (plan : List Assigned) (writes : ℕ) (a : Answer) (s : Session)
    → plan ≡ plan_of t → writes ≡ t.writes → a ≡ t.answer → s ≡ t.session → {d e f g : List ℕ} {n m k : ℕ}
    → Put d 0 (flat_map take_lines plan) e n → Put e n (set_lines (take (2 * writes) list)) f m → Put f m (answer_text a 0) g k
    → Delivered (turn_reply t list) d g (record { session = s; written = k })
unfolding turn_reply
turn_delivered t list plan writes a s plan_is writes_are answer_is session-is {d} {e} {f} {g} {n} {m} {k} u v w =
    rw session-is (delivered (turn_reply t list) d g k (then (then (rw plan_is at u) (rw writes_are at v)) (rw answer_is at w)))

-- ---- the reply to what a line is

module _ (s : Session) (p : Parsed) (out : List ℕ) where
  -- in a slice that is too short nothing is done
  pub reply_short : length out < reply_room → (◌≡◌ {A = Left} (record { session = s; written = 0 }) (replied_in s p (length out))) × (out ≡ replied_out s p out)
  unfolding replied_in replied_out
  reply_short h = (rw (lt-ltb _ _ h, replied_in), rw (lt-ltb _ _ h, replied_out))

  -- in any other the reply is delivered
  pub reply_delivered : {after : List ℕ} {r : Left} → reply_room ≤ length out → Delivered (parsed_reply s p) out after r → (r ≡ replied_in s p (length out)) × (after ≡ replied_out s p out)
  unfolding replied_in replied_out at_start
  reply_delivered h x =
      let l = reply_length s p in
      (rw (le-ltb _ _ h, replied_in) x.answered, rw (le-ltb _ _ h, replied_out) (x.contents ∙ sets-eq (parsed_reply s p).text out 0 (omega arith) ∙ rw zero-add))

-- ---- the reply to a line

-- delivered in an array of zeros, a reply stands in an array of its own
pub array_reply : (n : NameLists) (s : Session) (line : List ℕ) (p : Parsed) (r : Left) (text : List ℕ)
    → p ≡ parse_line_with n s.setup.device line → r ≡ replied_in s p (length (zeros reply_room)) → text ≡ replied_out s p (zeros reply_room)
    → record { text = text; length = r.written; session = r.session } ≡ in_array (answer_line n s line)
unfolding in_array answer_line replied_in replied_out at_start
array_reply n s line p r text e f g =
    let x = parsed_reply s (parse_line_with n s.setup.device line) in
    let l : length x.text ≤ reply_room = reply_length s (parse_line_with n s.setup.device line) in
    let h = le-ltb (length (zeros reply_room)) reply_room (omega (arith, length-replicate {A = ℕ} reply_room 0)) in
    let i : r ≡ record { session = x.session; written = length x.text } = f ∙ rw (h, replied_in, e) in
    let j : text ≡ x.text ++ zeros (reply_room - length x.text) = g ∙ rw (h, replied_out, e, drop_zeros) in
    rw (i, j)
