-- Lists of lines and the calls that they make. Assumes nothing.
--     session-by, stands-after   lines leave the session that their calls leave, which stands for the plain queue of these
--     calls-append, run-append   two lists one after the other
--     line-of          a call among those of lines that is no add, and its line
--     calls-fit        their calls are ones that lines make
--     askable-after    each request that lines leave waiting is one that a line can add
use Rattle.std.specs.Prelude.{Option, None, Some, Ok, Err}
use mathlib.Core.Path.{◌≡◌, refl, ap, sym, subst, ◌∙◌}
use mathlib.Core.Bool.{false}
use mathlib.Core.List.{List, [], ◌∷◌, ◌++◌, append_assoc}
use Prim.Native.Nat.{ℕ}
use native.Mathlib.Omega.{arith}
use lib.ListN.{length, length-append}
use Rattle.requests.specs.declared.Device.{Device}
use Rattle.requests.specs.declared.Device.TheVariants.{G}
use Rattle.requests.specs.declared.Setup.{Setup}
use Rattle.requests.specs.declared.Request.{Request}
use Rattle.requests.specs.declared.Refusal.{Refusal}
use Rattle.requests.specs.declared.Refusal.TheVariants.{CallOrder}
use Rattle.requests.specs.Refusals.{answer_for}
use Rattle.requests.specs.Faults.{field_of, answer_field}
use Rattle.requests.specs.Devices.{setup_of}
use Rattle.plans.specs.Lists.{All, nil, cons}
use Rattle.plans.proofs.Sets.{all_append}
use Rattle.sessions.specs.declared.Session.{Session}
use Rattle.sessions.specs.Turns.{fits, taken, passed, turned}
use Rattle.sessions.specs.Calls.{Call, Plain, not_open_lem, opened, waiting}
use Rattle.sessions.specs.Calls as calls
use Rattle.sessions.specs.Table.{refusal}
use Rattle.sessions.specs.Plain.{on_queue, change, step, run}
use Rattle.sessions.specs.Sessions.{queue_limit, plain_of, refused_by, answered, add_of, session_after, queue_after}
use Rattle.sessions.proofs.Agreed.{stands_for, next_is}
use Rattle.sessions.proofs.SmallSession.{agreement}
use Rattle.sessions.proofs.Steps.{step_accepted, step_refused}
use Rattle.sessions.proofs.TableAnswers.{plain_closed, add_closed}
use Rattle.sessions.proofs.Rearranged.{all_turned}
use Rattle.sessions.proofs.Removed.{all_removed}
use Rattle.grammar.specs.Records.{record_text, AddFits, Fits}
use Rattle.grammar.specs.declared.Record.{Record}
use Rattle.grammar.specs.declared.Record.TheVariants.{Open, Add, Drop, Turn}
use Rattle.grammar.specs.Parsed.{Parsed}
use Rattle.grammar.specs.declared.Line.{Line}
use Rattle.names.specs.Lists.{NameLists}
use Rattle.names.specs.Named.{named_field}
use Rattle.parser.specs.ParseWith.{parse_line_with}
use Rattle.parser.proofs.ParsedLines.{Both, same, adds, on_both, parsed_lines}
use Rattle.answers.specs.Replies.{Reply, reply_at, named_reply, parsed_reply, answer_line}
use Rattle.answers.specs.LinesAreCalls.{call_of, calls_in, Askable}
use Rattle.answers.specs.LineLists.{device_at, calls_at, calls_from_lem, calls_by, session_by}
use Rattle.answers.proofs.LinesAreCalls.{lines_are_calls}

-- ---- the session

-- the call of a line leaves the session of its reply
line_session : (s : Session) (p : Parsed) (cs : List Call) → session_after s (calls_in p ++ cs) ≡ session_after (parsed_reply s p).session cs
unfolding calls_in parsed_reply session_after
line_session s (Ok (Line.Record r)) cs = ap (λ (x : Session). session_after x cs) (sym (lines_are_calls.session s r))
line_session s (Ok (Line.Named id r)) cs = ap (λ (x : Session). session_after x cs) (sym (lines_are_calls.named_session s id r))
line_session s (Err k) cs = refl

-- which stands for the plain queue after it
line_stands : (s : Session) (p : Parsed) → plain_of (parsed_reply s p).session ≡ run queue_limit (plain_of s) (calls_in p)
unfolding calls_in parsed_reply run
line_stands s (Ok (Line.Record r)) = ap plain_of (lines_are_calls.session s r) ∙ next_is s (call_of r)
line_stands s (Ok (Line.Named id r)) = ap plain_of (lines_are_calls.named_session s id r) ∙ next_is s (calls.Add id r)
line_stands s (Err k) = refl

-- before open an add is refused with 2, whatever it asks for
add_closed_reply : (s : Session) (id : ℕ) (r : Request) → plain_of s ≡ not_open_lem → named_reply s id r ≡ reply_at (record { answer = Err CallOrder; session = s }) 0
unfolding named_reply add_of answered refused_by answer_for answer_field field_of named_field
add_closed_reply s id r closed = rw (closed, add_closed queue_limit id r)

-- so the reply to a line there does not hang on the device
closed_same : (s : Session) {p q : Parsed} → plain_of s ≡ not_open_lem → Both p q → parsed_reply s p ≡ parsed_reply s q
unfolding parsed_reply
closed_same s closed (same e) = ap (parsed_reply s) e
closed_same s closed (adds id r t e f) = rw (e, f, add_closed_reply s id r closed, add_closed_reply s id t closed)

module _ (n : NameLists) where
  -- the reply to a line, by the device of the plain queue
  pub line_reply : (s : Session) (p : Plain) (line : List ℕ) → plain_of s ≡ p → answer_line n s line ≡ parsed_reply s (parse_line_with n (device_at p) line)
  unfolding answer_line device_at
  line_reply s not_open_lem line e = closed_same s e (on_both n s.setup.device G line)
  line_reply s (opened x q) line e = rw (stands_for s x q e).0

  from_session : (s : Session) (p : Plain) → plain_of s ≡ p → (lines : List (List ℕ)) → session_by n s lines ≡ session_after s (calls_from_lem n p lines)
  unfolding session_by calls_from_lem session_after
  from_session s p e [] = refl
  from_session s p e (line ∷ lines) =
      let x : Parsed = parse_line_with n (device_at p) line in
      let next : (answer_line n s line).session ≡ (parsed_reply s x).session = ap (λ (y : Reply). y.session) (line_reply s p line e) in
      rw next
      (from_session (parsed_reply s x).session (run queue_limit p (calls_in x)) (line_stands s x ∙ ap (λ (y : Plain). run queue_limit y (calls_in x)) e) lines)
      ∙ sym (line_session s x (calls_from_lem n (run queue_limit p (calls_in x)) lines))

  module _ (start : Session) (closed : start.opened ≡ false) (lines : List (List ℕ)) where
    pub session_by_lem : session_by n start lines ≡ session_after start (calls_by n lines)
    session_by_lem = from_session start not_open_lem (plain_closed start closed) lines

    -- it stands for the plain queue of the calls
    pub stands_after : plain_of (session_by n start lines) ≡ queue_after (calls_by n lines)
    unfolding session_after
    stands_after = ap plain_of session_by_lem ∙ (agreement start closed).stands (calls_by n lines)

-- ---- two lists one after the other

pub run_append : (limit : ℕ) (p : Plain) (a b : List Call) → run limit p (a ++ b) ≡ run limit (run limit p a) b
unfolding run
run_append limit p [] b = refl
run_append limit p (c ∷ a) b = run_append limit (step limit p c) a b

pub calls_append : (n : NameLists) (p : Plain) (a b : List (List ℕ)) → calls_from_lem n p (a ++ b) ≡ calls_from_lem n p a ++ calls_from_lem n (run queue_limit p (calls_from_lem n p a)) b
unfolding calls_from_lem run
calls_append n p [] b = refl
calls_append n p (line ∷ a) b =
    let cs = calls_at n p line in
    rw (calls_append n (run queue_limit p cs) a b, run_append queue_limit p cs (calls_from_lem n (run queue_limit p cs) a), append_assoc)

-- ---- a call among those of lines

-- a call that is no add
abbrev pub NotAdd : Call → Type 0
NotAdd (calls.Open o) = Unit {0}
NotAdd (calls.Add id r) = ⊥
NotAdd (calls.Drop id) = Unit {0}
NotAdd (calls.Turn room) = Unit {0}
NotAdd (calls.Turns n room places) = Unit {0}

-- the line that makes it is its record's text, and the lines before it make the calls before it
pub record LineOf (n : NameLists) (p : Plain) (lines : List (List ℕ)) (before : List Call) (c : Call) : Type 0 where
  pub since : List (List ℕ)
  pub asked : Record
  pub rest : List (List ℕ)
  pub split : lines ≡ since ++ record_text asked ∷ rest
  pub made : calls_from_lem n p since ≡ before
  pub is : call_of asked ≡ c
  pub fits_fields : Fits asked

-- with a line in front
more_lines : (n : NameLists) (p : Plain) (line : List ℕ) (lines : List (List ℕ)) (xs ys : List Call) (c : Call) → calls_at n p line ≡ ys
    → LineOf n (run queue_limit p ys) lines xs c → LineOf n p (line ∷ lines) (ys ++ xs) c
unfolding calls_from_lem
more_lines n p line lines xs ys c m l =
    record {
      since = line ∷ l.since;
      asked = l.asked;
      rest = l.rest;
      split = ap (λ (x : List (List ℕ)). line ∷ x) l.split;
      made = rw (m, l.made);
      is = l.is;
      fits_fields = l.fits_fields;
    }

pub line_of : (n : NameLists) (p : Plain) (lines : List (List ℕ)) (before : List Call) (c : Call) (after : List Call) → NotAdd c
    → calls_from_lem n p lines ≡ before ++ c ∷ after → LineOf n p lines before c
unfolding calls_from_lem calls_in run
line_of n p [] before c after other e = absurd (omega (arith, ap length e, length-append before (c ∷ after)))
line_of n p (line ∷ lines) before c after other e =
    go (parse_line_with n (device_at p) line) refl before e (λ q xs ys. line_of n q lines xs c ys other)
  where
    go : (x : Parsed) → parse_line_with n (device_at p) line ≡ x → (xs : List Call) → calls_in x ++ calls_from_lem n (run queue_limit p (calls_in x)) lines ≡ xs ++ c ∷ after
        → ((q : Plain) (xs ys : List Call) → calls_from_lem n q lines ≡ xs ++ c ∷ ys → LineOf n q lines xs c) → LineOf n p (line ∷ lines) xs c
    go (Err k) q xs h below = more_lines n p line lines xs [] c (rw q) (below p xs after h)
    go (Ok (Line.Record r)) q [] h below =
        let same : call_of r ∷ calls_from_lem n (run queue_limit p (call_of r ∷ [])) lines ≡ c ∷ after = h in
        let is : call_of r ≡ c = cc in
        let (fits, text) = parsed_lines.only n (device_at p) line r q in
        record { since = []; asked = r; rest = lines; split = ap (λ (x : List ℕ). x ∷ lines) text; made = refl; is = is; fits_fields = fits }
    -- a request by name makes an add
    go (Ok (Line.Named id r)) q [] h below =
        let same : calls.Add id r ∷ calls_from_lem n (run queue_limit p (calls.Add id r ∷ [])) lines ≡ c ∷ after = h in
        let is : calls.Add id r ≡ c = cc in
        absurd (subst NotAdd (sym is) other)
    go (Ok (Line.Named id r)) q (x ∷ xs) h below =
        let same : calls.Add id r ∷ calls_from_lem n (run queue_limit p (calls.Add id r ∷ [])) lines ≡ x ∷ (xs ++ c ∷ after) = h in
        let first : calls.Add id r ≡ x = cc in
        let rest : calls_from_lem n (run queue_limit p (calls.Add id r ∷ [])) lines ≡ xs ++ c ∷ after = cc in
        more_lines n p line lines xs (x ∷ []) c (rw q (cc)) (below (run queue_limit p (x ∷ [])) xs after (rw first at rest))
    go (Ok (Line.Record r)) q (x ∷ xs) h below =
        let same : call_of r ∷ calls_from_lem n (run queue_limit p (call_of r ∷ [])) lines ≡ x ∷ (xs ++ c ∷ after) = h in
        let first : call_of r ≡ x = cc in
        let rest : calls_from_lem n (run queue_limit p (call_of r ∷ [])) lines ≡ xs ++ c ∷ after = cc in
        more_lines n p line lines xs (x ∷ []) c (rw q (cc)) (below (run queue_limit p (x ∷ [])) xs after (rw first at rest))

-- ---- requests that lines can add

-- a call that a line makes: the numbers of an add fit their fields, and turns at once have no line
abbrev pub CallFits : Call → Type 0
CallFits (calls.Open o) = Unit {0}
CallFits (calls.Add id r) = AddFits id r
CallFits (calls.Drop id) = Unit {0}
CallFits (calls.Turn room) = Unit {0}
CallFits (calls.Turns n room places) = ⊥

call_fits : (r : Record) → Fits r → CallFits (call_of r)
unfolding call_of
call_fits (Open given) h = tt
call_fits (Add id r) h = h
call_fits (Drop id) h = tt
call_fits Turn h = tt

-- a line makes no other call
line_fits : (n : NameLists) (d : Device) (line : List ℕ) (p : Parsed) → parse_line_with n d line ≡ p → All CallFits (calls_in p)
unfolding calls_in
line_fits n d line (Ok (Line.Record r)) e = cons (call_fits r (parsed_lines.fits n d line r e)) nil
line_fits n d line (Ok (Line.Named id r)) e = cons (parsed_lines.named_fits n d line id r e) nil
line_fits n d line (Err k) e = nil

pub calls_fit : (n : NameLists) (p : Plain) (lines : List (List ℕ)) → All CallFits (calls_from_lem n p lines)
unfolding calls_from_lem
calls_fit n p [] = nil
calls_fit n p (line ∷ lines) =
    all_append (line_fits n (device_at p) line (parse_line_with n (device_at p) line) refl) (calls_fit n (run queue_limit p (calls_at n p line)) lines)

opened_askable : (p : Plain) (x : Option Setup) → Askable (waiting p) → Askable (waiting (elim x [ None ↦ p | Some s ↦ opened s [] ]))
unfolding waiting
opened_askable p None h = h
opened_askable p (Some s) h = nil

change_askable : (p : Plain) (c : Call) → CallFits c → Askable (waiting p) → Askable (waiting (change p c))
unfolding change on_queue waiting turned taken passed
change_askable p (calls.Open o) f h = opened_askable p (setup_of o) h
change_askable not_open_lem (calls.Add id r) f h = h
change_askable not_open_lem (calls.Drop id) f h = h
change_askable not_open_lem (calls.Turn room) f h = h
change_askable p (calls.Turns n room places) f h = absurd f
change_askable (opened s q) (calls.Add id r) f h = all_append h (cons f nil)
change_askable (opened s q) (calls.Drop id) f h = all_removed id q h
change_askable (opened s q) (calls.Turn room) f h = all_turned (fits s) [] q h

step_askable : (p : Plain) (c : Call) → CallFits c → Askable (waiting p) → Askable (waiting (step queue_limit p c))
step_askable p c f h = go (refusal queue_limit p c) refl
  where
    go : (x : Option Refusal) → refusal queue_limit p c ≡ x → Askable (waiting (step queue_limit p c))
    go None e = rw (step_accepted queue_limit p c e) (change_askable p c f h)
    go (Some x) e = rw (step_refused queue_limit p c x e) h

run_askable : (p : Plain) {cs : List Call} → All CallFits cs → Askable (waiting p) → Askable (waiting (run queue_limit p cs))
unfolding run
run_askable p nil h = h
run_askable p (cons {a = c} f fs) h = run_askable (step queue_limit p c) fs (step_askable p c f h)

pub askable_after : (n : NameLists) (lines : List (List ℕ)) → Askable (waiting (queue_after (calls_by n lines)))
unfolding waiting
askable_after n lines = run_askable not_open_lem (calls_fit n not_open_lem lines) nil
