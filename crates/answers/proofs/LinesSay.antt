-- What the replies to lines say: a line is answered as its record, in the session that the calls before leave, which stands for their plain queue.
-- Assumes nothing.
use Rattle.std.proofs.lemmas.Option.{none-some}
use Rattle.std.specs.Prelude.{Option, None, Some, Err}
use mathlib.Core.Path.{◌≡◌, refl, ap, sym, subst, ◌∙◌}
use mathlib.Core.Logic.{◌≢◌}
use mathlib.Core.List.{List, [], ◌∷◌}
use mathlib.Core.Bool.{Bool, true, false}
use Prim.Native.Nat.{ℕ, ◌≤◌}
use native.Mathlib.Omega.{arith}
use Rattle.requests.specs.declared.CounterSet.{CounterSet}
use Rattle.requests.specs.declared.Setup.{Setup}
use Rattle.requests.specs.declared.Entry.{Entry}
use Rattle.requests.specs.declared.Refusal.{Refusal}
use Rattle.requests.specs.declared.Refusal.TheVariants.{NotInGrammar, CallOrder, KindNotOnDevice, NotListed}
use Rattle.requests.specs.Devices.{letter_of}
use Rattle.requests.specs.declared.Fault.{Fault}
use Rattle.requests.specs.declared.Request.{Request}
use Rattle.requests.specs.Choice.{first_holding}
use Rattle.requests.specs.Refusals.{number_of}
use Rattle.requests.specs.Faults.{at, refusal_in}
use Rattle.sessions.specs.declared.Session.{Session}
use Rattle.sessions.specs.Turns.{taken, places_of}
use Rattle.sessions.specs.Calls.{Plain, not_open_lem, opened, waiting}
use Rattle.sessions.specs.Calls as calls
use Rattle.sessions.specs.Table.{refusal}
use Rattle.sessions.specs.FaultTable.{fault_table, fault}
use Rattle.sessions.specs.RefusalTable.{IsId, Waits}
use Rattle.sessions.specs.Sessions.{queue_limit, queued, plain_of, queue_after}
use Rattle.sessions.proofs.Agreed.{stands_for}
use Rattle.sessions.proofs.FaultRows.{fault_rows}
use Rattle.sessions.proofs.TakenPlan.{taken_first}
use Rattle.grammar.specs.Records.{record_text, Fits}
use Rattle.grammar.specs.declared.Record.{Record}
use Rattle.grammar.specs.declared.Record.TheVariants.{Open, Add, Drop, Turn}
use Rattle.names.specs.Lists.{NameLists}
use Rattle.names.specs.Named.{request_named}
use Rattle.parser.specs.NamedText.{IsNamed}
use Rattle.names.specs.RowGrammar.{AreLists}
use Rattle.names.specs.RowsFound.{NoRow}
use Rattle.names.specs.declared.Row.{Row}
use Rattle.parser.proofs.ParsedLines.{parsed_lines}
use Rattle.answers.specs.Replies.{Reply, turn_room, record_reply, named_reply, parsed_reply, answer_line}
use Rattle.answers.specs.Reader.{Answers, reply_says}
use Rattle.answers.specs.LinesAreCalls.{call_of, fault_text, fault_said, by_name_lem, fault_of, Askable}
use Rattle.answers.specs.LineLists.{device_at, calls_by, session_by, reply_after}
use Rattle.answers.specs.NamedLines.{RowOfName, RefusedWith, NamedLines}
use Rattle.answers.specs.LinesSay.{TurnTold, LinesSay}
use Rattle.answers.proofs.NamedLines.{names_answered}
use Rattle.answers.proofs.ReadLines.{answer_reads, named_reads}
use Rattle.answers.proofs.FaultTexts.{fault_small}
use Rattle.answers.proofs.SliceFits.{turn_goes}
use Rattle.answers.proofs.TurnsSaid.{closed_says, opened_says}
use Rattle.answers.proofs.LinesAreCalls.{lines_are_calls}
use Rattle.answers.proofs.LinesAnswered.{lines_answered}
use Rattle.answers.proofs.LineLists.{line_reply, session_by_lem, stands_after, askable_after}

-- without a refusal there is no fault
no_fault : (x : Option Fault) → refusal_in x ≡ None → x ≡ None
unfolding refusal_in
no_fault None e = refl
no_fault (Some f) e = absurd (none-some f.refusal (sym e))

no_refusal : (f : Fault) → refusal_in (Some f) ≡ None → ⊥
unfolding refusal_in
no_refusal f e = none-some f.refusal (sym e)

-- a session that stands for an open queue
opened_now : (s : Session) (t : Setup) (q : List Entry) → plain_of s ≡ opened t q → (s.opened ≡ true) × (s.setup ≡ t) × (queued s ≡ q)
unfolding plain_of
opened_now s t q e = go s.opened refl
  where
    go : (b : Bool) → s.opened ≡ b → (b ≡ true) × (s.setup ≡ t) × (queued s ≡ q)
    go true h = (refl, (stands_for s t q e).0, (stands_for s t q e).1)
    go false h = let k : not_open_lem ≡ opened t q = rw (h, plain_of) at e in let z : ◌≡◌ {A = ℕ} 0 1 = cc in absurd (omega arith)

module _ (n : NameLists) (start : Session) (closed : start.opened ≡ false) (lines : List (List ℕ)) where
  -- the session and the plain queue there
  here : Session
  here = session_by n start lines

  queue : Plain
  queue = queue_after (calls_by n lines)

  stands : plain_of here ≡ queue
  unfolding here queue
  stands = stands_after n start closed lines

  -- a record's text is answered as the record
  reply_is : (r : Record) → Fits r → reply_after n start lines (record_text r) ≡ (record_reply here r).text
  unfolding here reply_after
  reply_is r h = ap (λ (x : Reply). x.text) (lines_answered.record_line n (session_by n start lines) (record_text r) r (h, refl))

  -- and an open, add or drop as the table says
  answer_alone : (r : Record) → Fits r → r ≢ Turn → (x : Option Fault) → fault queue_limit queue (call_of r) ≡ x
      → reply_says (reply_after n start lines (record_text r)) ≡ Some (Answers (fault_said x) ∷ [])
  answer_alone r h other x e = rw (reply_is r h, ← e, ← stands) (lines_are_calls.alone here r other)

  -- a turn is refused before open alone
  turn_refused_lem : (f : Fault) → fault queue_limit queue (calls.Turn turn_room) ≡ Some f
      → reply_says (reply_after n start lines (record_text Turn)) ≡ Some (Answers (Some (number_of f.refusal, f.field)) ∷ [])
  unfolding fault_table first_holding fault
  turn_refused_lem f e = go queue refl
    where
      go : (p : Plain) → queue ≡ p → reply_says (reply_after n start lines (record_text Turn)) ≡ Some (Answers (Some (number_of f.refusal, f.field)) ∷ [])
      go not_open_lem is =
          let row : Some (at CallOrder 0) ≡ Some f = rw is at e in
          let same : at CallOrder 0 ≡ f = cc in
          rw (reply_is Turn tt, ← same) (closed_says here (stands ∙ is))
      go (opened t q) is =
          let number : refusal_in (Some f) ≡ None = ap refusal_in (sym e) ∙ fault_rows.numbers queue_limit queue (calls.Turn turn_room) ∙ rw is (turn_goes t q) in
          absurd (no_refusal f number)

  record_refused : (r : Record) → Fits r → (f : Fault) → fault queue_limit queue (call_of r) ≡ Some f
      → reply_says (reply_after n start lines (record_text r)) ≡ Some (Answers (Some (number_of f.refusal, f.field)) ∷ [])
  unfolding fault_said call_of
  record_refused (Open given) h f e = answer_alone (Open given) h (λ e. let z : ◌≡◌ {A = ℕ} 0 1 = cc in omega arith) (Some f) e
  record_refused (Add id r) h f e = answer_alone (Add id r) h (λ e. let z : ◌≡◌ {A = ℕ} 0 1 = cc in omega arith) (Some f) e
  record_refused (Drop id) h f e = answer_alone (Drop id) h (λ e. let z : ◌≡◌ {A = ℕ} 0 1 = cc in omega arith) (Some f) e
  record_refused Turn h f e = turn_refused_lem f e

  record_accepted : (r : Record) → Fits r → r ≢ Turn → refusal queue_limit queue (call_of r) ≡ None
      → reply_says (reply_after n start lines (record_text r)) ≡ Some (Answers None ∷ [])
  unfolding fault_said
  record_accepted r h other e = answer_alone r h other None (no_fault (fault queue_limit queue (call_of r)) (fault_rows.numbers queue_limit queue (call_of r) ∙ e))

  turn_told : (s : Setup) (q : List Entry) → queue ≡ opened s q → TurnTold s q (reply_after n start lines (record_text Turn))
  unfolding queue waiting
  turn_told s q is =
      record {
        places = places_of s (taken s q);
        first = taken_first s q;
        says = rw (reply_is Turn tt) (opened_says here s q (stands ∙ is) (subst (λ (p : Plain). Askable (waiting p)) is (askable_after n lines)));
      }

  -- a request by name is answered as the add that it stands for, at the field of its own line
  named_said : (line : List ℕ) (id : ℕ) (name : List ℕ) (a : CounterSet) → IsNamed line id name a → AreLists n
      → reply_says (reply_after n start lines line) ≡ Some (Answers (fault_said (by_name_lem (fault queue_limit queue (calls.Add id (request_named n name (device_at queue) a))))) ∷ [])
  unfolding here queue reply_after parsed_reply
  named_said line id name a is l =
      let there = stands_after n start closed lines in
      let s = session_by n start lines in
      let d = device_at (queue_after (calls_by n lines)) in
      let r : Request = request_named n name d a in
      let by_name : answer_line n s line ≡ named_reply s id r = line_reply n s _ line there ∙ ap (parsed_reply s) (parsed_lines.named_line_lem n d line id name a is l) in
      let text : (answer_line n s line).text ≡ fault_text (by_name_lem (fault_of s (calls.Add id r))) = ap (λ (x : Reply). x.text) by_name ∙ lines_are_calls.named_answer s id r in
      rw text (named_reads (fault_of s (calls.Add id r)) (fault_small s (calls.Add id r))).says
      ∙ ap (λ (p : Plain). Some (Answers (fault_said (by_name_lem (fault queue_limit p (calls.Add id r)))) ∷ [])) there

  -- and with the number and the field alone where it is refused
  named_refused : (line : List ℕ) (x : Refusal) (k : ℕ) → k ≤ 7 → RefusedWith n here line x k
      → reply_says (reply_after n start lines line) ≡ Some (Answers (Some (number_of x, k)) ∷ [])
  unfolding here reply_after
  named_refused line x k small refused = rw refused.0 (answer_reads (Err x) k small).says

  module _ (line : List ℕ) (id : ℕ) (name : List ℕ) (a : CounterSet) (is : IsNamed line id name a) where
    by_name : NamedLines n here line id name a
    by_name = names_answered.named n here line id name a is

    refused_list : ¬ AreLists n → reply_says (reply_after n start lines line) ≡ Some (Answers (Some (1, 0)) ∷ [])
    unfolding number_of
    refused_list l = named_refused line NotInGrammar 0 (omega arith) (by_name.ill_formed l)

    module _ (s : Setup) (q : List Entry) (there : queue ≡ opened s q) (l : AreLists n) (good : IsId id) (free : ¬ Waits id q) where
      standing : (here.opened ≡ true) × (here.setup ≡ s) × (queued here ≡ q)
      standing = opened_now here s q (stands ∙ there)

      not_waiting : ¬ Waits id (queued here)
      not_waiting w = free (subst (Waits id) standing.2 w)

      refused_missing : NoRow name n.site → NoRow name n.house → reply_says (reply_after n start lines line) ≡ Some (Answers (Some (8, 2)) ∷ [])
      unfolding number_of
      refused_missing site house = named_refused line NotListed 2 (omega arith) (by_name.missing l standing.0 good not_waiting site house)

      refused_elsewhere : (row : Row) → RowOfName n name row → ¬ (letter_of row.device ≡ letter_of s.device)
          → reply_says (reply_after n start lines line) ≡ Some (Answers (Some (7, 0)) ∷ [])
      unfolding number_of
      refused_elsewhere row f other =
          named_refused line KindNotOnDevice 0 (omega arith) (by_name.elsewhere l standing.0 good not_waiting row f
          (λ e. other (e ∙ ap (λ (x : Setup). letter_of x.device) standing.1)))

pub lines_say_lem : LinesSay
unfolding queue
lines_say_lem n start closed lines =
    record {
      session = session_by_lem n start closed lines;
      refused = record_refused n start closed lines;
      accepted = record_accepted n start closed lines;
      turn = turn_told n start closed lines;
      named = named_said n start closed lines;
      ill_formed = refused_list n start closed lines;
      missing = λ s q there line id name a is l good free. refused_missing n start closed lines line id name a is s q there l good free;
      elsewhere = λ s q there line id name a is l good free. refused_elsewhere n start closed lines line id name a is s q there l good free;
    }
