-- A request by name is refused as the table says of the request that it stands for, or answered as the event in numbers. Assumes nothing.
use Rattle.std.proofs.lemmas.Option.{none-some}
use Rattle.std.specs.Prelude.{Option, None, Some, Ok, Err}
use mathlib.Core.Path.{◌≡◌, refl, ap, sym, ◌∙◌}
use mathlib.Core.Logic.{◌⊎◌, inl, inr, ⊎_elim}
use mathlib.Core.Bool.{true, false, false≢true}
use mathlib.Mathlib.Data.Bool.Basic.{eq-false_of_not-eq-true}
use mathlib.Core.List.{List, [], ◌∷◌, ◌++◌}
use Prim.Native.Nat.{ℕ}
use Rattle.requests.specs.Choice as choice
use Rattle.requests.specs.Choice.{first_holding}
use Rattle.requests.specs.Refusals.{answer_for}
use Rattle.requests.specs.Faults.{request_fields, field_of, answer_field}
use Rattle.requests.specs.declared.Fields.{Fields}
use Rattle.requests.specs.Checks.{request_rows, request_refusal}
use Rattle.requests.specs.declared.CounterSet.{CounterSet}
use Rattle.requests.specs.declared.Refusal.{Refusal}
use Rattle.requests.specs.declared.Refusal.TheVariants.{NotInGrammar, CallOrder, BadId, IdWaiting, KindNotOnDevice, NotListed}
use Rattle.requests.specs.declared.Request.{Request}
use Rattle.requests.specs.declared.Request.TheVariants.{Event}
use Rattle.requests.proofs.FirstHolding.{holds, skips}
use Rattle.sessions.specs.declared.Session.{Session}
use Rattle.sessions.specs.Calls.{Plain, not_open_lem, opened, waits}
use Rattle.sessions.specs.Calls as calls
use Rattle.sessions.specs.Table.{outside_ids, add_rows, once_open, table, refusal}
use Rattle.sessions.specs.RefusalTable.{IsId, Waits}
use Rattle.sessions.specs.Sessions.{queue_limit, queued, plain_of, refused_by, answered, add_of}
use Rattle.sessions.proofs.Conditions.{id_test, waits_test}
use Rattle.sessions.proofs.TableAnswers.{plain_closed, plain_opened, add_closed}
use Rattle.grammar.specs.Fields.{field_at}
use Rattle.grammar.specs.Parse.{parse_line, parsed_refusal}
use Rattle.grammar.proofs.GrammarHolds.{grammar}
use Rattle.grammar.proofs.Outcomes.{fault_not_line}
use Rattle.grammar.proofs.Settled.{Settled, asks, faulty, line_is}
use Rattle.grammar.specs.Grammar.{IsText}
use Rattle.grammar.specs.declared.Record.TheVariants.{Add}
use Rattle.grammar.specs.Parsed.{Parsed}
use Rattle.grammar.specs.declared.Line.{Line}
use Rattle.names.specs.Lists.{NameLists}
use Rattle.names.specs.LookUp.{row_named}
use Rattle.names.specs.Named.{request_named, named_field}
use Rattle.names.specs.NamedRequests.{Finds}
use Rattle.names.specs.Rows.{row_of, is_formed}
use Rattle.names.specs.RowGrammar.{AreLists}
use Rattle.names.specs.RowsFound.{NoRow, FoundIn}
use Rattle.names.specs.declared.Row.{Row}
use Rattle.names.proofs.GrammarHolds.{row_grammar, list_grammar}
use Rattle.names.proofs.Requesting.{named_requests}
use Rattle.names.proofs.RowsFound.{rows_found}
use Rattle.parser.specs.NamedText.{IsNamed, Outside}
use Rattle.parser.specs.ParseWith.{parse_line_with}
use Rattle.parser.proofs.ParsedLines.{parsed_lines}
use Rattle.answers.specs.Replies.{Reply, answer_text, reply_at, reply_of, record_reply, named_reply, parsed_reply, answer_line}
use Rattle.answers.specs.NamedLines.{RowOfName, RefusedWith, AsEvent, NamedLines, NamesAnswered}

-- a row that holds, before others
first_before : {A : Type 0} (rows more : List (choice.Row A)) (x : A) → first_holding rows ≡ Some x → first_holding (rows ++ more) ≡ Some x
unfolding first_holding
first_before [] more x e = absurd (none-some x e)
first_before ((true, a) ∷ rows) more x e = e
first_before ((false, a) ∷ rows) more x e = first_before rows more x e

-- ---- an add that the table refuses

add_refused : (s : Session) (id : ℕ) (r : Request) (x : Refusal) → refusal queue_limit (plain_of s) (calls.Add id r) ≡ Some x
    → named_reply s id r ≡ record { text = answer_text (Err x) (named_field (field_of x (request_fields s.setup.device r))); session = s }
unfolding named_reply reply_at add_of answered refused_by answer_for answer_field
add_refused s id r x e = rw e

-- the rows of an open queue, from the first on
module _ (s : Session) (id : ℕ) (r : Request) (open-now : s.opened ≡ true) where
  rows : refusal queue_limit (plain_of s) (calls.Add id r) ≡ first_holding (add_rows queue_limit s.setup (queued s) id r)
  unfolding refusal table once_open
  rows = rw (plain_opened s open-now)

  refused_id : ¬ IsId id → refusal queue_limit (plain_of s) (calls.Add id r) ≡ Some BadId
  unfolding add_rows
  refused_id h = rows ∙ holds _ _ ((id_test id).1 h)

  module _ (good : IsId id) where
    id_passed : outside_ids id ≡ false
    id_passed = eq-false_of_not-eq-true (λ e. (id_test id).0 e good)

    refused_waiting : Waits id (queued s) → refusal queue_limit (plain_of s) (calls.Add id r) ≡ Some IdWaiting
    unfolding add_rows
    refused_waiting w = rows ∙ skips _ _ id_passed ∙ holds _ _ ((waits_test id (queued s)).1 w)

    refused_request : ¬ Waits id (queued s) → (x : Refusal) → request_refusal s.setup r ≡ Some x → refusal queue_limit (plain_of s) (calls.Add id r) ≡ Some x
    unfolding add_rows request_refusal
    refused_request free x e =
        rows ∙ skips _ _ id_passed ∙ skips _ _ (eq-false_of_not-eq-true (λ h. free ((waits_test id (queued s)).0 h)))
        ∙ first_before (request_rows s.setup r) _ x e

-- ---- the row of a name

module _ (n : NameLists) (name : List ℕ) (l : AreLists n) where
  -- a row that is found in the order's words is the one that the look-up finds
  finds : (row : Row) → RowOfName n name row → Finds n name row
  finds row f =
      record {
        text = f.text;
        at = rows_found.finds n name f.text (list_grammar.formed n.site l.0) (list_grammar.formed n.house l.1) f.found;
        says = (row_grammar.formed (record { name = name; row = row }) f.text f.fits f.says).0;
      }

  -- what the look-up finds is a row in the order's words
  row_found : (text : List ℕ) (x : Option Row) → row_of text ≡ x → is_formed x ≡ true → FoundIn n name text → (row : Row) × RowOfName n name row
  row_found text None e h f = absurd (false≢true h)
  row_found text (Some row) e h f =
      let named : field_at text 0 ≡ name = ⊎_elim (λ t. t.named) (λ t. t.1.named) f in
      let only = row_grammar.only text row e in
      (row, record { text = text; found = f; fits = rw named at only.0; says = rw named at only.1 })

  settled : (NoRow name n.site × NoRow name n.house) ⊎ ((row : Row) × RowOfName n name row)
  settled = go (row_named n name) refl
    where
      go : (o : Option (List ℕ)) → row_named n name ≡ o → (NoRow name n.site × NoRow name n.house) ⊎ ((row : Row) × RowOfName n name row)
      go None p = inl (rows_found.missing n name (list_grammar.formed n.site l.0) (list_grammar.formed n.house l.1) p)
      go (Some text) p = inr (row_found text (row_of text) refl (rows_found.shows n name text p) (rows_found.found n name text p))

-- ---- the line

module _ (n : NameLists) (s : Session) (line : List ℕ) (id : ℕ) (name : List ℕ) (a : CounterSet) (is : IsNamed line id name a) where
  request : Request
  request = request_named n name s.setup.device a

  -- the reply is that of the add
  line_adds : AreLists n → answer_line n s line ≡ named_reply s id request
  unfolding answer_line parsed_reply request
  line_adds l = rw (parsed_lines.named_line_lem n s.setup.device line id name a is l)

  -- at a field that does not hang on the request
  refused_with_lem : AreLists n → (x : Refusal) (k : ℕ) → ((f : Fields) → named_field (field_of x f) ≡ k) → refusal queue_limit (plain_of s) (calls.Add id request) ≡ Some x
      → RefusedWith n s line x k
  refused_with_lem l x k at e =
      let reply : answer_line n s line ≡ record { text = answer_text (Err x) k; session = s } =
      line_adds l ∙ rw (← at (request_fields s.setup.device request)) (add_refused s id request x e) in
      (ap (λ (y : Reply). y.text) reply, ap (λ (y : Reply). y.session) reply)

  -- the answer and the field of an event in numbers
  as_numbers : AreLists n → (r : Request) → request ≡ r → (numbers : List ℕ) → parse_line_with n s.setup.device numbers ≡ Ok (Line.Record (Add id r)) → AsEvent n s line numbers
  unfolding answer_line parsed_reply record_reply reply_of reply_at named_reply
  as_numbers l r same numbers e =
      let named = line_adds l in
      let in-numbers : answer_line n s numbers ≡ record_reply s (Add id r) = rw e in
      record {
        answer = (add_of s id r).answer;
        field = answer_field (add_of s id r).answer (request_fields s.setup.device r);
        numbers_text = ap (λ (y : Reply). y.text) in-numbers;
        text = ap (λ (y : Reply). y.text) named ∙ rw same;
        session = ap (λ (y : Reply). y.session) named ∙ rw same (sym (ap (λ (y : Reply). y.session) in-numbers));
      }

  named_line_lem : NamedLines n s line id name a
  unfolding request answer_line parsed_reply parsed_refusal answer_for field_of named_field
  named_line_lem =
      record {
        ill_formed = λ l.
            let reply : answer_line n s line ≡ record { text = answer_text (Err NotInGrammar) 0; session = s } =
            rw (parsed_lines.ill_formed n s.setup.device line id name a is l) in
            (ap (λ (y : Reply). y.text) reply, ap (λ (y : Reply). y.session) reply);
        not_open = λ l closed. refused_with_lem l CallOrder 0 (λ f. refl) (rw (plain_closed s closed) (add_closed queue_limit id request));
        bad_id = λ l open-now bad. refused_with_lem l BadId 1 (λ f. refl) (refused_id s id request open-now bad);
        waiting = λ l open-now good w. refused_with_lem l IdWaiting 1 (λ f. refl) (refused_waiting s id request open-now good w);
        missing = λ l open-now good free site house.
            refused_with_lem l NotListed 2 (λ f. refl) (refused_request s id request open-now good free NotListed
            (named_requests.missing n name s.setup a (rows_found.absent n name site house)));
        elsewhere = λ l open-now good free row f other.
            refused_with_lem l KindNotOnDevice 0 (λ f. refl) (refused_request s id request open-now good free KindNotOnDevice
            (named_requests.elsewhere n name row s.setup a (finds n name l row f) other));
        as_numbers = λ l row f here.
            as_numbers l (Event row.code row.mask a) (named_requests.found n name row s.setup.device a (finds n name l row f) here) _
            (parsed_lines.typed n s.setup.device line id name a row is (finds n name l row f) here).1;
      }

-- ---- every other line

others : (n m : NameLists) (s : Session) (line : List ℕ) → ((id : ℕ) (name : List ℕ) (a : CounterSet) → ¬ IsNamed line id name a) → answer_line n s line ≡ answer_line m s line
unfolding answer_line
others n m s line unnamed = go (line_is line) refl
  where
    go : {p : Parsed} → Settled p → parse_line line ≡ p → parsed_reply s (parse_line_with n s.setup.device line) ≡ parsed_reply s (parse_line_with m s.setup.device line)
    go (asks r) e =
        let is : IsText line r = grammar.only line r e in
        rw (parsed_lines.record_line n s.setup.device line r is, parsed_lines.record_line m s.setup.device line r is)
    go (faulty k l) e =
        let out : Outside line = record { no_record = λ r is. fault_not_line k r (sym e ∙ grammar.parsed line r is); no_name = unnamed } in
        let at_fault = parsed_lines.other line out in
        rw (at_fault.1 n s.setup.device, at_fault.1 m s.setup.device)

pub names_answered : NamesAnswered
names_answered = record { settled = settled; named = named_line_lem; others = others }
