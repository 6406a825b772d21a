-- The table of a lent session with fields is its refusal table with the field of each refusal, and the field is the leftmost: by the table of the plain
-- queue, and the rules of the records. Assumes nothing.
use Rattle.std.proofs.lemmas.Option.{same_Some}
use Rattle.std.specs.Prelude.{Some}
use mathlib.Core.Path.{◌≡◌, refl, ap, sym, subst, ◌∙◌}
use mathlib.Core.Bool.{Bool, true, false, not}
use mathlib.Core.List.{List}
use mathlib.Mathlib.Data.Bool.Basic.{eq-false_of_not-eq-true}
use Prim.Native.Nat.{ℕ, ◌<◌}
use native.Mathlib.Omega.{arith}
use lib.ListN.{length}
use borrow.Author.Tests.{not-true, not-false}
use Rattle.requests.specs.declared.Opening.{Opening}
use Rattle.requests.specs.declared.Entry.{Entry}
use Rattle.requests.specs.declared.Refusal.{Refusal}
use Rattle.requests.specs.declared.Refusal.TheVariants.{CallOrder, BadOpening}
use Rattle.requests.specs.declared.Fault.{Fault}
use Rattle.requests.specs.declared.Fields.{Fields}
use Rattle.requests.specs.Choice.{pick}
use Rattle.requests.specs.Faults.{at, refusal_in, opening_fields, request_fields, turns_fields, no_fields, field_of, with_field}
use Rattle.requests.proofs.Tests.{both_ways}
use Rattle.requests.proofs.FaultRows.{field_dropped}
use Rattle.sessions.specs.Calls.{Call, Open, Add, Drop, Turn, Turns}
use Rattle.sessions.specs.Table.{refusal}
use Rattle.sessions.specs.FaultTable.{fault, fields_of, On}
use Rattle.sessions.specs.FaultRows.{AppliesAt}
use Rattle.sessions.proofs.FaultRows.{fault_rows}
use Rattle.lent_sessions.specs.Records.{is_count}
use Rattle.lent_sessions.specs.RowRules.{IsCount, SoundRows}
use Rattle.lent_sessions.specs.Lent.{plain_with, out_of_order_lem, bad_rows, lent_refusal}
use Rattle.lent_sessions.specs.LentFaultTable.{lent_fault_table, lent_fault, lent_opening_fields, lent_fields_of}
use Rattle.lent_sessions.specs.LentFaults.{Later, LentAppliesAt, bad_number, broken_rows, of_table, LentFaults}
use Rattle.lent_sessions.specs.declared.LentSession.{LentSession}
use Rattle.lent_sessions.proofs.RowRules.{row_rules}
use Rattle.lent_sessions.proofs.LentCalls.{with_closed, with_opened, first_row, later_row, order_first, rows_next, table_last, plain_order}

module _ (s : LentSession) (rows : List Entry) where
  -- ---- the rows

  order_fault : (c : Call) → out_of_order_lem s c ≡ true → lent_fault s rows c ≡ Some (at CallOrder 0)
  unfolding lent_fault lent_fault_table
  order_fault c h = first_row (out_of_order_lem s c) (at CallOrder 0) _ h

  rows_fault : (c : Call) → out_of_order_lem s c ≡ false → bad_rows s.setup rows c ≡ true → lent_fault s rows c ≡ Some (at BadOpening 0)
  unfolding lent_fault lent_fault_table
  rows_fault c h b = later_row (out_of_order_lem s c) (at CallOrder 0) _ h ∙ first_row (bad_rows s.setup rows c) (at BadOpening 0) _ b

  table_fault : (c : Call) → out_of_order_lem s c ≡ false → bad_rows s.setup rows c ≡ false → lent_fault s rows c ≡ fault (length rows) (plain_with s rows) c
  unfolding lent_fault lent_fault_table fault
  table_fault c h b = later_row (out_of_order_lem s c) (at CallOrder 0) _ h ∙ later_row (bad_rows s.setup rows c) (at BadOpening 0) _ b

  -- ---- the fields

  -- the device of the plain queue
  on_device_lem : On (plain_with s rows) s.setup.device
  unfolding On
  on_device_lem = go s.opened refl
    where
      go : (b : Bool) → s.opened ≡ b → On (plain_with s rows) s.setup.device
      go true h = rw (with_opened s rows h) refl
      go false h = rw (with_closed s rows h) tt

  plain_fields : (c : Call) → fault (length rows) (plain_with s rows) c ≡ with_field (fields_of s.setup.device c) (refusal (length rows) (plain_with s rows) c)
  plain_fields c = fault_rows.fields (length rows) (plain_with s rows) c s.setup.device on_device_lem

  -- with fine records the fields are those of the plain queue
  fields_same : (c : Call) → bad_rows s.setup rows c ≡ false → lent_fields_of s.setup.device (length rows) c ≡ fields_of s.setup.device c
  unfolding bad_rows lent_fields_of lent_opening_fields fields_of
  fields_same (Open o) b = ap (λ (x : Bool). pick x (opening_fields o) no_fields) (not-false (is_count (length rows)) b)
  fields_same (Add id r) b = refl
  fields_same (Drop id) b = refl
  fields_same (Turn room) b = refl
  fields_same (Turns n room places) b = refl

  -- with others 3 is at 0
  rows_field : (c : Call) → bad_rows s.setup rows c ≡ true → field_of BadOpening (lent_fields_of s.setup.device (length rows) c) ≡ 0
  unfolding bad_rows lent_fields_of lent_opening_fields field_of request_fields turns_fields no_fields
  rows_field (Open o) b = ap (λ (x : Bool). (pick x (opening_fields o) no_fields).opening) (not-true (is_count (length rows)) b)
  rows_field (Add id r) b = refl
  rows_field (Drop id) b = refl
  rows_field (Turn room) b = refl
  rows_field (Turns n room places) b = refl

  fields_told : (c : Call) → lent_fault s rows c ≡ with_field (lent_fields_of s.setup.device (length rows) c) (lent_refusal s rows c)
  unfolding with_field field_of
  fields_told c = go (out_of_order_lem s c) refl (bad_rows s.setup rows c) refl
    where
      go : (x : Bool) → out_of_order_lem s c ≡ x → (y : Bool) → bad_rows s.setup rows c ≡ y
          → lent_fault s rows c ≡ with_field (lent_fields_of s.setup.device (length rows) c) (lent_refusal s rows c)
      go true h y b = order_fault c h ∙ ap (with_field (lent_fields_of s.setup.device (length rows) c)) (sym (order_first s rows c h))
      go false h true b =
          rows_fault c h b
          ∙ ap (λ (k : ℕ). Some (at BadOpening k)) (sym (rows_field c b))
          ∙ ap (with_field (lent_fields_of s.setup.device (length rows) c)) (sym (rows_next s rows c h b))
      go false h false b =
          table_fault c h b ∙ plain_fields c
          ∙ ap (λ (f : Fields). with_field f (refusal (length rows) (plain_with s rows) c)) (sym (fields_same c b))
          ∙ ap (with_field (lent_fields_of s.setup.device (length rows) c)) (sym (table_last s rows c h b))

  -- ---- the leftmost

  -- what the test of the records says
  bad_applies : (c : Call) → bad_rows s.setup rows c ≡ true → LentAppliesAt s rows c BadOpening 0
  unfolding bad_rows
  bad_applies (Open o) b = bad_number (λ n. both_ways (row_rules.counts (length rows) n) (not-true _ b))
  bad_applies (Add id r) b = broken_rows tt (λ k. both_ways (row_rules.holds s.setup rows k) (not-true _ b))
  bad_applies (Drop id) b = broken_rows tt (λ k. both_ways (row_rules.holds s.setup rows k) (not-true _ b))
  bad_applies (Turn room) b = broken_rows tt (λ k. both_ways (row_rules.holds s.setup rows k) (not-true _ b))
  bad_applies (Turns n room places) b = broken_rows tt (λ k. both_ways (row_rules.holds s.setup rows k) (not-true _ b))

  fine_number : (o : Opening) → bad_rows s.setup rows (Open o) ≡ false → IsCount (length rows)
  unfolding bad_rows
  fine_number o b = row_rules.count (length rows) (not-false _ b)

  fine_rows : (c : Call) → Later c → bad_rows s.setup rows c ≡ false → SoundRows s.setup rows
  unfolding bad_rows
  fine_rows (Open o) l b = absurd l
  fine_rows (Add id r) l b = row_rules.sound s.setup rows (not-false _ b)
  fine_rows (Drop id) l b = row_rules.sound s.setup rows (not-false _ b)
  fine_rows (Turn room) l b = row_rules.sound s.setup rows (not-false _ b)
  fine_rows (Turns n room places) l b = row_rules.sound s.setup rows (not-false _ b)

  plain_left : (c : Call) (x : Refusal) (j : ℕ) → bad_rows s.setup rows c ≡ false → ((k : ℕ) → k < j → ¬ AppliesAt (length rows) (plain_with s rows) c x k)
      → (k : ℕ) → k < j → ¬ LentAppliesAt s rows c x k
  plain_left c x j b left k l (bad_number {o = o} n) = n (fine_number o b)
  plain_left c x j b left k l (broken_rows later n) = n (fine_rows c later b)
  plain_left c x j b left k l (of_table h) = left k l h

  -- 2 is a row of the plain queue's table
  order_applies : (c : Call) → out_of_order_lem s c ≡ true → LentAppliesAt s rows c CallOrder 0
  unfolding with_field field_of
  order_applies c h =
      of_table (fault_rows.applies (length rows) (plain_with s rows) c (at CallOrder 0)
      (plain_fields c ∙ ap (with_field (fields_of s.setup.device c)) (plain_order (length rows) s rows c h)))

  record Leftmost (c : Call) (f : Fault) : Type 0 where
    applies : LentAppliesAt s rows c f.refusal f.field
    first : (k : ℕ) → k < f.field → ¬ LentAppliesAt s rows c f.refusal k

  at_verb : (c : Call) (x : Refusal) → LentAppliesAt s rows c x 0 → Leftmost c (at x 0)
  at_verb c x h = record { applies = h; first = λ k l a. absurd (omega arith) }

  found : (c : Call) (g f : Fault) → Some g ≡ Some f → Leftmost c g → Leftmost c f
  found c g f e l = subst (Leftmost c) (same_Some g f e) l

  lent_leftmost : (c : Call) (f : Fault) → lent_fault s rows c ≡ Some f → Leftmost c f
  lent_leftmost c f e = go (out_of_order_lem s c) refl (bad_rows s.setup rows c) refl
    where
      go : (x : Bool) → out_of_order_lem s c ≡ x → (y : Bool) → bad_rows s.setup rows c ≡ y → Leftmost c f
      go true h y b = found c (at CallOrder 0) f (sym (order_fault c h) ∙ e) (at_verb c CallOrder (order_applies c h))
      go false h true b = found c (at BadOpening 0) f (sym (rows_fault c h b) ∙ e) (at_verb c BadOpening (bad_applies c b))
      go false h false b =
          let plain = sym (table_fault c h b) ∙ e in
          record {
            applies = of_table (fault_rows.applies (length rows) (plain_with s rows) c f plain);
            first = plain_left c f.refusal f.field b (fault_rows.leftmost (length rows) (plain_with s rows) c f plain);
          }

  -- ---- 3 for the records

  number_first : (o : Opening) → s.opened ≡ false → ¬ IsCount (length rows) → lent_fault s rows (Open o) ≡ Some (at BadOpening 0)
  unfolding out_of_order_lem bad_rows
  number_first o h n = rows_fault (Open o) h (ap not (eq-false_of_not-eq-true (λ t. n (row_rules.count (length rows) t))))

  in_order : (c : Call) → Later c → s.opened ≡ true → out_of_order_lem s c ≡ false
  unfolding out_of_order_lem
  in_order (Open o) l h = absurd l
  in_order (Add id r) l h = ap not h
  in_order (Drop id) l h = ap not h
  in_order (Turn room) l h = ap not h
  in_order (Turns n room places) l h = ap not h

  rows_first : (c : Call) → s.opened ≡ true → Later c → ¬ SoundRows s.setup rows → lent_fault s rows c ≡ Some (at BadOpening 0)
  rows_first c h l n = rows_fault c (in_order c l h) (go (bad_rows s.setup rows c) refl)
    where
      go : (y : Bool) → bad_rows s.setup rows c ≡ y → bad_rows s.setup rows c ≡ true
      go true b = b
      go false b = absurd (n (fine_rows c l b))

pub lent_faults : LentFaults
lent_faults =
    record {
      numbers = λ s rows c. ap refusal_in (fields_told s rows c) ∙ field_dropped (lent_fields_of s.setup.device (length rows) c) (lent_refusal s rows c);
      applies = λ s rows c f e. (lent_leftmost s rows c f e).applies;
      leftmost = λ s rows c f e. (lent_leftmost s rows c f e).first;
      bad_number = number_first;
      broken_rows = rows_first;
      fields = fields_told;
    }
