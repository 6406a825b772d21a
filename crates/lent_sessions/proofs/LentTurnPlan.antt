-- Demand 2 of every accepted turn of a lent session, by what is known of a turn with any limit. Assumes nothing.
use Rattle.std.specs.Prelude.{None}
use mathlib.Core.Path.{◌≡◌, ap, sym, ◌∙◌}
use mathlib.Core.List.{List}
use Prim.Native.Nat.{ℕ}
use lib.ListN.{length}
use Rattle.requests.specs.declared.Entry.{Entry}
use Rattle.requests.proofs.AnswerTests.{answer_none}
use Rattle.layouts.specs.Writes.{filled}
use Rattle.sessions.specs.Turns.{taken, places_of, assign, writes_of}
use Rattle.sessions.specs.Calls.{Turn, Plain, opened}
use Rattle.sessions.specs.Table.{refusal}
use Rattle.sessions.specs.Plain.{on_queue, change, step}
use Rattle.sessions.proofs.Steps.{step_accepted}
use Rattle.sessions.proofs.TurnPlan.{turn_done}
use Rattle.lent_sessions.specs.Records.{standing}
use Rattle.lent_sessions.specs.Lent.{plain_with, lent_refusal}
use Rattle.lent_sessions.specs.Histories.{next_session, lent_answer, since, kept}
use Rattle.lent_sessions.specs.LentTurnPlan.{lent_result, LentTurnPlan}
use Rattle.lent_sessions.proofs.RowRules.{row_rules}
use Rattle.lent_sessions.proofs.LentCalls.{with_opened, refused_as, answer_by, next_is}
use Rattle.lent_sessions.proofs.LentUnchanged.{turn_plan_is, turn_count_is, turn_slice_is}
use Rattle.lent_sessions.proofs.LentHistories.{sound_rows_lem}

pub lent_turn_plan : LentTurnPlan
unfolding lent_answer next_session change on_queue
lent_turn_plan s rows o k slice answer =
    let n : ℕ = length rows in
    let room : ℕ = length slice in
    let q : List Entry = k.queue in
    let same : standing rows ≡ q = sym (row_rules.stands s.setup rows k) in
    let plain : plain_with s rows ≡ opened s.setup q = with_opened s rows o.is_open ∙ ap (opened s.setup) same in
    let row : lent_refusal s rows (Turn room) ≡ None = answer_none (lent_refusal s rows (Turn room)) (sym (answer_by (s, rows) (Turn room)) ∙ answer) in
    let accepted : refusal n (opened s.setup q) (Turn room) ≡ None =
    ap (λ (p : Plain). refusal n p (Turn room)) (sym plain) ∙ sym (refused_as s rows (since o.is_open k) (Turn room)) ∙ row in
    turn_done n s.setup q slice (lent_result s rows slice) (sound_rows_lem s rows o k) accepted
    (turn_plan_is s rows room row ∙ ap (λ (l : List Entry). assign (taken s.setup l) (places_of s.setup (taken s.setup l))) same)
    (turn_count_is s rows room row ∙ ap (λ (l : List Entry). length (writes_of s.setup (taken s.setup l))) same)
    (turn_slice_is s rows slice row ∙ ap (λ (l : List Entry). filled (writes_of s.setup (taken s.setup l)) slice) same)
    (next_is s rows (kept o k) (Turn room) ∙ ap (λ (p : Plain). step n p (Turn room)) plain ∙ step_accepted n (opened s.setup q) (Turn room) accepted)
