-- An accepted drop leaves the entries of other ids: `DropsEvery`. Assumes nothing.
use Rattle.std.specs.Prelude.{None}
use mathlib.Core.Path.{◌≡◌, refl, sym, ap, subst, ◌∙◌}
use mathlib.Core.List.{List, [], ◌∷◌}
use mathlib.Core.Bool.{Bool, true, false, true≢false}
use Prim.Native.Nat.{ℕ}
use borrow.Author.Tests.{eqb-true, eq-eqb}
use lib.Dec.{eqb}
use Rattle.requests.specs.Choice.{pick}
use Rattle.requests.specs.declared.Entry.{Entry}
use Rattle.requests.proofs.AnswerTests.{answer_none}
use Rattle.sessions.specs.Calls.{Drop}
use Rattle.sessions.specs.Plain.{removed}
use Rattle.sessions.specs.Sessions.{queued, session_of, refused_by, next_session}
use Rattle.sessions.specs.DropsEvery.{Others, none, dropped, stays, entries_of, DropsEvery}
use Rattle.sessions.proofs.Agreed.{stored, answer_is, next_by}

others : (id : ℕ) (q : List Entry) → Others id q (removed id q)
unfolding removed
others id [] = none
others id (e ∷ q) = go (eqb id e.id) refl (others id q)
  where
    go : (b : Bool) → eqb id e.id ≡ b → Others id q (removed id q) → Others id (e ∷ q) (pick b (removed id q) (e ∷ removed id q))
    go true h rest = dropped (sym (eqb-true id e.id h)) rest
    go false h rest = stays (λ same. true≢false (sym (eq-eqb id e.id (sym same)) ∙ h)) rest

pub drops_every : DropsEvery
unfolding session_of queued
drops_every s id accepted =
    let h : refused_by s (Drop id) ≡ None = answer_none (refused_by s (Drop id)) (sym (answer_is s (Drop id)) ∙ accepted) in
    let next : next_session s (Drop id) ≡ session_of s.setup (removed id (queued s)) = next_by s (Drop id) ∙ rw h in
    let kept : entries_of (next_session s (Drop id)) ≡ removed id (queued s) = ap entries_of next ∙ stored (removed id (queued s)) in
    subst (Others id (entries_of s)) (sym kept) (others id (entries_of s))
