use mathlib.Core.Path.{◌≡◌, ◌∙◌}
use mathlib.Core.Bool.{true, false}
use Rattle.sessions.specs.Sessions.{queue_limit, queued, refused_by}
use Rattle.sessions.proofs.TableAnswers.{plain_closed, plain_opened, add_closed, add_bad_id, drop_closed, drop_bad_id}
use Rattle.planner.proofs.ids.bad_id_refusal.Goals as goal

pub returns-then-not-opened : goal.returns-then-not-opened
unfolding refused_by
returns-then-not-opened c s same id outside =
    let closed : s.opened ≡ false = same ∙ c.if-not-opened.true in
    (λ r. rw (plain_closed s closed) (add_closed queue_limit id r), rw (plain_closed s closed) (drop_closed queue_limit id))

pub returns : goal.returns
unfolding refused_by
returns c s same id outside =
    let opened : s.opened ≡ true = same ∙ c.if-not-opened.false in (
      λ r. rw (plain_opened s opened) (add_bad_id queue_limit s.setup (queued s) id r outside),
      rw (plain_opened s opened) (drop_bad_id queue_limit s.setup (queued s) id outside),
    )
