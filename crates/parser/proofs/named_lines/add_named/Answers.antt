use mathlib.Core.Path.{sym, ◌∙◌}
use Rattle.parser.proofs.VerbsRead.{add_formed, add_refused}
use Rattle.parser.proofs.named_lines.add_named.Goals as goal

pub returns-then-lists_formed : goal.returns-then-lists_formed
returns-then-lists_formed c = rw (add_formed _ _ _ _ _ (sym c.lists_formed.ensures ∙ c.if-lists_formed.true), ← c.request_named-request.ensures)

pub returns : goal.returns
returns c = sym (add_refused _ _ _ _ _ (sym c.lists_formed.ensures ∙ c.if-lists_formed.false))
