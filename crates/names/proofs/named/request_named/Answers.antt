use mathlib.Core.Path.{ap, ◌∙◌}
use Rattle.std.proofs.Common.{rules}
use Rattle.names.specs.Lists.{lists_of}
use Rattle.names.specs.LookUp.{row_named}
use Rattle.names.specs.Named.{request_for, request_named}
use Rattle.names.proofs.RowReading.{row_read}
use Rattle.names.proofs.named.request_named.Goals as goal

pub returns : goal.returns
unfolding request_named
returns c =
    let a = c.args in
    let found = row_named (lists_of a.lists.now) a.name.now in
    c.request_for.ensures
    ∙ ap (λ r. request_for r a.device a.allowed) (row_read c.row_named.result c.and_then-row.result found c.row_named.ensures c.and_then-row.ensures (λ x p. search rules))
