use Rattle.std.proofs.Common.{◌≡◌, length, arith, rules, sym, ◌∙◌}
use borrow.Author.Tests.{le-ltb}
use Rattle.requests.proofs.Windows.{length_mapped}
use Rattle.lent_planner.proofs.IdBits.{left_past}
use Rattle.lent_planner.proofs.rules.Ids.contains.Goals as goal

pub returns-else-word-lt-WORDS : goal.returns-else-word-lt-WORDS
returns-else-word-lt-WORDS c =
    let words = c.args.self.now.words in
    let length-1024 : length words ≡ 1024 = search (length_mapped, rules) in
    le-ltb _ _ c.if-word-lt-WORDS.false ∙ sym (left_past words c.args.id (omega arith))
