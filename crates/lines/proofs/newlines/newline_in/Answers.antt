use Rattle.std.proofs.Common.{◌≡◌, rules}
use Rattle.std.proofs.lemmas.Iterator.{IsFirst-from_position, YieldsList-from_slice}
use Rattle.grammar.specs.Text.{newline}
use Rattle.lines.proofs.Runs.{first_newline}
use Rattle.lines.proofs.newlines.newline_in.Goals as goal

pub returns : goal.returns
unfolding newline
returns c =
    first_newline c.args.block.now c.position.result
    (IsFirst-from_position _ _ c.position.result (λ b. b ≡ newline) (λ b. ¬ (b ≡ newline)) c.position.ensures.ran
    (YieldsList-from_slice c.args.block.now c.iter.ensures.rest) (λ x q k. search rules) (λ x q k. search rules))
