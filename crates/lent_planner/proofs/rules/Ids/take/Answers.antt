use mathlib.Core.Path.{◌≡◌, ◌∙◌}
use Prim.Native.Nat.{ℕ, ◌*◌, ◌%◌, ◌^◌, ◌<◌}
use native.Mathlib.Nat.{one-mul}
use native.Mathlib.Omega.{arith}
use lib.Dec.{lit<}
use lib.ListN.{length}
use Rattle.std.proofs.Common.{rules}
use Rattle.requests.proofs.Windows.{length_mapped}
use lib.Pow.{shl_exact}
use Rattle.lent_planner.specs.Surveys.{is_left}
use Rattle.lent_planner.proofs.IdBits.{left_word, bit_le}
use Rattle.lent_planner.proofs.rules.Ids.take.Goals as goal

shift : (k : ℕ) → k < 64 → 1 * 2 ^ k % 2 ^ 64 ≡ 2 ^ k
shift k l = shl_exact 1 k 64 (lit< tt) (omega arith) ∙ one-mul (2 ^ k)

pub bounds-self-word : goal.bounds-self-word
bounds-self-word c =
    let words = c.args.self.now.words in
    let length-1024 : length words ≡ 1024 = search (length_mapped, rules) in
    let within = left_word words c.args.id c.requires in
    omega arith

pub overflow_sub-self : goal.overflow_sub-self
unfolding is_left
overflow_sub-self c = rw (shift (c.args.id % 64) (omega arith)) (bit_le (c.args.id % 64) _ c.requires)

pub bounds-self-word-2 : goal.bounds-self-word-2
bounds-self-word-2 c =
    let words = c.args.self.now.words in
    let length-1024 : length words ≡ 1024 = search (length_mapped, rules) in
    let within = left_word words c.args.id c.requires in
    omega arith
