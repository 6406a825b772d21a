use mathlib.Core.Path.{◌≡◌, ap, ◌∙◌}
use mathlib.Core.List.{List}
use Prim.Native.Nat.{ℕ}
use native.Mathlib.Omega.{arith}
use lib.ListN.{length, get_or}
use Rattle.requests.specs.Devices.{capacity}
use Rattle.layouts.specs.Layout.{tabulate}
use Rattle.layouts.specs.Read.{ours}
use Rattle.registers.proofs.Accepting.{looked}
use Rattle.std.proofs.Common.{rules, tests}
use Rattle.registers.proofs.Ranges.{made}
use Rattle.registers.proofs.accept.looked_at.Goals as goal
use Rattle.registers.proofs.accept.looked_at.Goals.{After-from_fn}

listed : (c : After-from_fn) → c.from_fn.result ≡ tabulate capacity (ours c.args.setup c.args.values.now)
unfolding ours capacity
listed c =
    let a = c.args in
    made _ (ours a.setup a.values.now) _ (λ i y q k. search (rules, tests)) c.from_fn.result 0 capacity c.from_fn.ensures.items

pub returns-clause-listed : goal.returns-clause-listed
returns-clause-listed c = listed c

pub returns-clause-by_counter : goal.returns-clause-by_counter
unfolding capacity
returns-clause-by_counter c =
    let a = c.args in
    let whole : length a.values.now.control ≡ capacity = omega arith in
    ap (λ (l : List ℕ). λ (k : ℕ). get_or l k 0) (listed c) ∙ looked a.setup a.values.now whole
