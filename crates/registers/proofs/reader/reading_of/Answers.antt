use mathlib.Core.Path.{ap, ◌∙◌}
use Prim.Native.Nat.{ℕ}
use lib.ListN.{get_or}
use Rattle.requests.specs.Choice.{pick}
use Rattle.requests.specs.Devices.{has, capacity}
use Rattle.layouts.specs.declared.CounterState.{CounterState}
use Rattle.layouts.specs.declared.CounterState.TheVariants.{NotOurs}
use Rattle.layouts.specs.Layout.{tabulate}
use Rattle.layouts.specs.Read.{tell, reading_of}
use Rattle.registers.proofs.Ranges.{made}
use Rattle.std.proofs.Common.{rules, tests}
use Rattle.registers.proofs.reader.reading_of.Goals as goal

pub returns : goal.returns
unfolding reading_of capacity
returns c =
    let a = c.args in
    let told : (ℕ → ℕ) → ℕ → CounterState = λ f k. pick (has a.setup.usable k) (tell a.setup a.values.now.filters (f k)) NotOurs in
    rw (made _ (told (λ k. get_or c.looked_at-words.result k 0)) _ (λ i y q k. search (rules, tests)) c.from_fn.result NotOurs capacity c.from_fn.ensures.items
    ∙ ap (λ (f : ℕ → ℕ). tabulate capacity (told f)) c.looked_at-words.ensures.by_counter)
