use mathlib.Core.Path.{sym, ◌∙◌}
use lib.ListN.{get_or}
use Rattle.requests.specs.Choice.{both}
use Rattle.registers.proofs.ReaderSteps.{filters_g, filters_s}
use Rattle.registers.proofs.accept.filters_fit.Goals as goal

pub returns-then-rsp1_fits : goal.returns-then-rsp1_fits
unfolding both
returns-then-rsp1_fits c =
    let a = c.args in
    let n0 = rw c.rsp_word.ensures at c.count_of.ensures in
    let n1 = rw c.rsp_word-in-G.ensures at c.count_of-in-G.ensures in
    rw (← filters_g (λ k. get_or a.words.now k 0) a.filters.now a.setup.device a.setup _ _ c.in-G.is n0 n1, sym c.rsp1_fits.ensures ∙ c.if-rsp1_fits.true)
    c.rsp0_fits.ensures

pub returns-else-rsp1_fits : goal.returns-else-rsp1_fits
unfolding both
returns-else-rsp1_fits c =
    let a = c.args in
    let n0 = rw c.rsp_word.ensures at c.count_of.ensures in
    let n1 = rw c.rsp_word-in-G.ensures at c.count_of-in-G.ensures in
    rw (← filters_g (λ k. get_or a.words.now k 0) a.filters.now a.setup.device a.setup _ _ c.in-G.is n0 n1, sym c.rsp1_fits.ensures ∙ c.if-rsp1_fits.false) c.if-rsp1_fits.false

pub returns-in-S : goal.returns-in-S
returns-in-S c =
    let a = c.args in
    let n = rw c.packet_word.ensures at c.count_of-counters.ensures in
    c.packets_fit.ensures ∙ filters_s (λ k. get_or a.words.now k 0) a.filters.now a.setup.device a.setup _ c.in-S.is n
