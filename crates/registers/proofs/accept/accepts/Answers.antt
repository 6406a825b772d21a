use mathlib.Core.Path.{◌≡◌, refl, ◌∙◌}
use Prim.Native.Nat.{ℕ}
use lib.ListN.{get_or}
use Rattle.registers.proofs.ReaderSteps.{holding, failing, to_global, to_filters, to_ubox, accepts_words}
use Rattle.registers.proofs.accept.accepts.Goals as goal
use Rattle.registers.proofs.accept.accepts.Goals.{Joined-filters_fit, then-controls_fit, else-controls_fit, then-values-last_global, else-values-last_global, then-filters_fit, else-filters_fit}

tests_to_ubox : (c : Joined-filters_fit) → c.if-filters_fit.value ≡ to_ubox c.args.setup c.args.values.now (λ k. get_or c.looked_at-words.result k 0)
tests_to_ubox c =
    let a = c.args in
    let f = λ (k : ℕ). get_or c.looked_at-words.result k 0 in
    let fit = c.controls_fit.ensures in
    let global : c.if-controls_fit.value ≡ to_global a.setup a.values.now f = elim c.if-controls_fit.branch [
      | then-controls_fit w ↦ holding w.if-controls_fit.true fit (w.value-is ∙ rw (w.last_global.ensures, w.used_by.ensures))
      | else-controls_fit w ↦ failing _ w.if-controls_fit.false fit w.value-is
    ] in
    let filters : c.if-values-last_global.value ≡ to_filters a.setup a.values.now f = elim c.if-values-last_global.branch [
      | then-values-last_global w ↦ holding w.if-values-last_global.true global (w.value-is ∙ w.filters_fit.ensures)
      | else-values-last_global w ↦ failing _ w.if-values-last_global.false global w.value-is
    ] in
    elim c.if-filters_fit.branch [
      | then-filters_fit w ↦ holding w.if-filters_fit.true filters (w.value-is ∙ w.ubox_fits.ensures)
      | else-filters_fit w ↦ failing _ w.if-filters_fit.false filters w.value-is
    ]

pub returns-then-ubox_fits : goal.returns-then-ubox_fits
returns-then-ubox_fits c =
    let a = c.args in
    holding c.if-ubox_fits.true (tests_to_ubox (goal.at.returns-then-ubox_fits c).Joined-filters_fit) c.precise_fits.ensures
    ∙ accepts_words a.setup a.values.now _ c.looked_at-words.ensures.by_counter

pub returns-else-ubox_fits : goal.returns-else-ubox_fits
returns-else-ubox_fits c =
    let a = c.args in
    failing _ c.if-ubox_fits.false (tests_to_ubox (goal.at.returns-else-ubox_fits c).Joined-filters_fit) refl
    ∙ accepts_words a.setup a.values.now _ c.looked_at-words.ensures.by_counter
