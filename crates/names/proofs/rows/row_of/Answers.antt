use mathlib.Core.Path.{ap, sym, ◌∙◌}
use Rattle.names.specs.EventNames.{is_name}
use Rattle.names.proofs.RowReading.{row_fields, row_nameless, row_deviceless, row_numbers}
use Rattle.names.proofs.rows.row_of.Goals as goal

pub returns-then-fields-ne-ROW_FIELDS : goal.returns-then-fields-ne-ROW_FIELDS
returns-then-fields-ne-ROW_FIELDS c =
    rw (← c.of-fields.ensures) (sym (row_fields _ (λ e. c.if-fields-ne-ROW_FIELDS.true (c.of-fields.result.parted.counted ∙ e))))

pub returns-then-not-is_name : goal.returns-then-not-is_name
returns-then-not-is_name c =
    let nameless = sym (ap is_name c.field.ensures) ∙ sym c.is_name.ensures ∙ c.if-not-is_name.true in
    rw (← c.of-fields.ensures) (sym (row_nameless _ (sym c.of-fields.result.parted.counted ∙ c.if-fields-ne-ROW_FIELDS.false) nameless))

pub returns-in_err-device : goal.returns-in_err-device
returns-in_err-device c =
    let named = sym (ap is_name c.field.ensures) ∙ sym c.is_name.ensures ∙ c.if-not-is_name.false in
    let four = sym c.of-fields.result.parted.counted ∙ c.if-fields-ne-ROW_FIELDS.false in
    rw (c.from_residual.ensures, ← c.of-fields.ensures) (sym (row_deviceless _ four named (sym c.device_at.ensures ∙ c.in_err-device.was)))

pub returns : goal.returns
returns c =
    let named = sym (ap is_name c.field.ensures) ∙ sym c.is_name.ensures ∙ c.if-not-is_name.false in
    let four = sym c.of-fields.result.parted.counted ∙ c.if-fields-ne-ROW_FIELDS.false in
    rw (← c.of-fields.ensures) (c.numbers_on.ensures ∙ sym (row_numbers _ four named _ (sym c.device_at.ensures ∙ c.in_ok-device.was)))
