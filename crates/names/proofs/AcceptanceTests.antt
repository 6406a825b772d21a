-- The examples, by computation: every definition that they reach is unfolded.
use mathlib.Core.Path.{refl}
use mathlib.Core.List.{flat_map}
use Rattle.requests.specs.Choice.{both}
use Rattle.requests.specs.Devices.{letter_of, devices, named, device_of}
use Rattle.grammar.specs.Examples.{tabbed, typed}
use Rattle.grammar.specs.Fields.{fields, same_bytes_lem}
use Rattle.grammar.specs.Letters.{lettered}
use Rattle.grammar.specs.Numbers.{digit_of, number_from, hex_of}
use Rattle.grammar.specs.Text.{bytes, tab, newline}
use Rattle.names.specs.EventNames.{name_byte, name_bytes, longest_name, is_name}
use Rattle.names.specs.Lists.{row_texts, is_ended, all_formed, well_formed, lists_formed}
use Rattle.names.specs.LookUp.{top_row, row_named}
use Rattle.names.specs.Named.{named_field}
use Rattle.names.specs.Rows.{numbers_on, row_of, has_name}
use Rattle.names.specs.Examples.{FieldExamples, FindExamples, ListExamples, RowExamples}

pub rows_read : RowExamples
unfolding both letter_of devices named device_of tabbed fields lettered digit_of number_from hex_of bytes tab name_byte name_bytes longest_name is_name numbers_on row_of
rows_read = refl

pub lists_tested : ListExamples
unfolding flat_map both letter_of devices named device_of tabbed typed fields lettered digit_of number_from hex_of bytes tab newline name_byte name_bytes longest_name is_name row_texts is_ended all_formed well_formed numbers_on row_of
lists_tested = refl

pub names_find : FindExamples
unfolding flat_map both letter_of devices named device_of tabbed typed fields same_bytes_lem lettered digit_of number_from hex_of bytes tab newline name_byte name_bytes longest_name is_name row_texts is_ended all_formed well_formed lists_formed top_row row_named numbers_on row_of has_name
names_find = refl

pub fields_are : FieldExamples
unfolding named_field
fields_are = refl
