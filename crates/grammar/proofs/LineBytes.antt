-- The bytes between and behind fields, and those of every word and digit, by computation. Assumes nothing.
use mathlib.Core.Path.{refl}
use Rattle.grammar.specs.Text.{bytes, tab, newline, hex_digit, hex_text, decimal_digits, decimal_text, line_of}
use Rattle.grammar.specs.Fields.{fields, same_bytes_lem}
use Rattle.grammar.specs.Numbers.{digit_of, core_number_of}
use Rattle.grammar.specs.Parse.{longest}
use Rattle.grammar.specs.Records.{add_fields, core_text, open_fields, record_fields, record_text}
use Rattle.grammar.specs.LineBytes.{word_bytes, digit_bytes, LineBytes}

pub line_bytes : LineBytes
unfolding tab newline line_of fields longest bytes hex_digit hex_text decimal_digits decimal_text same_bytes_lem digit_of core_number_of add_fields core_text open_fields record_fields record_text word_bytes digit_bytes
line_bytes = record {
  closed = λ f. refl;
  parted = λ f g more. refl;
  begins = λ text. refl;
  eighty = refl;
  spelt = refl;
  opens = λ s. refl;
  event = λ id c m a. refl;
  packet = λ id x y a. refl;
  offcore = λ id w a. refl;
  latency = λ id t a b. refl;
  drop = λ id. refl;
  turn = refl;
  no_core = refl;
  no_core_read = refl;
  digits = refl;
  digits_read = refl;
  hex = refl;
  decimal = refl;
}
