-- A line is answered as the record whose text it is, and with 1 where it is neither that nor a request by name, by the laws on the grammar.
use mathlib.Core.Path.{ap}
use Rattle.requests.specs.Refusals.{number_of, answer_for}
use Rattle.grammar.specs.Text.{bytes, decimal_digits, decimal_text}
use Rattle.grammar.specs.Parse.{parsed_refusal}
use Rattle.parser.proofs.ParsedLines.{parsed_lines}
use Rattle.answers.specs.Replies.{Reply, answer_text, parsed_reply, answer_line}
use Rattle.answers.specs.LinesAnswered.{LinesAnswered}

pub lines_answered : LinesAnswered
unfolding answer_line parsed_reply answer_text number_of answer_for parsed_refusal decimal_text decimal_digits bytes
lines_answered =
    record {
      record_line = λ n s line r h. ap (parsed_reply s) (parsed_lines.record_line n s.setup.device line r h);
      other = λ line h.
          let (k, at_fault) = parsed_lines.other line h in (
            k,
            at_fault,
            λ n s.
                let f = ap (parsed_reply s) (at_fault n s.setup.device) in
                (ap (λ (x : Reply). x.text) f, ap (λ (x : Reply). x.session) f),
          );
    }
