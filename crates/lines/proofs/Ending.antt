-- The reply to the end of the input: a line that has begun is answered as one that is closed and too long, which has the same field at fault, and
-- otherwise there is nothing.
use Rattle.std.specs.Prelude.{Err}
use mathlib.Core.Bool.{true, false}
use mathlib.Core.List.{List, [], ◌∷◌}
use mathlib.Core.Path.{◌≡◌, refl, ◌∙◌}
use Prim.Native.Nat.{ℕ, ◌≤◌}
use native.Mathlib.Omega.{arith}
use lib.ListN.{length, take, replicate, length-replicate}
use Rattle.requests.specs.Choice.{both}
use Rattle.requests.specs.Refusals.{answer_for}
use Rattle.requests.specs.declared.Refusal.TheVariants.{NotInGrammar}
use Rattle.grammar.specs.Parse.{parsed_refusal}
use Rattle.grammar.specs.Text.{newline}
use Rattle.names.specs.Lists.{NameLists, row_texts, is_ended, all_formed, well_formed, lists_formed}
use Rattle.parser.proofs.LongLines.{long_lines, as_too_long}
use Rattle.answers.specs.Replies.{Reply, answer_text, parsed_reply}
use Rattle.answers.specs.ReplyLength.{reply_room}
use Rattle.responder.specs.Written.{in_array, at_start}
use Rattle.answers.proofs.Lengths.{answer_length}
use Rattle.answers.proofs.Zeros.{drop_zeros}
use Rattle.lines.specs.Blocks.{taken_of, taken_from, fed_of, fed_out}
use Rattle.streams.specs.Stream.{line_start, line_reply_lem, unfinished, no_names, unclosed, fault_at, end_text, end_reply}
use Rattle.streams.specs.declared.Feed.{Feed}
use Rattle.lines.specs.declared.Fed.{Fed}
use Rattle.streams.proofs.LineByLine.{newline_state, newline_text}
use Rattle.lines.proofs.Taking.{taken_newline}

-- the state where the line is longer than what is kept of it
abbrev pub longer : Feed → Feed
longer f = record { session = f.session; kept = f.kept; used = f.used; long = true }

-- the array that the reply goes into
abbrev zeros : List ℕ
zeros = replicate reply_room 0

-- with that room a newline is taken
newline_taken : (n : NameLists) (f : Feed) → taken_of n (length zeros) f (newline ∷ []) ≡ 1
unfolding taken_of
newline_taken n f = taken_newline n (length zeros) f [] (omega (arith, length-replicate {A = ℕ} reply_room 0))

-- no list is a well-formed one
none_formed : lists_formed no_names ≡ true
unfolding lists_formed well_formed is_ended row_texts all_formed both
none_formed = refl

module _ (f : Feed) where
  -- the text at the end
  abbrev last : List ℕ
  last = answer_text (Err NotInGrammar) (fault_at (unclosed f))

  -- the line as one that is closed and too long: its reply ..
  longer_reply : ◌≡◌ {A = Reply} (line_reply_lem no_names (longer f)) (record { text = last; session = f.session })
  unfolding line_reply_lem unclosed fault_at parsed_reply parsed_refusal answer_for
  longer_reply =
      let t = take f.used f.kept in
      let d = f.session.setup.device in
      let (k, at_fault) = long_lines.unclosed t f.long in
      rw (as_too_long no_names d none_formed t f.long, at_fault no_names d)

  -- .. and what a newline leaves of it
  longer_fed : fed_of no_names (longer f) (newline ∷ []) (length zeros) ≡ record { feed = line_start f.session; taken = 1; written = length last }
  unfolding fed_of taken_from
  longer_fed = rw (newline_taken no_names (longer f), newline_state no_names (longer f), newline_text no_names (longer f), longer_reply)

  longer_out : fed_out no_names (longer f) (newline ∷ []) zeros ≡ at_start last zeros
  unfolding fed_out taken_from
  longer_out = rw (newline_taken no_names (longer f), newline_text no_names (longer f), longer_reply)

  -- the reply to the end where a line has begun
  pub ended_begun : unfinished f ≡ true → {fed : Fed} {text : List ℕ}
      → fed ≡ fed_of no_names (longer f) (newline ∷ []) (length zeros) → text ≡ fed_out no_names (longer f) (newline ∷ []) zeros
      → record { text = text; length = fed.written; session = fed.feed.session } ≡ in_array (end_reply f)
  unfolding in_array at_start end_reply end_text line_start reply_room
  ended_begun e a b =
      let short : length last ≤ reply_room = omega (arith, answer_length (Err NotInGrammar) (fault_at (unclosed f))) in
      rw (a ∙ longer_fed, b ∙ longer_out, e, end_text, drop_zeros (length last) reply_room short)

-- and where none has
pub ended_none : (f : Feed) → unfinished f ≡ false → in_array (end_reply f) ≡ record { text = zeros; length = 0; session = f.session }
unfolding in_array end_reply end_text reply_room
ended_none f e = rw (e, end_text)
