-- A line too long is no record, whatever its first 80 bytes are. Assumes nothing.
use Rattle.std.specs.Prelude.{Ok, Err}
use mathlib.Core.Path.{◌≡◌, refl, ap, ◌∙◌}
use mathlib.Core.Logic.{◌≢◌}
use mathlib.Core.Bool.{Bool, true}
use mathlib.Core.List.{List, [], ◌∷◌, ◌++◌}
use Prim.Native.Nat.{ℕ, ◌<◌}
use native.Mathlib.Omega.{arith}
use lib.Dec.{ltb}
use lib.ListN.{length, take}
use borrow.Author.Tests.{lt-ltb}
use Rattle.requests.specs.declared.Device.{Device}
use Rattle.requests.specs.declared.Device.TheVariants.{G}
use Rattle.requests.specs.declared.Refusal.TheVariants.{NotInGrammar}
use Rattle.requests.specs.Refusals.{answer_for}
use Rattle.sessions.specs.declared.Session.{Session}
use Rattle.grammar.specs.Text.{newline}
use Rattle.grammar.specs.Parse.{longest, too_long_lem, parsed_refusal}
use Rattle.grammar.specs.Parsed.{Parsed}
use Rattle.names.specs.Lists.{NameLists}
use Rattle.parser.specs.ParseWith.{parse_text_with, parse_line_with}
use Rattle.answers.specs.Replies.{Reply, answer_text, parsed_reply, answer_line}
use Rattle.streams.specs.Stream.{line_start, no_names, fault_at}
use Rattle.streams.specs.LongLines.{LongLines}
use Rattle.streams.proofs.LineByLine.{parsed, line_by_line}

too_long : (p : Parsed) (n : ℕ) → (k : ℕ) × (too_long_lem p n ≡ Err k)
unfolding too_long_lem
too_long (Ok asked) n = (n, refl)
too_long (Err k) n = (k, refl)

long_text : (n : NameLists) (d : Device) (t : List ℕ) (closed : Bool) → (k : ℕ) × (parse_text_with n d t closed true ≡ Err k)
unfolding parse_text_with
long_text n d t closed = too_long _ _

-- a line over 80 bytes is at fault
long_line : (n : NameLists) (d : Device) (text : List ℕ) → 80 < length text → (k : ℕ) × (parse_line_with n d (text ++ newline ∷ []) ≡ Err k)
unfolding longest
long_line n d text long =
    let over : ltb longest (length text) ≡ true = lt-ltb longest (length text) long in
    let f = long_text n d (take longest text) true in
    (f.0, parsed text n d ∙ ap (parse_text_with n d (take longest text) true) over ∙ f.1)

fault_reply : (s : Session) (k : ℕ) → parsed_reply s (Err k) ≡ record { text = answer_text (Err NotInGrammar) k; session = s }
unfolding parsed_reply parsed_refusal answer_for
fault_reply s k = refl

-- so its reply is 1, and leaves the session as it was
long_reply : (n : NameLists) (s : Session) (text : List ℕ) → 80 < length text
    → (k : ℕ) × (answer_line n s (text ++ newline ∷ []) ≡ record { text = answer_text (Err NotInGrammar) k; session = s })
unfolding answer_line
long_reply n s text long = let f = long_line n s.setup.device text long in (f.0, ap (parsed_reply s) f.1 ∙ fault_reply s f.0)

not_empty : (text : List ℕ) → 80 < length text → text ≢ []
not_empty text long is = omega (arith, long, ap length is)

pub long_lines : LongLines
long_lines n s text free long =
    let answered = line_by_line n s text free in
    let f = long_reply n s text long in
    record {
      silent = answered.silent;
      closed = (f.0, answered.reply ∙ ap (λ (r : Reply). r.text) f.1);
      next = answered.next ∙ ap (λ (r : Reply). line_start r.session) f.1;
      ended = (fault_at (parse_line_with no_names G text), answered.ended (not_empty text long) no_names G);
    }
