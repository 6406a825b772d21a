-- The stream answers each line as `answerLine` does: the bytes that it keeps of a line are those that are read of a line.
--     line-reply     the reply to bytes without a newline, once they are closed by one
use Rattle.std.specs.Prelude.{Err}
use mathlib.Core.Path.{◌≡◌, refl, ap, sym, subst, ◌∙◌}
use mathlib.Core.Logic.{◌≢◌}
use mathlib.Core.Bool.{true, false}
use mathlib.Core.List.{List, [], ◌∷◌, ◌++◌, append-nil, Memᴰ}
use Prim.Native.Nat.{ℕ, ◌+◌, ◌-◌, ◌≤◌, ◌<◌}
use native.Mathlib.Omega.{arith}
use native.Mathlib.Nat.{zero-add, le_refl}
use lib.Dec.{ltb}
use lib.ListN.{length, get_or, take, drop, replicate, length-append, length-take, length-replicate}
use lib.Seq.{take_all, take_at, get_or_at, sets, sets-eq}
use borrow.Author.Tests.{lt-ltb, eq-eqb, ne_eqb}
use Rattle.requests.specs.declared.Refusal.TheVariants.{NotInGrammar}
use Rattle.requests.specs.declared.Device.{Device}
use Rattle.requests.specs.Choice.{either}
use Rattle.requests.proofs.Tests.{either_true}
use Rattle.sessions.specs.declared.Session.{Session}
use Rattle.grammar.specs.Text.{newline}
use Rattle.grammar.specs.Parse.{longest, is_closed, text_length}
use Rattle.grammar.specs.Parsed.{Parsed}
use Rattle.parser.specs.ParseWith.{parse_text_with, parse_line_with}
use Rattle.parser.proofs.LongLines.{long_lines}
use Rattle.answers.specs.Replies.{Reply, answer_text, parsed_reply, answer_line}
use Rattle.names.specs.Lists.{NameLists}
use Rattle.streams.specs.Stream.{NewlineFree, line_start, line_reply_lem, byte_state, byte_text, feed_state, feed_text, unfinished, no_names, unclosed, fault_at, end_text}
use Rattle.streams.specs.LineByLine.{LineByLine}
use Rattle.streams.specs.declared.Feed.{Feed}
use Rattle.streams.proofs.Cut.{state_append, text_append}
use Rattle.streams.proofs.Kept.{after_run, kept_run, run_silent}

-- ---- what is kept of a line

-- bytes stored at the front are found there
pub front : (vs l : List ℕ) → length vs ≤ length l → take (0 + length vs) (sets l 0 vs) ≡ vs
front vs l h = rw (sets-eq vs l 0 (omega arith), zero-add (length vs)) (take_at vs (drop (length vs) l) (length vs) refl)

fitting_length : (text : List ℕ) → length (take longest text) ≤ length {A = ℕ} (replicate longest 0)
fitting_length text = rw (length-replicate {A = ℕ} longest 0) (omega (arith, length-take longest text))

module _ (s : Session) (text : List ℕ) where
  -- from the beginning of a line the first 80 bytes are kept
  kept_front : take (after_run (line_start s) text).used (after_run (line_start s) text).kept ≡ take longest text
  unfolding after_run line_start longest
  kept_front = front (take longest text) (replicate longest 0) (fitting_length text)

  kept_long : (after_run (line_start s) text).long ≡ ltb longest (length text)
  unfolding after_run line_start either longest
  kept_long = refl

  kept_session : (after_run (line_start s) text).session ≡ s
  unfolding after_run line_start
  kept_session = refl

-- so the reply is that to the first 80 bytes
module _ (n : NameLists) (s : Session) (text : List ℕ) where
  kept_reply : line_reply_lem n (after_run (line_start s) text) ≡ parsed_reply s (parse_text_with n s.setup.device (take longest text) true (ltb longest (length text)))
  unfolding line_reply_lem
  kept_reply = rw (kept_session s text, kept_front s text, kept_long s text)

  pub line_reply : NewlineFree text
      → line_reply_lem n (feed_state n (line_start s) text) ≡ parsed_reply s (parse_text_with n s.setup.device (take longest text) true (ltb longest (length text)))
  line_reply free = ap (line_reply_lem n) (kept_run n (line_start s) text free) ∙ kept_reply

-- ---- what is read of a line

module _ (text : List ℕ) where
  abbrev line : List ℕ
  line = text ++ newline ∷ []

  closed_length : length line - 1 ≡ length text
  closed_length = simp length-append (omega arith)

  closed : is_closed line ≡ true
  unfolding is_closed
  closed = rw (closed_length, get_or_at text newline [] 0 (length text) refl) (eq-eqb newline newline refl)

  text_length_lem : text_length line ≡ length text
  unfolding text_length
  text_length_lem = rw (closed, closed_length)

  pub parsed : (n : NameLists) (d : Device) → parse_line_with n d line ≡ parse_text_with n d (take longest text) true (ltb longest (length text))
  unfolding parse_line_with
  parsed n d = rw (closed, text_length_lem, take_at text (newline ∷ []) (length text) refl)

-- the last of bytes is one of them
last_member : (b : ℕ) (bs : List ℕ) → Memᴰ (get_or (b ∷ bs) (length bs) 0) (b ∷ bs)
last_member b [] = Memᴰ.head refl
last_member b (c ∷ cs) = Memᴰ.tail (last_member c cs)

-- bytes without a newline are not closed
pub not_closed : (text : List ℕ) → NewlineFree text → is_closed text ≡ false
unfolding is_closed newline
not_closed [] free = refl
not_closed (b ∷ bs) free =
    let size : length (b ∷ bs) - 1 ≡ length bs = omega arith in
    ne_eqb _ newline (λ e. free (subst (λ (n : ℕ). Memᴰ n (b ∷ bs)) (ap (λ (k : ℕ). get_or (b ∷ bs) k 0) (sym size) ∙ e) (last_member b bs)))

pub open_parsed : (text : List ℕ) → NewlineFree text → (n : NameLists) (d : Device)
    → parse_line_with n d text ≡ parse_text_with n d (take longest text) false (ltb longest (length text))
unfolding parse_line_with text_length
open_parsed text free n d = rw (not_closed text free, take_all (length text) text (le_refl (length text)))

-- its field is the same whatever the lists and the device
open_fault : (text : List ℕ) → NewlineFree text → (n m : NameLists) (d e : Device)
    → parse_text_with n d (take longest text) false (ltb longest (length text)) ≡ parse_line_with m e text
open_fault text free n m d e =
    let (k, f) = long_lines.unclosed (take longest text) (ltb longest (length text)) in
    f n d ∙ sym (open_parsed text free m e ∙ f m e)

-- ---- the line

module _ (n : NameLists) where
  pub newline_state : (f : Feed) → feed_state n f (newline ∷ []) ≡ line_start (line_reply_lem n f).session
  unfolding feed_state byte_state newline
  newline_state f = refl

  pub newline_text : (f : Feed) → feed_text n f (newline ∷ []) ≡ (line_reply_lem n f).text
  unfolding feed_text byte_text newline
  newline_text f = append-nil (line_reply_lem n f).text

-- at the beginning of a line there is none
nothing : (s : Session) → end_text (line_start s) ≡ []
unfolding end_text unfinished either line_start
nothing s = refl

some_length : (text : List ℕ) → text ≢ [] → 0 < length text
some_length [] some = absurd (some refl)
some_length (b ∷ bs) some = omega arith

module _ (n : NameLists) (s : Session) (text : List ℕ) (free : NewlineFree text) where
  -- the reply is that to the line
  answered : line_reply_lem n (feed_state n (line_start s) text) ≡ answer_line n s (text ++ newline ∷ [])
  unfolding answer_line
  answered = line_reply n s text free ∙ ap (parsed_reply s) (sym (parsed text n s.setup.device))

  reply : feed_text n (line_start s) (text ++ newline ∷ []) ≡ (answer_line n s (text ++ newline ∷ [])).text
  reply =
      text_append n (line_start s) text (newline ∷ [])
      ∙ rw (run_silent n (line_start s) text free)
      (newline_text n (feed_state n (line_start s) text) ∙ ap (λ (r : Reply). r.text) answered)

  next : feed_state n (line_start s) (text ++ newline ∷ []) ≡ line_start (answer_line n s (text ++ newline ∷ [])).session
  next =
      state_append n (line_start s) text (newline ∷ [])
      ∙ newline_state n (feed_state n (line_start s) text)
      ∙ ap (λ (r : Reply). line_start r.session) answered

  begun : text ≢ [] → 0 < (after_run (line_start s) text).used
  unfolding after_run line_start longest
  begun some = omega (arith, some_length text some, length-take 80 text)

  kept_open : unclosed (after_run (line_start s) text) ≡ parse_text_with no_names s.setup.device (take longest text) false (ltb longest (length text))
  unfolding unclosed
  kept_open = rw (kept_session s text, kept_front s text, kept_long s text)

  ended : text ≢ [] → (m : NameLists) (d : Device) → end_text (feed_state n (line_start s) text) ≡ answer_text (Err NotInGrammar) (fault_at (parse_line_with m d text))
  unfolding end_text unfinished
  ended some m d =
      rw (kept_run n (line_start s) text free, lt-ltb 0 (after_run (line_start s) text).used (begun some), either_true (after_run (line_start s) text).long)
      (ap (λ (p : Parsed). answer_text (Err NotInGrammar) (fault_at p)) (kept_open ∙ open_fault text free no_names m s.setup.device d))

pub line_by_line : LineByLine
line_by_line n s text free =
    record {
      reply = reply n s text free;
      next = next n s text free;
      silent = run_silent n (line_start s) text free;
      ended = ended n s text free;
      empty = nothing s;
    }
