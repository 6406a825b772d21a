-- Pieces of a line as the code meets them: found byte by byte, kept byte by byte, and parsed at once where they are a whole line.
use mathlib.Core.Bool.{Bool, true, false, true≢false}
use mathlib.Core.List.Memᴰ
use mathlib.Core.List.{List, ◌∷◌}
use mathlib.Core.Logic.{⊎_elim}
use mathlib.Core.Path.{◌≡◌, sym, ap, ◌∙◌}
use Prim.Native.Nat.{ℕ, zero, suc, ◌+◌, ◌-◌, ◌≤◌, ◌<◌, min}
use native.Mathlib.Nat.{add-zero, sub-zero}
use native.Mathlib.Numerals.{add-one}
use native.Mathlib.Omega.{arith}
use native.Mathlib.Decide.{dec_le, dec_lt}
use borrow.Author.Tests.{lt-ltb, ltb-false, le-ltb}
use lib.Dec.{ltb}
use lib.ListN.{length, get_or, take, drop, set, length-take}
use lib.Seq.{sets, drop-cons, take-suc, take-length, length-take-le}
use Rattle.sessions.specs.declared.Session.{Session}
use Rattle.requests.specs.declared.Device.{Device}
use Rattle.requests.specs.Choice.{either, pick}
use Rattle.requests.proofs.Tests.{either_true, either_parts}
use Rattle.requests.proofs.Windows.{take_min}
use Rattle.std.specs.Prelude.{Option, None, Some, MatchOption, is_some}
use Rattle.std.specs.List.{AllWithin, HoldsAt}
use Rattle.grammar.specs.Text.{newline}
use Rattle.grammar.specs.Parse.{longest}
use Rattle.parser.specs.ParseWith.{parse_text_with}
use Rattle.grammar.specs.Parsed.{Parsed}
use Rattle.answers.specs.Replies.{parsed_reply}
use Rattle.names.specs.Lists.{NameLists}
use Rattle.lines.specs.Pieces.{kept_line, state_of, FirstNewline, KeptOn, EndedLine}
use Rattle.streams.specs.Stream.{NewlineFree, keep_byte, line_reply_lem, feed_state}
use Rattle.lines.specs.declared.Extent.{Extent}
use Rattle.streams.specs.declared.Feed.{Feed}
use Rattle.responder.specs.Texts.{Put}
use Rattle.streams.proofs.Kept.{head_free, tail_free, not_ending, keep_fitting, after_run, kept_run}
use Rattle.streams.proofs.LineByLine.{front}

-- a block without a newline up to a place that has none either
pub free_next : (block : List ℕ) (at : ℕ) → at < length block → NewlineFree (take at block) → ¬ (get_or block at 0 ≡ newline) → NewlineFree (take (at + 1) block)
free_next block at inside free other =
    rw (add-one, take-suc block at 0 inside) (λ m.
    ⊎_elim free (λ last. other (sym (Memᴰ.eq_of_singleton last))) (Memᴰ.append_cases (take at block) m))

module _ (n : NameLists) where
  -- a run leaves the session
  pub run_session : (f : Feed) (bs : List ℕ) → NewlineFree bs → (feed_state n f bs).session ≡ f.session
  unfolding after_run
  run_session f bs free = rw (kept_run n f bs free)

  -- the reply to a line is the reply to what its kept bytes are
  pub ended_reply : (f : Feed) (bs : List ℕ) → NewlineFree bs → line_reply_lem n (feed_state n f bs) ≡ parsed_reply f.session (kept_line n (feed_state n f bs))
  unfolding line_reply_lem kept_line
  ended_reply f bs free = rw (run_session f bs free)

  -- the first byte of a run is kept
  first_kept : (f : Feed) (b : ℕ) (bs : List ℕ) → NewlineFree (b ∷ bs) → feed_state n f (b ∷ bs) ≡ feed_state n (keep_byte f b) bs
  unfolding feed_state
  first_kept f b bs free = rw (not_ending n f b (head_free b bs free))

  -- bytes past the longest line only tell that the line is longer
  pub overlong : (f : Feed) (b : ℕ) (bs : List ℕ) → longest ≤ f.used → NewlineFree (b ∷ bs)
      → feed_state n f (b ∷ bs) ≡ record { session = f.session; kept = f.kept; used = f.used; long = true }
  unfolding after_run
  overlong f b bs full free =
      let none_left : longest - f.used ≡ 0 = omega arith in
      kept_run n f (b ∷ bs) free ∙ rw (none_left, add-zero f.used, lt-ltb 0 (suc (length bs)) (omega arith), either_true f.long)

-- a piece is kept byte by byte
module _ (piece : List ℕ) (i : ℕ) (inside : i < length piece) (free : NewlineFree (drop i piece)) where
  here : NewlineFree (get_or piece i 0 ∷ drop (suc i) piece)
  here = rw (drop-cons piece i 0 inside) at free

  pub free_more : NewlineFree (drop (i + 1) piece)
  free_more = rw add-one (tail_free (get_or piece i 0) (drop (suc i) piece) here)

  pub keep_more : (n : NameLists) (f : Feed) → f.used < longest
      → feed_state n (record { session = f.session; kept = set f.kept f.used (get_or piece i 0); used = f.used + 1; long = f.long }) (drop (i + 1) piece)
      ≡ feed_state n f (drop i piece)
  keep_more n f h =
      rw (add-one f.used, add-one i, drop-cons piece i 0 inside)
      (sym
      (first_kept n f (get_or piece i 0) (drop (suc i) piece) here
      ∙ ap (λ (g : Feed). feed_state n g (drop (suc i) piece)) (keep_fitting f (get_or piece i 0) h)))

  pub keep_no_more : (n : NameLists) (f : Feed) → longest ≤ f.used
      → ◌≡◌ {A = Feed} (record { session = f.session; kept = f.kept; used = f.used; long = true }) (feed_state n f (drop i piece))
  keep_no_more n f h = rw (drop-cons piece i 0 inside) (sym (overlong n f (get_or piece i 0) (drop (suc i) piece) h here))

-- a piece that ends a line of which nothing is kept is the line
pub whole_line : (n : NameLists) (f : Feed) (bs : List ℕ) → length f.kept ≡ longest → either f.long (ltb 0 f.used) ≡ false → NewlineFree bs
    → kept_line n (feed_state n f bs) ≡ parse_text_with n f.session.setup.device (take longest bs) true (ltb longest (length bs))
unfolding kept_line after_run either
whole_line n f bs full none free =
    let unused : f.used ≡ 0 = omega (arith, ltb-false 0 f.used (either_parts f.long (ltb 0 f.used) none).1) in
    rw (
      kept_run n f bs free,
      unused,
      (either_parts f.long (ltb 0 f.used) none).0,
      sub-zero longest,
      front (take longest bs) f.kept (omega (arith, length-take longest bs)),
    )

-- what a line asks for that ends with a piece: the start of what is kept of it, or of the piece
module _ (n : NameLists) (d : Device) (kept : List ℕ) (used : ℕ) (long : Bool) (piece after : List ℕ) (e : Extent) {line start : List ℕ} {carried : Bool} {p : Parsed}
    (chosen : line ≡ pick carried after piece)
    (cut : start ≡ take e.used line)
    (is : p ≡ parse_text_with n d start true e.long)
  where
    pub ended_carried : carried ≡ true → KeptOn kept used long piece after e → EndedLine n d kept used long piece p
    unfolding kept_line
    ended_carried given kept_on s here = rw (kept_on n s, here) (is ∙ rw (cut, chosen, given))

    pub ended_whole : carried ≡ false → either long (ltb 0 used) ≡ false → length kept ≡ longest → NewlineFree piece
        → e ≡ record { used = longest; long = ltb longest (length piece) } → EndedLine n d kept used long piece p
    ended_whole given none full free extent s here =
        is ∙ rw (cut, chosen, given, extent, ← here) (sym (whole_line n (state_of s kept used long) piece full none free))

-- no newline stands among the first bytes of a block
free_within : (block : List ℕ) (at : ℕ) → at ≤ length block → AllWithin (λ b. ¬ (b ≡ newline)) block 0 at → NewlineFree (take at block)
free_within block zero inside other = λ m. Memᴰ.not-nil m
free_within block (suc at) inside other =
    rw (← add-one at)
    (free_next block at (omega arith) (free_within block at (omega arith) (λ k d low high. other k d low (omega arith))) (other at 0 (omega arith) (omega arith)))

-- the place that a search finds
pub first_newline : (block : List ℕ) (r : Option ℕ)
    → MatchOption r (AllWithin (λ b. ¬ (b ≡ newline)) block 0 (length block)) (λ i. (i < length block) × HoldsAt (λ b. b ≡ newline) block i × AllWithin (λ b. ¬ (b ≡ newline)) block 0 i)
    → FirstNewline block r
first_newline block None free = rw (take-length block) at (free_within block (length block) (omega arith) free)
first_newline block (Some at) found = record { within = found.0; before = free_within block at (omega (arith, found.0)) found.2; found = found.1 0 }

-- none is found where there is none
pub no_newline : (block : List ℕ) (r : Option ℕ) → FirstNewline block r → is_some r ≡ false → NewlineFree block
no_newline block None free e = free
no_newline block (Some at) found e = absurd (true≢false e)

-- a piece is kept as far as there is room
module _ (s : Session) (kept : List ℕ) (used : ℕ) (long : Bool) (piece : List ℕ) {from m : ℕ} (start : from ≡ min used longest) (most : m ≡ min (length piece) (longest - from)) where
  fitting_is : take (longest - used) piece ≡ take m piece
  fitting_is = sym (take_min piece (longest - used) m (omega arith))

  fitting_length : length (take m piece) ≡ m
  fitting_length = length-take-le m piece (omega arith)

  stored : sets kept used (take m piece) ≡ sets kept from (take m piece)
  stored = go (dec_le used longest)
    where
      go : Dec (used ≤ longest) → sets kept used (take m piece) ≡ sets kept from (take m piece)
      go (yes h) = let e : from ≡ used = omega arith in rw e
      go (no h) = let e : m ≡ 0 = omega arith in rw e

  past : ltb (longest - used) (length piece) ≡ ltb m (length piece)
  past = go (dec_lt (longest - used) (length piece))
    where
      go : Dec (longest - used < length piece) → ltb (longest - used) (length piece) ≡ ltb m (length piece)
      go (yes h) = lt-ltb (longest - used) (length piece) h ∙ sym (lt-ltb m (length piece) (omega arith))
      go (no h) = le-ltb (longest - used) (length piece) (omega arith) ∙ sym (le-ltb m (length piece) (omega arith))

  pub keep_piece : {after : List ℕ} {next : ℕ} {over : Bool} (n : NameLists) → NewlineFree piece → Put kept from (take m piece) after next
      → over ≡ either long (ltb m (length piece)) → feed_state n (state_of s kept used long) piece ≡ state_of s after (used + m) over
  unfolding after_run
  keep_piece n free put e = kept_run n (state_of s kept used long) piece free ∙ rw (fitting_is, fitting_length, stored, past, put.contents, e)
