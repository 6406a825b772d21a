-- The output of a whole input is the replies to its lines: `LineByLine` at each line, one after another, by the laws on two pieces.
use mathlib.Core.Path.{◌≡◌, refl, ap, sym, ◌∙◌}
use mathlib.Core.Logic.{◌≢◌, ◌⊎◌, inl, inr}
use mathlib.Core.List.Memᴰ
use mathlib.Core.List.{List, [], ◌∷◌, ◌++◌, append_assoc, map, flat_map, Memᴰ}
use mathlib.Core.Bool.{Bool, true, false}
use Prim.Native.Nat.{ℕ}
use native.Mathlib.Omega.{arith}
use lib.Dec.{eqb}
use borrow.Author.Tests.{eqb-true, eqb-false}
use Rattle.plans.specs.Lists.{All, nil, cons}
use Rattle.requests.specs.declared.Device.TheVariants.{G}
use Rattle.sessions.specs.declared.Session.{Session}
use Rattle.sessions.specs.Sessions.{new_session}
use Rattle.grammar.specs.Text.{newline}
use Rattle.answers.specs.Replies.{answer_line}
use Rattle.answers.specs.LineLists.{session_by}
use Rattle.answers.proofs.LineLists.{session_by_lem}
use Rattle.names.specs.Lists.{NameLists}
use Rattle.streams.specs.Stream.{NewlineFree, line_start, feed_start, feed_state, feed_text, no_names, end_text, transcript}
use Rattle.streams.specs.Transcript.{closed, replies_to, at_end, Transcript}
use Rattle.streams.specs.declared.Feed.{Feed}
use Rattle.streams.proofs.Cut.{state_append, text_append}
use Rattle.streams.proofs.Kept.{after_run, kept_run}
use Rattle.streams.proofs.LineByLine.{line_by_line}

-- ---- lines, and a rest without a newline

-- an input cut at its newlines
pub record Lines (input : List ℕ) : Type 0 where
  pub texts : List (List ℕ)
  pub rest : List ℕ
  pub free : All NewlineFree texts
  pub free_rest : NewlineFree rest
  pub whole : input ≡ flat_map closed texts ++ rest

free_more : (b : ℕ) (text : List ℕ) → eqb b newline ≡ false → NewlineFree text → NewlineFree (b ∷ text)
free_more b text e free m = go (Memᴰ.cases_cons m)
  where
    go : (newline ≡ b) ⊎ Memᴰ newline text → ⊥
    go (inl h) = eqb-false b newline e (sym h)
    go (inr n) = free n

-- a newline closes an empty line
newline_first : (b : ℕ) (bs : List ℕ) → b ≡ newline → Lines bs → Lines (b ∷ bs)
unfolding flat_map
newline_first b bs e below =
    record {
      texts = [] ∷ below.texts;
      rest = below.rest;
      free = cons Memᴰ.not-nil below.free;
      free_rest = below.free_rest;
      whole = rw e (ap (λ (l : List ℕ). newline ∷ l) below.whole);
    }

-- any other byte begins the first line, or the rest where there is none
byte_first : (b : ℕ) (bs : List ℕ) → eqb b newline ≡ false → Lines bs → Lines (b ∷ bs)
unfolding flat_map
byte_first b bs e below = go below.texts below.free below.whole
  where
    go : (texts : List (List ℕ)) → All NewlineFree texts → bs ≡ flat_map closed texts ++ below.rest → Lines (b ∷ bs)
    go [] free h =
        record {
          texts = [];
          rest = b ∷ below.rest;
          free = nil;
          free_rest = free_more b below.rest e below.free_rest;
          whole = ap (λ (l : List ℕ). b ∷ l) h;
        }
    go (text ∷ texts) (cons f fs) h =
        record {
          texts = (b ∷ text) ∷ texts;
          rest = below.rest;
          free = cons (free_more b text e f) fs;
          free_rest = below.free_rest;
          whole = ap (λ (l : List ℕ). b ∷ l) h;
        }

lines_in : (input : List ℕ) → Lines input
unfolding flat_map
lines_in [] = record { texts = []; rest = []; free = nil; free_rest = Memᴰ.not-nil; whole = refl }
lines_in (b ∷ bs) = go (eqb b newline) refl (lines_in bs)
  where
    go : (t : Bool) → eqb b newline ≡ t → Lines bs → Lines (b ∷ bs)
    go true e below = newline_first b bs (eqb-true b newline e) below
    go false e below = byte_first b bs e below

-- ---- their replies

module _ (n : NameLists) where
  -- a rest is answered at the end alone
  rest_output : (s : Session) (rest : List ℕ) → NewlineFree rest → feed_text n (line_start s) rest ++ end_text (feed_state n (line_start s) rest) ≡ at_end rest
  unfolding at_end feed_text feed_state
  rest_output s [] free = (line_by_line n s [] free).empty
  rest_output s (b ∷ bs) free =
      let line = line_by_line n s (b ∷ bs) free in
      let some : (b ∷ bs) ≢ [] = λ e. let z : ◌≡◌ {A = ℕ} 0 1 = cc in absurd (omega arith) in
      rw line.silent (line.ended some no_names G)

  module _ (s : Session) (text : List ℕ) (free : NewlineFree text) (input : List ℕ) where
    -- the output of a line before more input
    line_first : feed_text n (line_start s) (closed text ++ input) ≡ (answer_line n s (closed text)).text ++ feed_text n (line_start (answer_line n s (closed text)).session) input
    line_first = text_append n (line_start s) (closed text) input ∙ rw ((line_by_line n s text free).reply, (line_by_line n s text free).next)

    pub state_first : feed_state n (line_start s) (closed text ++ input) ≡ feed_state n (line_start (answer_line n s (closed text)).session) input
    state_first = state_append n (line_start s) (closed text) input ∙ rw (line_by_line n s text free).next

  output : (s : Session) (texts : List (List ℕ)) (rest : List ℕ) → All NewlineFree texts → NewlineFree rest
      → feed_text n (line_start s) (flat_map closed texts ++ rest) ++ end_text (feed_state n (line_start s) (flat_map closed texts ++ rest)) ≡ replies_to n s texts ++ at_end rest
  unfolding flat_map replies_to
  output s [] rest fs f = rest_output s rest f
  output s (text ∷ texts) rest (cons free fs) f =
      let more : List ℕ = flat_map closed texts ++ rest in
      let joined : (closed text ++ flat_map closed texts) ++ rest ≡ closed text ++ more = append_assoc (closed text) (flat_map closed texts) rest in
      let below = output (answer_line n s (closed text)).session texts rest fs f in
      rw (joined, line_first s text free more, state_first s text free more, append_assoc, append_assoc) (ap (λ (l : List ℕ). (answer_line n s (closed text)).text ++ l) below)

-- ---- the session

module _ (n : NameLists) where
  rest_session : (s : Session) (rest : List ℕ) → NewlineFree rest → (feed_state n (line_start s) rest).session ≡ s
  unfolding after_run line_start
  rest_session s rest free = ap (λ (f : Feed). f.session) (kept_run n (line_start s) rest free)

  lines_session : (s : Session) (texts : List (List ℕ)) (rest : List ℕ) → All NewlineFree texts → NewlineFree rest
      → (feed_state n (line_start s) (flat_map closed texts ++ rest)).session ≡ session_by n s (map closed texts)
  unfolding flat_map session_by
  lines_session s [] rest fs f = rest_session s rest f
  lines_session s (text ∷ texts) rest (cons free fs) f =
      let more : List ℕ = flat_map closed texts ++ rest in
      let joined : (closed text ++ flat_map closed texts) ++ rest ≡ closed text ++ more = append_assoc (closed text) (flat_map closed texts) rest in
      rw (joined, state_first n s text free more) (lines_session (answer_line n s (closed text)).session texts rest fs f)

pub transcript_holds : Transcript
unfolding transcript feed_start new_session
transcript_holds =
    record {
      lines_of = λ input. let l = lines_in input in (l.texts, l.rest, l.free, l.free_rest, l.whole);
      output = λ n. output n new_session;
      session = λ n texts rest fs f. lines_session n new_session texts rest fs f ∙ session_by_lem n new_session refl (map closed texts);
    }
