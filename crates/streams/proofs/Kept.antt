-- What a run of bytes without a newline leaves, from any state: of the line 80 bytes are kept, and nothing is answered. By induction on the run.
--     kept-run       the state that it leaves
--     run-silent     it gives no text
use mathlib.Core.Path.{◌≡◌, refl, sym, ◌∙◌}
use mathlib.Core.Bool.{Bool, true, false}
use mathlib.Core.List.Memᴰ
use mathlib.Core.List.{List, [], ◌∷◌}
use Prim.Native.Nat.{ℕ, suc, ◌+◌, ◌-◌, ◌≤◌, ◌<◌}
use native.Mathlib.Omega.{arith}
use native.Mathlib.Nat.{add-zero}
use native.Mathlib.Numerals.{add-one}
use lib.Dec.{ltb, eqb, leb-suc-suc}
use lib.ListN.{length, take, set}
use lib.Seq.{take-nil, sets}
use borrow.Author.Tests.{ltb-true, ltb-false, lt-ltb, le-ltb, ne_eqb}
use Rattle.requests.specs.Choice.{either}
use Rattle.requests.proofs.Tests.{either_true, either_false}
use Rattle.grammar.specs.Text.{newline}
use Rattle.grammar.specs.Parse.{longest}
use Rattle.names.specs.Lists.{NameLists}
use Rattle.streams.specs.Stream.{NewlineFree, keep_byte, byte_state, byte_text, feed_state, feed_text}
use Rattle.streams.specs.declared.Feed.{Feed}

-- ---- runs without a newline

pub head_free : (b : ℕ) (bs : List ℕ) → NewlineFree (b ∷ bs) → eqb b newline ≡ false
head_free b bs free = ne_eqb b newline (λ e. free (Memᴰ.head (sym e)))

pub tail_free : (b : ℕ) (bs : List ℕ) → NewlineFree (b ∷ bs) → NewlineFree bs
tail_free b bs free m = free (Memᴰ.tail m)

-- ---- the text

module _ (n : NameLists) where
  pub no_text : (f : Feed) (b : ℕ) → eqb b newline ≡ false → byte_text n f b ≡ []
  unfolding byte_text
  no_text f b e = rw (e, byte_text)

  pub run_silent : (f : Feed) (text : List ℕ) → NewlineFree text → feed_text n f text ≡ []
  unfolding feed_text
  run_silent f [] free = refl
  run_silent f (b ∷ bs) free = rw (no_text f b (head_free b bs free)) (run_silent (byte_state n f b) bs (tail_free b bs free))

-- ---- the state

-- the bytes of a run that are kept behind n others
abbrev pub fitting : ℕ → List ℕ → List ℕ
fitting n text = take (longest - n) text

-- the state that a run leaves
unfoldable pub after_run : Feed → List ℕ → Feed
after_run f text =
    record {
      session = f.session;
      kept = sets f.kept f.used (fitting f.used text);
      used = f.used + length (fitting f.used text);
      long = either f.long (ltb (longest - f.used) (length text));
    }

module _ (f : Feed) where
  after_none : f ≡ after_run f []
  unfolding after_run
  after_none = rw (take-nil {A = ℕ} (longest - f.used), le-ltb (longest - f.used) 0 (omega arith), either_false f.long, add-zero f.used)

  module _ (b : ℕ) where
    -- a byte behind fewer than 80
    pub keep_fitting : f.used < longest → keep_byte f b ≡ record { session = f.session; kept = set f.kept f.used b; used = suc f.used; long = f.long }
    unfolding keep_byte
    keep_fitting room = rw (lt-ltb f.used longest room, keep_byte, add-one f.used)

    after_fitting : (bs : List ℕ) → f.used < longest → after_run (keep_byte f b) bs ≡ after_run f (b ∷ bs)
    unfolding after_run
    after_fitting bs room =
        let n : longest - f.used ≡ suc (longest - suc f.used) = omega arith in
        let m : suc f.used + length (fitting (suc f.used) bs) ≡ f.used + suc (length (fitting (suc f.used) bs)) = omega arith in
        rw (keep_fitting room, n, leb-suc-suc (suc (longest - suc f.used)) (length bs), m)

    -- a byte of a line that has 80 already
    keep_full : longest ≤ f.used → keep_byte f b ≡ record { session = f.session; kept = f.kept; used = f.used; long = true }
    unfolding keep_byte
    keep_full full = rw (le-ltb f.used longest full, keep_byte)

    after_full : (bs : List ℕ) → longest ≤ f.used → after_run (keep_byte f b) bs ≡ after_run f (b ∷ bs)
    unfolding after_run either
    after_full bs full =
        let n : longest - f.used ≡ 0 = omega arith in
        rw (keep_full full, n, lt-ltb 0 (suc (length bs)) (omega arith), either_true f.long)

module _ (n : NameLists) where
  -- a byte that does not end the line
  pub not_ending : (f : Feed) (b : ℕ) → eqb b newline ≡ false → byte_state n f b ≡ keep_byte f b
  unfolding byte_state
  not_ending f b e = rw (e, byte_state)

  pub kept_run : (f : Feed) (text : List ℕ) → NewlineFree text → feed_state n f text ≡ after_run f text
  unfolding feed_state
  kept_run f [] free = after_none f
  kept_run f (b ∷ bs) free = rw (not_ending f b (head_free b bs free)) (kept_run (keep_byte f b) bs (tail_free b bs free) ∙ go (ltb f.used longest) refl)
    where
      go : (t : Bool) → ltb f.used longest ≡ t → after_run (keep_byte f b) bs ≡ after_run f (b ∷ bs)
      go true h = after_fitting f b bs (ltb-true f.used longest h)
      go false h = after_full f b bs (ltb-false f.used longest h)
