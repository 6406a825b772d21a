-- A line is never answered 14: no call that it makes is, and no other answer, at any field, has the text of row 14.
use Rattle.std.specs.Prelude.{Ok, Err}
use mathlib.Core.Path.{◌≡◌, refl, ap}
use mathlib.Core.Logic.{◌⊎◌, inl, inr}
use mathlib.Core.List.{List, [], ◌∷◌, ◌++◌, flat_map}
use Prim.Native.Nat.{ℕ, ◌*◌, ◌<◌}
use native.Mathlib.Omega.{arith}
use lib.ListN.{length, get_or, take, replicate}
use Rattle.requests.specs.declared.Refusal.TheVariants.{NotInGrammar, CallOrder, BadOpening, BadId, IdWaiting, IdNotWaiting, KindNotOnDevice, NotListed, Incomplete, OutOfRange, Conflicting, NoPlanAlone, QueueFull, SliceTooShort, NotLeftByPlan}
use Rattle.requests.specs.Answers.{Answer}
use Rattle.requests.specs.Refusals.{number_of, answer_for}
use Rattle.requests.specs.Devices.{opening_of}
use Rattle.sessions.specs.Sessions.{open_of, add_of, drop_of, turn_of, turn_slice, plan_of}
use Rattle.sessions.specs.declared.Session.{Session}
use Rattle.plans.specs.declared.Place.{Place}
use Rattle.plans.specs.declared.Place.TheVariants.{Counter, WithRsp, Pair}
use Rattle.plans.specs.Places.{counted_of}
use Rattle.sessions.specs.declared.Assigned.{Assigned}
use Rattle.sessions.specs.declared.TurnAnswered.{TurnAnswered}
use Rattle.grammar.specs.Text.{bytes, tab, newline, decimal_digits, decimal_text, line_of}
use Rattle.grammar.specs.Parse.{parsed_refusal}
use Rattle.grammar.specs.declared.Record.{Record}
use Rattle.grammar.specs.declared.Record.TheVariants.{Open, Add, Drop, Turn}
use Rattle.grammar.specs.Parsed.{Parsed}
use Rattle.grammar.specs.declared.Line.{Line}
use Rattle.parser.specs.ParseWith.{parse_line_with}
use Rattle.answers.specs.Replies.{answer_text, take_lines, set_lines, turn_room, reply_at, reply_of, turn_reply, record_reply, named_reply, parsed_reply, answer_line}
use Rattle.answers.specs.NeverShort.{NeverShort}
use Rattle.answers.proofs.SliceFits.{open_fits, add_fits, drop_fits, turn_fits}

-- the text that no line is answered
fourteen : ℕ → List ℕ
fourteen k = answer_text (Err SliceTooShort) k

-- a text of an answer alone is it where the answer is 14 alone
module _ (j k : ℕ) where
  byte : (a : Answer) (i : ℕ) → answer_text a j ≡ fourteen k → ¬ (get_or (answer_text a j) i 0 ≡ get_or (fourteen k) i 0) → a ≡ Err SliceTooShort
  byte a i e h = absurd (h (ap (λ (t : List ℕ). get_or t i 0) e))

  is_fourteen : (a : Answer) → answer_text a j ≡ fourteen k → a ≡ Err SliceTooShort
  unfolding fourteen answer_text line_of bytes tab newline decimal_text decimal_digits number_of
  is_fourteen (Ok tt) e = byte (Ok tt) 0 e (λ d. omega arith)
  is_fourteen (Err NotInGrammar) e = byte (Err NotInGrammar) 4 e (λ d. omega arith)
  is_fourteen (Err CallOrder) e = byte (Err CallOrder) 3 e (λ d. omega arith)
  is_fourteen (Err BadOpening) e = byte (Err BadOpening) 3 e (λ d. omega arith)
  is_fourteen (Err BadId) e = byte (Err BadId) 3 e (λ d. omega arith)
  is_fourteen (Err IdWaiting) e = byte (Err IdWaiting) 3 e (λ d. omega arith)
  is_fourteen (Err IdNotWaiting) e = byte (Err IdNotWaiting) 3 e (λ d. omega arith)
  is_fourteen (Err KindNotOnDevice) e = byte (Err KindNotOnDevice) 3 e (λ d. omega arith)
  is_fourteen (Err NotListed) e = byte (Err NotListed) 3 e (λ d. omega arith)
  is_fourteen (Err Incomplete) e = byte (Err Incomplete) 3 e (λ d. omega arith)
  is_fourteen (Err OutOfRange) e = byte (Err OutOfRange) 4 e (λ d. omega arith)
  is_fourteen (Err Conflicting) e = byte (Err Conflicting) 4 e (λ d. omega arith)
  is_fourteen (Err NoPlanAlone) e = byte (Err NoPlanAlone) 4 e (λ d. omega arith)
  is_fourteen (Err QueueFull) e = byte (Err QueueFull) 4 e (λ d. omega arith)
  is_fourteen (Err SliceTooShort) e = refl
  is_fourteen (Err NotLeftByPlan) e = byte (Err NotLeftByPlan) 4 e (λ d. omega arith)

-- what a turn's reply says before its answer is nothing, or begins with another verb
abbrev Begins : List ℕ → Type 0
Begins x = (x ≡ []) ⊎ ((0 < length x) × ¬ (get_or x 0 0 ≡ 110))

begins : (plan : List Assigned) (list : List ℕ) → Begins (flat_map take_lines plan ++ set_lines list)
unfolding flat_map take_lines set_lines line_of bytes counted_of
begins [] [] = inl refl
begins [] (a ∷ []) = inl refl
begins [] (a ∷ v ∷ rest) = inr (omega arith, λ e. omega arith)
begins (p ∷ ps) list = go p.place
  where
    go : (place : Place) → Begins (flat_map take_lines (record { id = p.id; place = place } ∷ ps) ++ set_lines list)
    go (Counter k) = inr (omega arith, λ e. omega arith)
    go (WithRsp k i) = inr (omega arith, λ e. omega arith)
    go (Pair j k) = inr (omega arith, λ e. omega arith)

-- so it is 14 where the answer is
after_other : (x y : List ℕ) (k : ℕ) → 0 < length x → ¬ (get_or x 0 0 ≡ 110) → ¬ (x ++ y ≡ fourteen k)
unfolding fourteen answer_text line_of bytes
after_other [] y k some h e = omega arith
after_other (b ∷ x) y k some h e = h (ap (λ (t : List ℕ). get_or t 0 0) e)

-- ---- the replies

turn_text : (a : TurnAnswered) (slice : List ℕ) (k : ℕ) → (turn_reply a slice).text ≡ fourteen k → a.answer ≡ Err SliceTooShort
unfolding turn_reply
turn_text a slice k e = go (flat_map take_lines (plan_of a) ++ set_lines (take (2 * a.writes) slice)) (begins (plan_of a) (take (2 * a.writes) slice)) e
  where
    go : (x : List ℕ) → Begins x → x ++ answer_text a.answer 0 ≡ fourteen k → a.answer ≡ Err SliceTooShort
    go x (inl empty) f = is_fourteen 0 k a.answer (rw empty at f)
    go x (inr (some, other)) f = absurd (after_other x (answer_text a.answer 0) k some other f)

record_text_lem : (s : Session) (r : Record) (k : ℕ) → ¬ ((record_reply s r).text ≡ fourteen k)
unfolding record_reply reply_of reply_at
record_text_lem s (Open given) k e = open_fits s (opening_of given) (is_fourteen _ k (open_of s (opening_of given)).answer e)
record_text_lem s (Add id r) k e = add_fits s id r (is_fourteen _ k (add_of s id r).answer e)
record_text_lem s (Drop id) k e = drop_fits s id (is_fourteen _ k (drop_of s id).answer e)
record_text_lem s Turn k e = turn_fits s (turn_text (turn_of s turn_room) (turn_slice s (replicate turn_room 0)) k e)

parsed_text : (s : Session) (p : Parsed) (k : ℕ) → ¬ ((parsed_reply s p).text ≡ fourteen k)
unfolding parsed_reply named_reply reply_at answer_for parsed_refusal
parsed_text s (Ok (Line.Record r)) k e = record_text_lem s r k e
parsed_text s (Ok (Line.Named id r)) k e = add_fits s id r (is_fourteen _ k (add_of s id r).answer e)
parsed_text s (Err j) k e = let same = is_fourteen j k (Err NotInGrammar) e in let z : ◌≡◌ {A = ℕ} 0 1 = cc in omega arith

pub never_short : NeverShort
unfolding answer_line fourteen
never_short = record { turn = turn_fits; line = λ n s line k. parsed_text s (parse_line_with n s.setup.device line) k }
