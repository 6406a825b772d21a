-- What a reader makes of the lines of a reply: each says what it was written from, and texts one after another say what each says. Assumes nothing.
--     says-append                             texts one after another say what each says
--     Reads, nothing-reads, then-reads, joined-reads    the same as a type
--     take-reads, set-reads, answer-reads     the lines of a reply
--     fault-reads, named-reads                the last one, by the fault
use Rattle.std.specs.Prelude.{Option, None, Some, Ok, Err}
use mathlib.Core.Path.{◌≡◌, refl}
use mathlib.Core.Bool.{Bool, true, false}
use mathlib.Core.List.{List, [], ◌∷◌, ◌++◌, flat_map}
use Prim.Native.Nat.{ℕ, ◌≤◌}
use native.Mathlib.Omega.{arith}
use lib.Dec.{eqb}
use Rattle.requests.specs.declared.Refusal.{Refusal}
use Rattle.requests.specs.declared.Refusal.TheVariants.{NotInGrammar, CallOrder, BadOpening, BadId, IdWaiting, IdNotWaiting, KindNotOnDevice, NotListed, Incomplete, OutOfRange, Conflicting, NoPlanAlone, QueueFull, SliceTooShort, NotLeftByPlan}
use Rattle.requests.specs.Answers.{Answer}
use Rattle.requests.specs.Choice.{pick, both}
use Rattle.requests.specs.Refusals.{number_of}
use Rattle.requests.specs.declared.Fault.{Fault}
use Rattle.plans.specs.Lists.{All, nil, cons}
use Rattle.grammar.specs.Text.{bytes, tab, newline, hex_text, decimal_text, line_of}
use Rattle.grammar.specs.Records.{Decimal, Hex}
use Rattle.grammar.specs.Fields.{onto, fields, same_bytes_lem}
use Rattle.grammar.specs.Numbers.{digit_of, number_from, decimal_of}
use Rattle.grammar.proofs.Decimals.{decimal_reads}
use Rattle.grammar.proofs.Hexes.{hex_reads}
use Rattle.grammar.proofs.Tabs.{lacks, Lacking, lacks_parts, one_field_lem, Plain, Plains, none, more, Written, written}
use Rattle.grammar.proofs.Texts.{decimal_plain, hex_plain}
use Rattle.names.specs.Named.{named_field}
use Rattle.answers.specs.Replies.{answer_text, register_text}
use Rattle.answers.specs.Reader.{Said, Takes, Sets, Answers, take_says, set_says, no_says, fields_say, lines_of, end_says, said_before, lines_say, reply_says}
use Rattle.answers.specs.LinesAreCalls.{fault_text, fault_said, by_name_lem}
use Rattle.answers.proofs.FieldWidths.{OneDigit, named_small}
use Rattle.answers.proofs.FaultTexts.{answer_said}

-- ---- lines of a text

-- a text has a part before its first newline
some_line : (t : List ℕ) → (f : List ℕ) × (fs : List (List ℕ)) × (lines_of t ≡ f ∷ fs)
unfolding lines_of
some_line [] = ([], [], refl)
some_line (b ∷ t) = go (eqb b newline) (some_line t)
  where
    go : (x : Bool) → (f : List ℕ) × (fs : List (List ℕ)) × (lines_of t ≡ f ∷ fs)
        → (f : List ℕ) × (fs : List (List ℕ)) × (pick x ([] ∷ lines_of t) (onto b (lines_of t)) ≡ f ∷ fs)
    go true s = ([], lines_of t, refl)
    go false (f, fs, e) = (b ∷ f, fs, rw e)

-- a run of bytes without a newline, closed by one, is one line
one_line : (f : List ℕ) → lacks newline f ≡ true → lines_of (f ++ newline ∷ []) ≡ f ∷ [] ∷ []
unfolding lines_of newline
one_line [] h = refl
one_line (b ∷ f) h = let s : Lacking newline b f = lacks_parts newline b f h in rw (s.first, one_line f s.others)

-- the parts of two texts, where the last of the first and the first of the second are one
glued : List (List ℕ) → List ℕ → List (List ℕ) → List (List ℕ)
glued [] g gs = g ∷ gs
glued (f ∷ []) g gs = (f ++ g) ∷ gs
glued (f ∷ next ∷ fs) g gs = f ∷ glued (next ∷ fs) g gs

onto_glued : (b : ℕ) (f : List ℕ) (fs : List (List ℕ)) (g : List ℕ) (gs : List (List ℕ)) → onto b (glued (f ∷ fs) g gs) ≡ glued (onto b (f ∷ fs)) g gs
unfolding glued
onto_glued b f [] g gs = refl
onto_glued b f (next ∷ fs) g gs = refl

lines_append : (a t g : List ℕ) (gs : List (List ℕ)) → lines_of t ≡ g ∷ gs → lines_of (a ++ t) ≡ glued (lines_of a) g gs
unfolding lines_of glued
lines_append [] t g gs e = e
lines_append (b ∷ a) t g gs e = go (eqb b newline) (some_line a) (lines_append a t g gs e)
  where
    go : (x : Bool) → (f : List ℕ) × (fs : List (List ℕ)) × (lines_of a ≡ f ∷ fs) → lines_of (a ++ t) ≡ glued (lines_of a) g gs
        → pick x ([] ∷ lines_of (a ++ t)) (onto b (lines_of (a ++ t))) ≡ glued (pick x ([] ∷ lines_of a) (onto b (lines_of a))) g gs
    go true (f, fs, s) ih = rw (ih, s)
    go false (f, fs, s) ih = rw (ih, s) (onto_glued b f fs g gs)

-- ---- texts one after another

some_glued : (parts : List (List ℕ)) (g : List ℕ) (gs : List (List ℕ)) → (h : List ℕ) × (hs : List (List ℕ)) × (glued parts g gs ≡ h ∷ hs)
unfolding glued
some_glued [] g gs = (g, gs, refl)
some_glued (f ∷ []) g gs = (f ++ g, gs, refl)
some_glued (f ∷ next ∷ fs) g gs = (f, glued (next ∷ fs) g gs, refl)

-- what is behind the last newline, and what follows it
end_say : (line g : List ℕ) (gs : List (List ℕ)) (xs ys : List Said) → end_says line ≡ Some xs → lines_say (g ∷ gs) ≡ Some ys → lines_say ((line ++ g) ∷ gs) ≡ Some (xs ++ ys)
end_say [] g gs xs ys e f = let is : [] ≡ xs = cc in rw (← is) f
end_say (b ∷ line) g gs xs ys e f = let z : ◌≡◌ {A = ℕ} 0 1 = cc in absurd (omega arith)

-- lines that are all closed, and what follows them
glued_say : (parts : List (List ℕ)) (g : List ℕ) (gs : List (List ℕ)) (xs ys : List Said)
    → lines_say parts ≡ Some xs → lines_say (g ∷ gs) ≡ Some ys → lines_say (glued parts g gs) ≡ Some (xs ++ ys)
unfolding lines_say glued
glued_say [] g gs xs ys e f = let z : ◌≡◌ {A = ℕ} 0 1 = cc in absurd (omega arith)
glued_say (line ∷ []) g gs xs ys e f = end_say line g gs xs ys e f
glued_say (line ∷ next ∷ fs) g gs xs ys e f =
    go (fields_say (fields line)) refl (lines_say (next ∷ fs)) refl e (λ zs d. glued_say (next ∷ fs) g gs zs ys d f) (some_glued (next ∷ fs) g gs)
  where
    go : (x : Option Said) → fields_say (fields line) ≡ x → (zs : Option (List Said)) → lines_say (next ∷ fs) ≡ zs → said_before x zs ≡ Some xs
        → ((zs : List Said) → lines_say (next ∷ fs) ≡ Some zs → lines_say (glued (next ∷ fs) g gs) ≡ Some (zs ++ ys))
        → (h : List ℕ) × (hs : List (List ℕ)) × (glued (next ∷ fs) g gs ≡ h ∷ hs) → lines_say (line ∷ glued (next ∷ fs) g gs) ≡ Some (xs ++ ys)
    go (Some x) p (Some zs) q d below (h, hs, s) =
        let is : x ∷ zs ≡ xs = cc in
        let rest : lines_say (h ∷ hs) ≡ Some (zs ++ ys) = rw s at (below zs q) in
        rw (s, p, rest, ← is)
    go (Some x) p None q d below s = let z : ◌≡◌ {A = ℕ} 0 1 = cc in absurd (omega arith)
    go None p zs q d below s = let z : ◌≡◌ {A = ℕ} 0 1 = cc in absurd (omega arith)

pub says_append : (a b : List ℕ) (xs ys : List Said) → reply_says a ≡ Some xs → reply_says b ≡ Some ys → reply_says (a ++ b) ≡ Some (xs ++ ys)
unfolding reply_says
says_append a b xs ys e f =
    let (g, gs, s) = some_line b in
    rw (lines_append a b g gs s) (glued_say (lines_of a) g gs xs ys e (rw s at f))

-- the text says these things
pub record Reads (text : List ℕ) (xs : List Said) : Type 0 where
  pub says : reply_says text ≡ Some xs

pub nothing_reads : Reads [] []
unfolding reply_says lines_say lines_of
nothing_reads = record { says = refl }

pub then_reads : {a b : List ℕ} {xs ys : List Said} → Reads a xs → Reads b ys → Reads (a ++ b) (xs ++ ys)
then_reads {a} {b} {xs} {ys} f g = record { says = says_append a b xs ys f.says g.says }

pub joined_reads : {A : Type 0} (f : A → List ℕ) (g : A → List Said) {l : List A} → All (λ (a : A). Reads (f a) (g a)) l → Reads (flat_map f l) (flat_map g l)
unfolding flat_map
joined_reads f g nil = nothing_reads
joined_reads f g (cons h hs) = then_reads h (joined_reads f g hs)

-- ---- a line

-- fields that say x, written as a line
line_reads : (n : ℕ) (f : List ℕ) (fs : List (List ℕ)) (x : Said) → one_field_lem f ≡ true → Plains n fs → fields_say (f ∷ fs) ≡ Some x
    → Reads (line_of (f ∷ fs)) (x ∷ [])
unfolding reply_says lines_say
line_reads n f fs x one plain says =
    let w : Written n f fs = written n f fs one plain in
    record { says = rw (w.line, one_line w.text w.one_line, w.parts, says) }

-- a register that is printed
abbrev pub RegisterFits : Option ℕ → Type 0
RegisterFits None = Unit {0}
RegisterFits (Some i) = Decimal i

register_plain : (r : Option ℕ) → RegisterFits r → Plain 5 (register_text r)
unfolding register_text bytes one_field_lem both lacks tab newline
register_plain None h = record { field = refl; short = omega arith }
register_plain (Some i) h = decimal_plain i h

take_says_lem : (id k : ℕ) (r : Option ℕ) → Decimal id → Decimal k → RegisterFits r → take_says (decimal_text id) (decimal_text k) (register_text r) ≡ Some (Takes id k r)
unfolding take_says register_text bytes same_bytes_lem decimal_of digit_of number_from both
take_says_lem id k None a b h = rw (decimal_reads id a, decimal_reads k b)
take_says_lem id k (Some i) a b h = rw (decimal_reads id a, decimal_reads k b, decimal_reads i h)

pub take_reads : (id k : ℕ) (r : Option ℕ) → Decimal id → Decimal k → RegisterFits r
    → Reads (line_of (bytes "take" ∷ decimal_text id ∷ decimal_text k ∷ register_text r ∷ [])) (Takes id k r ∷ [])
unfolding fields_say same_bytes_lem bytes one_field_lem both lacks tab newline
take_reads id k r a b h =
    line_reads _ _ _ _ refl (more (decimal_plain id a) (more (decimal_plain k b) (more (register_plain r h) none))) (take_says_lem id k r a b h)

pub set_reads : (a v : ℕ) → Hex 4 a → Hex 16 v → Reads (line_of (bytes "set" ∷ hex_text 4 a ∷ hex_text 16 v ∷ [])) (Sets a v ∷ [])
unfolding fields_say set_says same_bytes_lem bytes one_field_lem both lacks tab newline
set_reads a v h k =
    line_reads _ _ _ _ refl (more (hex_plain 4 a h) (more (hex_plain 16 v k) none)) (rw (hex_reads 4 a h, hex_reads 16 v k))

-- ---- the answer

number_fits : (x : Refusal) → Decimal (number_of x)
unfolding number_of
number_fits NotInGrammar = omega arith
number_fits CallOrder = omega arith
number_fits BadOpening = omega arith
number_fits BadId = omega arith
number_fits IdWaiting = omega arith
number_fits IdNotWaiting = omega arith
number_fits KindNotOnDevice = omega arith
number_fits NotListed = omega arith
number_fits Incomplete = omega arith
number_fits OutOfRange = omega arith
number_fits Conflicting = omega arith
number_fits NoPlanAlone = omega arith
number_fits QueueFull = omega arith
number_fits SliceTooShort = omega arith
number_fits NotLeftByPlan = omega arith

pub answer_reads : (a : Answer) (k : ℕ) → k ≤ 7 → Reads (answer_text a k) (Answers (answer_said a k) ∷ [])
unfolding answer_text fields_say no_says same_bytes_lem bytes one_field_lem both lacks tab newline
answer_reads (Ok tt) k h = line_reads _ _ _ _ refl none refl
answer_reads (Err x) k h =
    line_reads _ _ _ _ refl (more (decimal_plain (number_of x) (number_fits x)) (more (decimal_plain k (omega arith)) none))
    (rw (decimal_reads (number_of x) (number_fits x), decimal_reads k (omega arith)))

pub fault_reads : (f : Option Fault) → OneDigit f → Reads (fault_text f) (Answers (fault_said f) ∷ [])
unfolding fault_text fault_said
fault_reads None h = answer_reads (Ok tt) 0 (omega arith)
fault_reads (Some f) h = answer_reads (Err f.refusal) f.field h

pub named_reads : (f : Option Fault) → OneDigit f → Reads (fault_text (by_name_lem f)) (Answers (fault_said (by_name_lem f)) ∷ [])
unfolding fault_text fault_said by_name_lem
named_reads None h = answer_reads (Ok tt) 0 (omega arith)
named_reads (Some f) h = answer_reads (Err f.refusal) (named_field f.field) (named_small f.field h)
