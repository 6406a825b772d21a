use mathlib.Core.Path.{◌≡◌, ap, sym, ◌∙◌}
use mathlib.Core.List.{[], ◌∷◌, ◌++◌}
use Prim.Native.Nat.{ℕ, ◌+◌, ◌-◌, ◌/◌, ◌%◌}
use native.Mathlib.Nat.{sub-zero}
use native.Mathlib.Omega.{arith}
use lib.ListN.{take}
use lib.Seq.{take_all}
use Rattle.grammar.specs.Text.{bytes, hex_digit, hex_text}
use Rattle.grammar.proofs.Hexes.{hex_length}
use Rattle.responder.proofs.Putting.{none_put, digit_before, all_put}
use Rattle.responder.proofs.Numerals.{hex_next, digit_at}
use Rattle.responder.proofs.texts.put_hex.Goals as goal

pub loop-i-init : goal.loop-i-init
loop-i-init c =
    let a = c.args in
    let l = hex_length a.width a.n in
    simp sub-zero (sym (take_all a.width (hex_text a.width a.n) (omega arith)), none_put a.out.now a.at a.width (hex_text a.width a.n) (sym l))

pub loop-i-preserved : goal.loop-i-preserved
unfolding bytes
loop-i-preserved c =
    let l = c.loop-i in
    let a = c.args in
    let k = a.width - (l.i + 1) in
    let p : a.width - l.i ≡ k + 1 = omega arith in
    let s : hex_text k (l.rest / 16) ++ hex_digit (l.rest % 16) ∷ [] ≡ take (a.width - l.i) (hex_text a.width a.n) =
    sym (hex_next k l.rest) ∙ ap (λ (m : ℕ). hex_text m l.rest) (sym p) ∙ l.invariant.0 in
    let d = digit_before a.out.now l.out (hex_text a.width a.n) (hex_text k (l.rest / 16)) a.at (a.width - l.i) k (hex_digit (l.rest % 16)) p (hex_length k (l.rest / 16)) s l.invariant.1 in
    let place : a.at + a.width - 1 - l.i ≡ a.at + k = omega arith in
    (d.0, rw (place, digit_at (l.rest % 16) (omega arith)) d.1)

pub returns : goal.returns
returns c =
    let l = c.loop-i in
    let a = c.args in
    let e : a.width - l.i ≡ 0 = omega arith in
    all_put a.out.now l.out a.at a.width (hex_text a.width a.n) (sym (hex_length a.width a.n)) (rw e at l.invariant.1)
