use mathlib.Core.Path.{sym, ◌∙◌}
use Prim.Native.Nat.{◌<◌, ◌≤◌}
use lib.ListN.{length}
use Rattle.requests.proofs.Openings.{device_count}
use Rattle.grammar.proofs.LetterFields.{lettered_all, letter_here, letter_next, letter_none}
use Rattle.scanner.proofs.letters.device_at.Goals as goal

pub loop-device-init : goal.loop-device-init
loop-device-init c = rw c.devices-device-items.ensures (lettered_all _)

pub returns-then-is_letter : goal.returns-then-is_letter
returns-then-is_letter c =
    let ds = c.devices-device-items in
    let l = c.loop-device in
    let inside : l.device-index < length ds.result = rw (ds.ensures, device_count) c.loop-device-test.true in
    let here = letter_here _ ds.result l.device-index _ inside (sym c.is_letter.ensures ∙ c.if-is_letter.true) in
    rw (sym l.invariant ∙ here)

pub loop-device-preserved : goal.loop-device-preserved
loop-device-preserved c =
    let ds = c.devices-device-items in
    let l = c.loop-device in
    let inside : l.device-index < length ds.result = rw (ds.ensures, device_count) c.loop-device-test.true in
    letter_next _ ds.result l.device-index _ inside (sym c.is_letter.ensures ∙ c.if-is_letter.false) ∙ l.invariant

pub returns : goal.returns
returns c =
    let ds = c.devices-device-items in
    let l = c.loop-device in
    let past : length ds.result ≤ l.device-index = rw (ds.ensures, device_count) c.loop-device-test.false in
    rw (sym l.invariant ∙ letter_none _ ds.result l.device-index past)
