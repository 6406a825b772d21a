-- The writes of the filter registers are made at rest: while no usable counter is enabled, and none has an event. Assumes nothing.
--     AllQuiet        what holds before and after each of them
--     disabled-other  a write of another register than the global one
--     filters-rest    the filter registers of each device
use Rattle.std.proofs.lemmas.Option.{none-some, same_Some}
use Rattle.std.specs.Prelude.{Option, None, Some}
use mathlib.Core.Path.{◌≡◌, refl, sym}
use mathlib.Core.Logic.{◌≢◌}
use mathlib.Core.List.{List, [], ◌∷◌, ◌++◌, Memᴰ, flat_map, append-nil}
use Prim.Native.Nat.{ℕ, ◌^◌}
use native.Mathlib.Omega.{arith}
use Rattle.requests.specs.declared.Device.{Device}
use Rattle.requests.specs.declared.Device.TheVariants.{G, S, C, B}
use Rattle.requests.specs.declared.Setup.{Setup}
use Rattle.requests.specs.declared.Request.{Request}
use Rattle.plans.specs.declared.Place.{Place}
use Rattle.plans.specs.Lists.{nil, cons}
use Rattle.plans.specs.Legal.{packets_of}
use Rattle.layouts.specs.Layout.{layout_of, filters_at, rsp0_at, rsp1_at, mm_cfg_at, match_at, mask_at, mm_enable}
use Rattle.layouts.specs.Settings.{head_of, settings_of}
use Rattle.layouts.specs.Writes.{Write, offcore_writes, packet_writes, filter_writes}
use Rattle.layouts.specs.RestWhileWritten.{LastWritten, Disabled, Quiet, Matching, AtRest}
use Rattle.layouts.proofs.ListLaws.{all_member}
use Rattle.layouts.proofs.UsableSets.{on}
use Rattle.layouts.proofs.DeviceFacts.{in_room, apart}
use Rattle.layouts.proofs.WriteByWrite.{Along, last_here, last_other, along_then}
use Rattle.layouts.proofs.WritesAtRest.{filter_rests}
use Rattle.layouts.proofs.PlanFilters.{devices_differ}

-- a write of another register leaves the last value of the global one
pub disabled_other : (s : Setup) {b : List Write} (w : Write) → w.0 ≢ (layout_of s.device).global → Disabled s b → Disabled s (b ++ w ∷ [])
disabled_other s w g h = (h.0, last_other w g h.1, h.2)

-- no usable counter is enabled, and none has an event
abbrev pub AllQuiet : Setup → List Write → Type 0
AllQuiet s b = Disabled s b × Quiet s b

quiet_filter : (s : Setup) (w : Write) (b : List Write) → Memᴰ w.0 (filters_at s.device) → AllQuiet s b → AllQuiet s (b ++ w ∷ [])
quiet_filter s w b m q = (
  disabled_other s w (all_member (apart s.device).filter_global m) q.0,
  λ k u. last_other w (all_member ((apart s.device).filter_control k (in_room s.device k u.0)) m) (q.1 k u),
)

no_match : Memᴰ mm_cfg_at (match_at ∷ mask_at ∷ []) → ⊥
unfolding mm_cfg_at match_at mask_at
no_match m = all_member {P = λ (a : ℕ). a ≡ mm_cfg_at → ⊥} (cons {a = match_at} (λ e. omega arith) (cons {a = mask_at} (λ e. omega arith) nil)) m refl

asked_first : (asked : List (ℕ × ℕ)) (p : ℕ × ℕ) → head_of asked ≡ Some p → Memᴰ p asked
asked_first [] p some = absurd (none-some p some)
asked_first (q ∷ asked) p some = mathlib.Core.List.Memᴰ.head (sym (same_Some q p some))

-- one write of a filter register
filter_along : (s : Setup) (rs : List Request) (b : List Write) → AllQuiet s b → (a v : ℕ) → Memᴰ a (filters_at s.device)
    → (s.device ≡ S → Memᴰ a (match_at ∷ mask_at ∷ []) → LastWritten b mm_cfg_at 0)
    → (s.device ≡ S → a ≡ mm_cfg_at → v ≢ 0 → Matching rs b)
    → Along (AtRest s rs) b ((a, v) ∷ []) × AllQuiet s (b ++ (a, v) ∷ [])
filter_along s rs b q a v m match_off match_set = ((filter_rests s rs b q.0 q.1 a v m match_off match_set, tt), quiet_filter s (a, v) b m q)

packets_rest : (u : Setup) (rs : List Request) (asked : Option (ℕ × ℕ)) → ((p : ℕ × ℕ) → asked ≡ Some p → Memᴰ p (flat_map packets_of rs))
    → (b : List Write) → AllQuiet (on S u) b → Along (AtRest (on S u) rs) b (packet_writes asked) × AllQuiet (on S u) (b ++ packet_writes asked)
unfolding packet_writes filters_at mm_cfg_at match_at mask_at
packets_rest u rs (Some p) is b q =
    let x : ℕ = p.0 in
    let y : ℕ = p.1 in
    let s : Setup = on S u in
    let P = AtRest s rs in
    let cfg : Memᴰ mm_cfg_at (filters_at S) = mathlib.Core.List.Memᴰ.head refl in
    let mat : Memᴰ match_at (filters_at S) = mathlib.Core.List.Memᴰ.tail (mathlib.Core.List.Memᴰ.head refl) in
    let msk : Memᴰ mask_at (filters_at S) = mathlib.Core.List.Memᴰ.tail (mathlib.Core.List.Memᴰ.tail (mathlib.Core.List.Memᴰ.head refl)) in
    let off : Write = (mm_cfg_at, 0) in
    let matched : Write = (match_at, x) in
    let masked : Write = (mask_at, y) in
    let Off : List Write → Type 0 = λ c. AllQuiet s c × LastWritten c mm_cfg_at 0 in
    let Matched : List Write → Type 0 = λ c. AllQuiet s c × LastWritten c mm_cfg_at 0 × LastWritten c match_at x in
    let Masked : List Write → Type 0 = λ c. AllQuiet s c × LastWritten c match_at x × LastWritten c mask_at y in
    let one = filter_along s rs b q mm_cfg_at 0 cfg (λ g m. absurd (no_match m)) (λ g e some. absurd (some refl)) in
    let two = along_then P Off Matched b (off ∷ []) (matched ∷ []) (one.0, (one.1, last_here b mm_cfg_at 0))
    (λ c i. let w = filter_along s rs c i.0 match_at x mat (λ g m. i.1) (λ g e. absurd (omega arith)) in
    (w.0, (w.1, last_other matched (λ e. omega arith) i.1, last_here c match_at x))) in
    let three = along_then P Matched Masked b (off ∷ matched ∷ []) (masked ∷ []) two
    (λ c i. let w = filter_along s rs c i.0 mask_at y msk (λ g m. i.1) (λ g e. absurd (omega arith)) in
    (w.0, (w.1, last_other masked (λ e. omega arith) i.2, last_here c mask_at y))) in
    along_then P Masked (AllQuiet s) b (off ∷ matched ∷ masked ∷ []) ((mm_cfg_at, 2 ^ mm_enable) ∷ []) three
    (λ c i. filter_along s rs c i.0 mm_cfg_at (2 ^ mm_enable) cfg (λ g m. absurd (no_match m)) (λ g e some. (x, y, is p refl, i.1, i.2)))
packets_rest u rs None is b q = filter_along (on S u) rs b q mm_cfg_at 0 (mathlib.Core.List.Memᴰ.head refl) (λ g m. absurd (no_match m)) (λ g e some. absurd (some refl))

pub filters_rest : (d : Device) (u : Setup) (rs : List Request) (ps : List Place) (b : List Write) → AllQuiet (on d u) b
    → Along (AtRest (on d u) rs) b (filter_writes d (settings_of (on d u) rs ps)) × AllQuiet (on d u) (b ++ filter_writes d (settings_of (on d u) rs ps))
unfolding filter_writes offcore_writes filters_at settings_of
filters_rest G u rs ps b q =
    let t = settings_of (on G u) rs ps in
    let s : Setup = on G u in
    along_then (AtRest s rs) (AllQuiet s) (AllQuiet s) b ((rsp0_at, t.rsp0) ∷ []) ((rsp1_at, t.rsp1) ∷ [])
    (filter_along s rs b q rsp0_at t.rsp0 (mathlib.Core.List.Memᴰ.head refl) (λ g. absurd (devices_differ g)) (λ g. absurd (devices_differ g)))
    (λ c i. filter_along s rs c i rsp1_at t.rsp1 (mathlib.Core.List.Memᴰ.tail (mathlib.Core.List.Memᴰ.head refl)) (λ g. absurd (devices_differ g)) (λ g. absurd (devices_differ g)))
filters_rest S u rs ps b q = let asked = flat_map packets_of rs in packets_rest u rs (head_of asked) (asked_first asked) b q
filters_rest (C b) u rs ps b' q = (tt, rw (append-nil b') q)
filters_rest B u rs ps b q = (tt, rw (append-nil b) q)
