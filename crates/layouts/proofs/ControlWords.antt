-- The control words of plans: an event's, an RSP register's, the match/mask register's. Assumes nothing.
--     listed         codes and masks of listed events are below 256, and no code is that of a filter event
--     ControlWord    the control words that a plan may have
--     word-parts, word-some, word-high, word-clean   such a word gives its code and mask back, is not 0, has the enable bits, and no reserved bit
--     plan-words     the words of a plan of well-formed requests are such words
use mathlib.Core.Path.{◌≡◌, refl, sym, ap, ◌∙◌}
use mathlib.Core.Logic.{inr}
use mathlib.Core.Bool.{Bool, true, false}
use mathlib.Core.List.{List, [], ◌∷◌}
use Prim.Native.Nat.{ℕ, ◌/◌, ◌^◌, ◌<◌}
use native.Mathlib.Decide.{dec_lt}
use native.Mathlib.Omega.{arith}
use lib.Dec.{eqb}
use Rattle.requests.specs.Choice.{pick}
use Rattle.requests.specs.declared.Device.{Device}
use Rattle.requests.specs.declared.Device.TheVariants.{G, S}
use Rattle.requests.specs.declared.Setup.{Setup}
use Rattle.requests.specs.declared.Request.{Request}
use Rattle.requests.specs.Bits.{in_list, only_bits}
use Rattle.requests.specs.Catalogue.{events_of, pair_in}
use Rattle.requests.specs.WellFormedRequests.{Described, event, packet, offcore, latency}
use Rattle.requests.proofs.Tests.{every_at}
use Rattle.plans.specs.declared.Place.{Place}
use Rattle.plans.specs.Lists.{All, nil, cons, Each, none, and}
use Rattle.plans.specs.Places.{first, second}
use Rattle.plans.specs.Legal.{Allowed, of_all}
use Rattle.plans.specs.Legal as plans
use Rattle.layouts.specs.Layout.{control_bits, enabled, event_word, code_of, mask_of, offcore_code, rsp_mask, rsp_word, packet_word}
use Rattle.layouts.specs.Settings.{uses_of, word_at}
use Rattle.layouts.proofs.ListedEvents.{Listed, row_listed}
use Rattle.layouts.proofs.DeviceFacts.{filter_code, facts}
use Rattle.layouts.proofs.EnableBits.{enables}
use Rattle.layouts.proofs.WordBits.{bit_high, bits_only, only_cases}

-- ---- listed events

pub listed : (d : Device) (c m : ℕ) → pair_in (events_of d) c m ≡ true → Listed (filter_code d) c m
listed d c m h = row_listed (filter_code d) c m (events_of d) (facts d).events h

-- ---- control words

-- the word of a listed event, of a counter on an RSP register, or of a counter of packets
pub data ControlWord (s : Setup) (w : ℕ) : Type 0 where
  listed_event : (c m : ℕ) → pair_in (events_of s.device) c m ≡ true → w ≡ event_word s c m → ControlWord s w
  rsp_event : (i : ℕ) → s.device ≡ G → i < 2 → w ≡ rsp_word s i → ControlWord s w
  packet_event : s.device ≡ S → w ≡ packet_word s → ControlWord s w

-- a word with a code and a mask of 8 bits each gives them back, and agrees with the enable bits above
pub record WordParts (s : Setup) (c m : ℕ) : Type 0 where
  pub code : code_of (event_word s c m) ≡ c
  pub mask : mask_of (event_word s c m) ≡ m
  pub above : event_word s c m / 2 ^ 16 ≡ enabled s / 2 ^ 16
  pub some_bit : event_word s c m ≡ 0 → ⊥
  pub fits : event_word s c m < 2 ^ 64

pub word_parts : (s : Setup) (c m : ℕ) → c < 256 → m < 256 → WordParts s c m
unfolding event_word code_of mask_of
word_parts s c m l k =
    let low = (enables s).above in
    let small = (enables s).small in
    let some = (enables s).some in
    record { code = omega arith; mask = omega arith; above = omega arith; some_bit = λ e. omega arith; fits = omega arith }

-- a control word has a code and a mask of 8 bits each
record CodeAndMask (s : Setup) (w : ℕ) : Type 0 where
  pub code : ℕ
  pub mask : ℕ
  pub code_below : code < 256
  pub mask_below : mask < 256
  pub word : w ≡ event_word s code mask

word_code_mask : (s : Setup) (w : ℕ) → ControlWord s w → CodeAndMask s w
unfolding rsp_word packet_word offcore_code rsp_mask
word_code_mask s w (listed_event c m h e) =
    let l = listed s.device c m h in
    record { code = c; mask = m; code_below = l.code; mask_below = l.mask; word = e }
word_code_mask s w (rsp_event i g l e) = record { code = 0xB7; mask = pick (eqb i 0) 1 2; code_below = omega arith; mask_below = go (eqb i 0); word = e }
  where
    go : (b : Bool) → pick b 1 2 < 256
    go true = omega arith
    go false = omega arith
word_code_mask s w (packet_event g e) = record { code = 0; mask = 0; code_below = omega arith; mask_below = omega arith; word = e }

pub word_some : (s : Setup) (w : ℕ) → ControlWord s w → w ≡ 0 → ⊥
word_some s w h e =
    let v = word_code_mask s w h in
    (word_parts s v.code v.mask v.code_below v.mask_below).some_bit (sym v.word ∙ e)

-- from bit 16 on it has the session's enable bits
pub word_high : (s : Setup) (w : ℕ) → ControlWord s w → w / 2 ^ 16 ≡ enabled s / 2 ^ 16
word_high s w h =
    let v = word_code_mask s w h in
    ap (λ (x : ℕ). x / 2 ^ 16) v.word ∙ (word_parts s v.code v.mask v.code_below v.mask_below).above

-- code and mask are below the enable bits, and every bit of them is permitted
pub word_clean : (s : Setup) (w : ℕ) → ControlWord s w → only_bits (control_bits s.device) w ≡ true
word_clean s w h =
    let d = s.device in
    let v = word_code_mask s w h in
    let p = word_parts s v.code v.mask v.code_below v.mask_below in
    rw v.word
    (bits_only (control_bits d) (event_word s v.code v.mask) p.fits
    (λ k l. elim (dec_lt k 16) [
      | yes low ↦ inr (every_at 16 (in_list (control_bits d)) (facts d).low_permitted k low)
      | no o ↦ rw (bit_high 16 k (event_word s v.code v.mask) (enabled s) (let y = o in omega arith) p.above) (only_cases (control_bits d) k (enabled s) (enables s).permitted l)
    ]))

-- ---- the words of a plan

pub plan_words : (s : Setup) {rs : List Request} {ps : List Place} → All (Described s) rs → Each Allowed rs ps → All (λ (u : ℕ × ℕ). ControlWord s u.1) (of_all (uses_of s) rs ps)
unfolding of_all uses_of first second
plan_words s nil none = nil
plan_words s (cons (event {c = c} {m = m} h a) fs) (and (plans.event b) es) = cons (listed_event c m h refl) (plan_words s fs es)
plan_words s (cons (packet g x y a) fs) (and (plans.packet b) es) = cons (packet_event g refl) (plan_words s fs es)
plan_words s (cons (offcore g h t o a) fs) (and (plans.offcore {k = k} {i = i} b l) es) = cons (rsp_event i g l refl) (plan_words s fs es)
plan_words s (cons (latency g h t a b) fs) (and (plans.latency c x) es) = cons (rsp_event 0 g (omega arith) refl) (cons (rsp_event 1 g (omega arith) refl) (plan_words s fs es))

-- what holds of 0 and of every use's word holds of the word of a counter
pub word_at_lem : (P : ℕ → Type 0) (us : List (ℕ × ℕ)) (k : ℕ) → P 0 → All (λ (u : ℕ × ℕ). P u.1) us → P (word_at us k)
unfolding word_at
word_at_lem P [] k z h = z
word_at_lem P (u ∷ us) k z (cons h hs) = go (eqb u.0 k) (word_at_lem P us k z hs)
  where
    go : (b : Bool) → P (word_at us k) → P (pick b u.1 (word_at us k))
    go true q = h
    go false q = q
