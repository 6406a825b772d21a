-- The register values of a plan.
use mathlib.Core.List.{List, [], ◌∷◌, flat_map}
use Rattle.std.specs.Prelude.{Option, None, Some, Bool, true, false, ℕ, zero, suc, ◌+◌, ◌*◌, eqb}
use Rattle.requests.specs.declared.Setup.{Setup}
use Rattle.requests.specs.declared.Request.{Request}
use Rattle.requests.specs.declared.Request.TheVariants.{Event, Packet, Offcore, Latency}
use Rattle.requests.specs.Choice.{pick}
use Rattle.requests.specs.Bits.{in_list}
use Rattle.requests.specs.Devices.{counter_count, capacity}
use Rattle.plans.specs.declared.Place.{Place}
use Rattle.plans.specs.Places.{first, second}
use Rattle.plans.specs.Legal.{words_of, packets_of, of_all, counters}
use Rattle.layouts.specs.Layout.{tabulate, event_word, rsp_word, packet_word}
use Rattle.layouts.specs.declared.Settings.{Settings}

-- the counters of a placed request, with their control words
unfoldable pub uses_of : Setup → Request → Place → List (ℕ × ℕ)
uses_of s (Event c m a) p = (first p, event_word s c m) ∷ []
uses_of s (Packet x y a) p = (first p, packet_word s) ∷ []
uses_of s (Offcore w a) p = (first p, rsp_word s (second p)) ∷ []
uses_of s (Latency t a b) p = (first p, rsp_word s 0) ∷ (second p, rsp_word s 1) ∷ []

-- the control word of counter k, 0 where it has no use
unfoldable pub word_at : List (ℕ × ℕ) → ℕ → ℕ
word_at [] k = 0
word_at (x ∷ xs) k = pick (eqb x.0 k) x.1 (word_at xs k)

-- the set of those n counters, from k on, that pass the test
unfoldable pub set_from : ℕ → ℕ → (ℕ → Bool) → ℕ
set_from zero k on = 0
set_from (suc n) k on = pick (on k) 1 0 + 2 * set_from n (suc k) on

-- the first element, or a where there is none
abbrev pub head_or : {A : Type 0} → A → List A → A
head_or a [] = a
head_or a (x ∷ xs) = x

-- the first element, if there is one
abbrev pub head_of : {A : Type 0} → List A → Option A
head_of [] = None
head_of (x ∷ xs) = Some x

-- whether there is an element
abbrev pub nonempty : {A : Type 0} → List A → Bool
nonempty [] = false
nonempty (x ∷ xs) = true

-- "each RSP register holds the one word that all its users asked for", "0 where unused"
unfoldable pub settings_of : Setup → List Request → List Place → Settings
settings_of s rs ps =
    record {
      used = record { 0 = set_from (counter_count s.device) 0 (in_list (counters ps)) };
      words = tabulate capacity (word_at (of_all (uses_of s) rs ps));
      rsp0 = head_or 0 (of_all (words_of 0) rs ps);
      rsp1 = head_or 0 (of_all (words_of 1) rs ps);
      packet = head_of (flat_map packets_of rs);
    }
