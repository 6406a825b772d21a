-- The register values of a plan with one more request in front: what code that goes from the last request to the first stores over what is there.
use Rattle.std.specs.Prelude.{List, [], ◌∷◌, not, ℕ, ◌+◌, ◌^◌, ltb, set}
use Rattle.requests.specs.declared.CounterSet.{CounterSet}
use Rattle.requests.specs.declared.Device.{Device}
use Rattle.requests.specs.declared.Setup.{Setup}
use Rattle.requests.specs.declared.Request.{Request}
use Rattle.std.specs.Option.{option_or}
use Rattle.requests.specs.Choice.{both, pick}
use Rattle.requests.specs.Devices.{has, counter_count}
use Rattle.plans.specs.declared.Place.{Place}
use Rattle.plans.specs.Places.{counters_of}
use Rattle.plans.specs.Legal.{words_of, packets_of}
use Rattle.layouts.specs.Settings.{uses_of, head_of, head_or}
use Rattle.layouts.specs.declared.Settings.{Settings}

-- the set with counter k, where the device has it
unfoldable pub with_counter : Device → ℕ → CounterSet → CounterSet
with_counter d k u = pick (both (ltb k (counter_count d)) (not (has u k))) (record { 0 = u.0 + 2 ^ k }) u

-- the set with the counters of a list
unfoldable pub with_counters : Device → List ℕ → CounterSet → CounterSet
with_counters d [] u = u
with_counters d (k ∷ ks) u = with_counter d k (with_counters d ks u)

-- the control words with those of a list of uses, an earlier one over a later one
unfoldable pub with_uses : List (ℕ × ℕ) → List ℕ → List ℕ
with_uses [] words = words
with_uses (x ∷ xs) words = set (with_uses xs words) x.0 x.1

-- the match/mask register with what a request asks of it
unfoldable pub with_packets : Request → Settings → Settings
with_packets r t =
    record {
      used = t.used;
      words = t.words;
      rsp0 = t.rsp0;
      rsp1 = t.rsp1;
      packet = option_or (head_of (packets_of r)) t.packet;
    }

-- the used counters and the filter registers with one more request in front; the control words stay
unfoldable pub others_with : Setup → Request → Place → Settings → Settings
others_with s r p t =
    record {
      used = with_counters s.device (counters_of p) t.used;
      words = t.words;
      rsp0 = head_or t.rsp0 (words_of 0 r p);
      rsp1 = head_or t.rsp1 (words_of 1 r p);
      packet = (with_packets r t).packet;
    }

-- register values with other control words
abbrev pub with_words : List ℕ → Settings → Settings
with_words words t =
    record {
      used = t.used;
      words = words;
      rsp0 = t.rsp0;
      rsp1 = t.rsp1;
      packet = t.packet;
    }

-- the register values with one more request in front
unfoldable pub settings_with : Setup → Request → Place → Settings → Settings
settings_with s r p t = with_words (with_uses (uses_of s r p) t.words) (others_with s r p t)
