-- What the RSP registers hold for a latency request: `LatencyHeld`, by the one word of each register (`one-value`). Assumes nothing.
use mathlib.Core.Path.{◌≡◌, refl, sym, subst}
use mathlib.Core.List.Memᴰ
use mathlib.Core.List.{List, ◌++◌, Memᴰ}
use Prim.Native.Nat.{ℕ, ◌^◌, ◌<◌}
use native.Mathlib.Omega.{arith}
use Rattle.requests.specs.declared.CounterSet.{CounterSet}
use Rattle.requests.specs.declared.Device.{Device}
use Rattle.requests.specs.declared.Device.TheVariants.{G}
use Rattle.requests.specs.declared.Setup.{Setup}
use Rattle.requests.specs.declared.Request.{Request}
use Rattle.requests.specs.declared.Request.TheVariants.{Latency}
use Rattle.requests.specs.Bits.{latency_word}
use Rattle.requests.specs.LatencyWords.{TypeWith}
use Rattle.requests.specs.WellFormedRequests.{Described, latency}
use Rattle.requests.proofs.LatencyWords.{latency_words}
use Rattle.plans.specs.declared.Place.{Place}
use Rattle.plans.specs.Lists.{All, Each, and}
use Rattle.plans.specs.Legal.{Allowed, Legal, words_of, of_all}
use Rattle.layouts.specs.Layout.{rsp0_at, rsp1_at}
use Rattle.layouts.specs.Settings.{head_or}
use Rattle.layouts.specs.Writes.{writes, apply}
use Rattle.layouts.specs.LatencyHeld.{LatencyHeld}
use Rattle.layouts.proofs.UsableSets.{on}
use Rattle.layouts.proofs.ListLaws.{all_member, one_value}
use Rattle.layouts.proofs.OffcoreWords.{types_below}
use Rattle.layouts.proofs.FormedRequests.{describe_all}
use Rattle.layouts.proofs.LeftValues.{rsp0_left, rsp1_left}

types_low : (s : Setup) (t : ℕ) (a b : CounterSet) → Described s (Latency t a b) → t < 2 ^ 16
types_low s t a b (latency g h o c d) = types_below t h

-- it asks a word of each register
word_asked : (i t : ℕ) (a b : CounterSet) {rs : List Request} {ps : List Place} → Each Allowed rs ps → Memᴰ (Latency t a b) rs
    → Memᴰ (latency_word i t) (of_all (words_of i) rs ps)
unfolding of_all words_of
word_asked i t a b (and {b = p} {s = rs} {t = ps} h es) (Memᴰ.head e) =
    subst (λ (r : Request). Memᴰ (latency_word i t) (words_of i r p ++ of_all (words_of i) rs ps)) e (Memᴰ.head refl)
word_asked i t a b (and {a = r} {b = p} h es) (Memᴰ.tail m) = Memᴰ.append_right (words_of i r p) (word_asked i t a b es m)
word_asked i t a b Rattle.plans.specs.Lists.none x4 = elim x4 [ ]

module _ (u : Setup) (rs : List Request) (ps : List Place) (t : ℕ) (a b : CounterSet) (m : Memᴰ (Latency t a b) rs) (registers : ℕ → ℕ) where
  first_on : All (Described (on G u)) rs → Legal (on G u) rs ps → TypeWith 38 t (apply (writes (on G u) rs ps) registers 0x01A6)
  unfolding rsp0_at
  first_on described legal k =
      let held : latency_word 0 t ≡ head_or 0 (of_all (words_of 0) rs ps) =
      all_member (one_value 0 (of_all (words_of 0) rs ps) (legal.one_word 0 (omega arith))) (word_asked 0 t a b legal.allowed m) in
      rw (rsp0_left u rs ps registers, ← held) (latency_words.first t (types_low (on G u) t a b (all_member described m)) k)

  second_on : All (Described (on G u)) rs → Legal (on G u) rs ps → TypeWith 16 t (apply (writes (on G u) rs ps) registers 0x01A7)
  unfolding rsp1_at
  second_on described legal k =
      let held : latency_word 1 t ≡ head_or 0 (of_all (words_of 1) rs ps) =
      all_member (one_value 0 (of_all (words_of 1) rs ps) (legal.one_word 1 (omega arith))) (word_asked 1 t a b legal.allowed m) in
      rw (rsp1_left u rs ps registers, ← held) (latency_words.second t (types_low (on G u) t a b (all_member described m)) k)

-- on G: with its own device a setup is itself
on_g_lem : (P : Setup → Type 0) (s : Setup) → s.device ≡ G → P (on G s) → P s
on_g_lem P s g h = subst (λ (d : Device). P (on d s)) (sym g) h

pub latency_held : LatencyHeld
latency_held =
    record {
      first = λ s rs ps t a b g formed legal m registers.
          on_g_lem (λ s. All (Described s) rs → Legal s rs ps → TypeWith 38 t (apply (writes s rs ps) registers 0x01A6)) s g (first_on s rs ps t a b m registers) (describe_all s formed) legal;
      second = λ s rs ps t a b g formed legal m registers.
          on_g_lem (λ s. All (Described s) rs → Legal s rs ps → TypeWith 16 t (apply (writes s rs ps) registers 0x01A7)) s g (second_on s rs ps t a b m registers) (describe_all s formed) legal;
    }
