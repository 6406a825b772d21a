-- The register values of a plan are those of its rest with the first request added.
use Rattle.std.specs.Option.{option_or}
use Rattle.std.specs.Prelude.{None}
use mathlib.Core.Path.{◌≡◌, refl, ap, ◌∙◌}
use mathlib.Core.List.{List, [], ◌∷◌, ◌++◌, flat_map}
use mathlib.Core.Bool.{Bool, false}
use Prim.Native.Nat.{ℕ, zero, suc, ◌+◌, ◌-◌, ◌<◌, ◌≤◌}
use native.Mathlib.Omega.{arith}
use lib.ListN.{length, get_or, take, drop, set, replicate}
use Rattle.requests.specs.declared.Setup.{Setup}
use Rattle.requests.specs.declared.Request.{Request}
use Rattle.requests.specs.Bits.{in_list}
use Rattle.requests.specs.Devices.{counter_count, capacity}
use Rattle.plans.specs.declared.Place.{Place}
use Rattle.plans.specs.Places.{counters_of}
use Rattle.plans.specs.Legal.{words_of, packets_of, of_all, counters}
use Rattle.search.specs.Rows.{request_at, rows_from}
use Rattle.plans.specs.Packed.{place_at_lem, places_from}
use Rattle.search.proofs.RequestRows.{rows_next}
use Rattle.layouts.specs.Layout.{tabulate}
use Rattle.layouts.specs.Settings.{uses_of, word_at, set_from, head_of, head_or, settings_of}
use Rattle.layouts.specs.declared.Settings.{Settings}
use Rattle.registers.specs.Adding.{with_uses, with_packets, others_with, settings_with}
use Rattle.registers.proofs.UsedCounters.{set_of, used_more}
use Rattle.layouts.proofs.Tabulated.{tabulate_set}
use Rattle.requests.proofs.Windows.{window_step}

head_more : {A : Type 0} (a : A) (xs ys : List A) → head_or a (xs ++ ys) ≡ head_or (head_or a ys) xs
head_more a [] ys = refl
head_more a (x ∷ xs) ys = refl

first_more : {A : Type 0} (xs ys : List A) → head_of (xs ++ ys) ≡ option_or (head_of xs) (head_of ys)
first_more [] ys = refl
first_more (x ∷ xs) ys = refl

-- uses in front are stores
words_more : (xs us : List (ℕ × ℕ)) → tabulate capacity (word_at (xs ++ us)) ≡ with_uses xs (tabulate capacity (word_at us))
unfolding with_uses word_at
words_more [] us = refl
words_more (x ∷ xs) us =
    tabulate_set capacity x.0 x.1 (word_at (xs ++ us)) ∙ ap (λ (ws : List ℕ). set ws x.0 x.1) (words_more xs us)

-- a plan with one request more in front
pub settings_add : (s : Setup) (r : Request) (p : Place) (rs : List Request) (ps : List Place)
    → settings_with s r p (settings_of s rs ps) ≡ settings_of s (r ∷ rs) (p ∷ ps)
unfolding settings_of settings_with others_with with_packets of_all counters flat_map
settings_add s r p rs ps =
    rw (
      used_more s.device (counters_of p) (counters ps),
      words_more (uses_of s r p) (of_all (uses_of s) rs ps),
      head_more 0 (words_of 0 r p) (of_all (words_of 0) rs ps),
      head_more 0 (words_of 1 r p) (of_all (words_of 1) rs ps),
      first_more (packets_of r) (flat_map packets_of rs),
    )

-- no counter passes
set_none : (n k : ℕ) (on : ℕ → Bool) → ((j : ℕ) → on j ≡ false) → set_from n k on ≡ 0
unfolding set_from
set_none zero k on h = refl
set_none (suc n) k on h = rw (h k, set_none n (suc k) on h)

-- the register values of no request
pub settings_none : (s : Setup)
    → record { used = set_of 0; words = replicate 8 0; rsp0 = 0; rsp1 = 0; packet = None } ≡ settings_of s [] []
unfolding settings_of of_all counters flat_map in_list word_at tabulate capacity
settings_none s = rw (set_none (counter_count s.device) 0 (in_list []) (λ j. refl))

-- ---- requests and places in their arrays, of which the first count are in use

module _ (s : Setup) (count : ℕ) (rs : List Request) (ps : List Place) where
  -- the request before
  pub settings_before : (left : ℕ) (r : Request) (p : Place) → 0 < left → left ≤ count → left ≤ length rs → left ≤ length ps
      → settings_with s (get_or rs (left - 1) r) (get_or ps (left - 1) p) (settings_of s (drop left (take count rs)) (drop left (take count ps)))
      ≡ settings_of s (drop (left - 1) (take count rs)) (drop (left - 1) (take count ps))
  settings_before left r p some within ofRequests ofPlaces =
      let e : left - 1 + 1 ≡ left = omega arith in
      let requests = rw e at (window_step rs count (left - 1) r (omega arith) (omega arith)) in
      let places = rw e at (window_step ps count (left - 1) p (omega arith) (omega arith)) in
      rw (requests, places) (settings_add s (get_or rs (left - 1) r) (get_or ps (left - 1) p) (drop left (take count rs)) (drop left (take count ps)))

-- ---- requests in rows, and places in a packed plan

module _ (s : Setup) (code : ℕ) (rows : List ℕ) (count : ℕ) where
  -- the register values of the rows from number i on
  abbrev pub settings_from : ℕ → Settings
  settings_from i = settings_of s (rows_from rows i (count - i)) (places_from code i (rows_from rows i (count - i)))

  -- past the last row
  pub rows_past : settings_of s [] [] ≡ settings_from count
  unfolding rows_from places_from
  rows_past = let e : count - count ≡ 0 = omega arith in rw e

  -- the row before
  pub rows_before : (left : ℕ) → 0 < left → left ≤ count
      → settings_with s (request_at rows (left - 1)) (place_at_lem code (left - 1) (request_at rows (left - 1))) (settings_from left) ≡ settings_from (left - 1)
  unfolding places_from
  rows_before left some within =
      let e : left - 1 + 1 ≡ left = omega arith in
      let next = rw e at (rows_next rows (left - 1) count (omega arith)) in
      rw (next, e) (settings_add s (request_at rows (left - 1)) _ (rows_from rows left (count - left)) _)
