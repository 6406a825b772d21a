-- The request of a name: the row's event, or one that is refused with 7 or 8. Assumes nothing.
use Rattle.std.specs.Prelude.{Some, Option, None}
use mathlib.Core.Path.{◌≡◌, refl}
use mathlib.Core.Bool.{Bool, true, false}
use mathlib.Core.List.{List}
use Prim.Native.Nat.{ℕ}
use native.Mathlib.Omega.{arith}
use lib.Dec.{eqb}
use borrow.Author.Tests.{eq-eqb, ne_eqb}
use Rattle.requests.specs.Choice.{both, either, pick, first_holding}
use Rattle.requests.specs.Devices.{letter_of, packets_on, offcore_on, pairs_judged}
use Rattle.requests.specs.MaskRules.{allows}
use Rattle.requests.specs.CBoxEvents.{cbox_events}
use Rattle.requests.specs.Catalogue.{architectural_events, precise_events, events_of, code_in, pair_in}
use Rattle.requests.specs.Checks.{kind_not_on, not_listed_lem, request_rows, request_refusal}
use Rattle.requests.specs.declared.CounterSet.{CounterSet}
use Rattle.requests.specs.declared.Device.{Device}
use Rattle.requests.specs.declared.Device.TheVariants.{G, S, C, B}
use Rattle.requests.specs.declared.Refusal.TheVariants.{KindNotOnDevice, NotListed}
use Rattle.requests.specs.declared.Request.TheVariants.{Event, Packet, Offcore}
use Rattle.requests.specs.declared.Setup.{Setup}
use Rattle.grammar.specs.Fields.{field_at}
use Rattle.grammar.specs.Records.{Decimal, AddFits}
use Rattle.names.specs.Rows.{row_of}
use Rattle.names.specs.Lists.{NameLists}
use Rattle.names.specs.RowGrammar.{RowFits}
use Rattle.names.specs.LookUp.{row_named, shown}
use Rattle.names.specs.Named.{unlisted, foreign, request_for, request_named}
use Rattle.names.specs.NamedRequests.{NamedRequests}
use Rattle.names.specs.declared.Row.{Row}
use Rattle.names.proofs.RowReading.{no_text}
use Rattle.names.proofs.GrammarHolds.{row_grammar}

-- a row for the device, and a row for another
module _ (r : Row) (d : Device) (a : CounterSet) where
  pub request_here : letter_of r.device ≡ letter_of d → request_for (Some r) d a ≡ Event r.code r.mask a
  unfolding request_for
  request_here e = rw (eq-eqb (letter_of r.device) (letter_of d) e)

  pub request_elsewhere : ¬ (letter_of r.device ≡ letter_of d) → request_for (Some r) d a ≡ foreign d a
  unfolding request_for
  request_elsewhere n = rw (ne_eqb (letter_of r.device) (letter_of d) n)

-- 7
foreign_kind : (d : Device) (a : CounterSet) → kind_not_on d (foreign d a) ≡ true
unfolding kind_not_on foreign packets_on offcore_on
foreign_kind G a = refl
foreign_kind S a = refl
foreign_kind (C b) a = refl
foreign_kind B a = refl

foreign_refused : (s : Setup) (a : CounterSet) → request_refusal s (foreign s.device a) ≡ Some KindNotOnDevice
unfolding request_refusal request_rows first_holding
foreign_refused s a = rw (foreign_kind s.device a, first_holding)

-- 8
unlisted_pair : (d : Device) (a : CounterSet) → not_listed_lem d (unlisted a) ≡ true
unfolding not_listed_lem unlisted pairs_judged architectural_events precise_events events_of cbox_events pair_in code_in allows both either
unlisted_pair G a = refl
unlisted_pair S a = refl
unlisted_pair (C b) a = refl
unlisted_pair B a = refl

unlisted_kind : (d : Device) (a : CounterSet) → kind_not_on d (unlisted a) ≡ false
unfolding kind_not_on unlisted
unlisted_kind G a = refl
unlisted_kind S a = refl
unlisted_kind (C b) a = refl
unlisted_kind B a = refl

unlisted_refused : (s : Setup) (a : CounterSet) → request_refusal s (unlisted a) ≡ Some NotListed
unfolding request_refusal request_rows first_holding
unlisted_refused s a = rw (unlisted_kind s.device a, unlisted_pair s.device a, first_holding)

no_row_request : (d : Device) (a : CounterSet) → request_for None d a ≡ unlisted a
unfolding request_for
no_row_request d a = refl

pub named_requests : NamedRequests
unfolding request_named
named_requests =
    record {
      found = λ n name row d a f here. rw (f.at, f.says) (request_here row d a here);
      elsewhere = λ n name row s a f other. rw (f.at, f.says, request_elsewhere row s.device a other) (foreign_refused s a);
      missing = λ n name s a f. rw (f, no_text, no_row_request s.device a) (unlisted_refused s a);
    }

-- the numbers of the request fit the fields of a line
read_fits : (x : Option Row) (t : List ℕ) → row_of t ≡ x → (d : Device) (id : ℕ) (a : CounterSet) → Decimal id → Decimal a.0 → AddFits id (request_for x d a)
unfolding request_for unlisted foreign
read_fits None t e d id a h k = (h, omega arith, omega arith, k)
read_fits (Some r) t e d id a h k = go (eqb (letter_of r.device) (letter_of d)) (packets_on d) (row_grammar.only t r e).0
  where
    go : (here packets : Bool) → RowFits (record { name = field_at t 0; row = r })
        → AddFits id (pick here (Event r.code r.mask a) (pick packets (Offcore 0 a) (Packet 0 0 a)))
    go true packets f = (h, f.code_fits, f.mask_fits, k)
    go false true f = (h, omega arith, k)
    go false false f = (h, omega arith, omega arith, k)

pub request_fits : (n : NameLists) (name : List ℕ) (d : Device) (id : ℕ) (a : CounterSet) → Decimal id → Decimal a.0 → AddFits id (request_named n name d a)
unfolding request_named
request_fits n name d id a h k = read_fits (row_of (shown (row_named n name))) (shown (row_named n name)) refl d id a h k
