-- Document 01, the reader: what it answers.
use Rattle.std.specs.Prelude.{Bool, true, false, not, ℕ, zero, suc, ◌+◌, ◌%◌, ◌^◌, leb, eqb, get_or, replicate, List, None, Some, Result, Ok, Err}
use Rattle.requests.specs.declared.CounterSet.{CounterSet}
use Rattle.requests.specs.declared.Device.{Device}
use Rattle.requests.specs.declared.Device.TheVariants.{G, S, C, B}
use Rattle.requests.specs.declared.Opening.{Opening}
use Rattle.requests.specs.declared.Setup.{Setup}
use Rattle.requests.specs.declared.Request.TheVariants.{Event, Packet, Offcore, Latency}
use Rattle.requests.specs.Answers.{Answer}
use Rattle.requests.specs.declared.Refusal.{Refusal}
use Rattle.requests.specs.declared.Refusal.TheVariants.{BadOpening, NotLeftByPlan}
use Rattle.requests.specs.Choice.{both, either, every, pick}
use Rattle.requests.specs.Bits.{outstanding, latency_word}
use Rattle.requests.specs.Devices.{has, counter_count, all_counters, capacity, setup_of}
use Rattle.requests.specs.Askings.{asked}
use Rattle.requests.specs.EventRules.{rule_of}
use Rattle.requests.specs.Checks.{formed}
use Rattle.requests.specs.declared.EventRule.{EventRule}
use Rattle.requests.specs.declared.EventRule.TheVariants.{Anywhere, OnlyOn, AloneOn}
use Rattle.layouts.specs.Layout.{tabulate, pebs_on, mm_enable, event_word, rsp_word, packet_word, code_of, mask_of}
use Rattle.layouts.specs.Settings.{set_from}
use Rattle.layouts.specs.Writes.{last_global, ubox_value, pebs_enable}
use Rattle.layouts.specs.declared.FilterValues.{FilterValues}
use Rattle.layouts.specs.declared.RegisterValues.{RegisterValues}
use Rattle.layouts.specs.declared.FilterRead.{FilterRead}
use Rattle.layouts.specs.declared.FilterRead.TheVariants.{NoFilter, Rsp, MatchMask}
use Rattle.layouts.specs.declared.CounterState.{CounterState}
use Rattle.layouts.specs.declared.CounterState.TheVariants.{NotOurs, Off, Counts}

-- the control values that are looked at: 0 for a counter that is not usable
unfoldable pub ours : Setup → RegisterValues → ℕ → ℕ
ours s v k = pick (has s.usable k) (get_or v.control k 0) 0

-- how many of the numbers below n have the word
unfoldable pub count : ℕ → (ℕ → ℕ) → ℕ → ℕ
count zero f w = 0
count (suc k) f w = count k f w + pick (eqb (f k) w) 1 0

-- no counter: whether a word is well-formed does not depend on the allowed set
abbrev pub no_counter : CounterSet
no_counter = record { 0 = 0 }

-- ---- which values some plan leaves

-- the control word of a filter event: of an RSP register on G, of the match/mask register on S; C and B have none
unfoldable pub filter_word : Setup → ℕ → Bool
filter_word s w =
    elim s.device [
      | G ↦ either (eqb w (rsp_word s 0)) (eqb w (rsp_word s 1))
      | S ↦ eqb w (packet_word s)
      | C b ↦ false
      | B ↦ false
    ]

-- a control value: 0, or the word of a well-formed event or of a filter event
unfoldable pub control_fits : Setup → ℕ → Bool
control_fits s w =
    either (eqb w 0)
    (either (filter_word s w)
    (both (eqb w (event_word s (code_of w) (mask_of w))) (formed s (Event (code_of w) (mask_of w) no_counter))))

-- RSP1 with n1 counters on it: "an unused RSP must be 0"
unfoldable pub rsp1_fits : Setup → ℕ → ℕ → Bool
rsp1_fits s n1 w1 = pick (eqb n1 0) (eqb w1 0) (formed s (Offcore w1 no_counter))

-- "a latency word needs the matching type with bit 16 in RSP1, and at least as many counters on RSP1 as on RSP0"
unfoldable pub latency_fits : Setup → ℕ → ℕ → ℕ → ℕ → Bool
latency_fits s n0 n1 w0 w1 =
    let t = w0 % 2 ^ outstanding in
    both (eqb w0 (latency_word 0 t)) (both (formed s (Latency t no_counter no_counter)) (both (eqb w1 (latency_word 1 t)) (leb n0 n1)))

-- RSP0 with n0 counters on it
unfoldable pub rsp0_fits : Setup → ℕ → ℕ → ℕ → ℕ → Bool
rsp0_fits s n0 n1 w0 w1 = pick (eqb n0 0) (eqb w0 0) (either (formed s (Offcore w0 no_counter)) (latency_fits s n0 n1 w0 w1))

-- MM_CFG, MATCH and MASK with n counters of packets: MM_CFG is 2^63 where there are some, and otherwise 0. Order 5: no bit outside the fields
-- of match and mask "where MM_CFG is 2^63"
unfoldable pub packets_fit : Setup → ℕ → FilterValues → Bool
packets_fit s n v =
    pick (eqb n 0) (eqb v.mm_cfg 0) (both (eqb v.mm_cfg (2 ^ mm_enable)) (formed s (Packet v.match_word v.mask_word no_counter)))

-- the filter values beside the control values f
unfoldable pub filters_fit : Setup → (ℕ → ℕ) → FilterValues → Bool
filters_fit s f v =
    let n = counter_count s.device in
    elim s.device [
      | G ↦ let n0 = count n f (rsp_word s 0) in
          let n1 = count n f (rsp_word s 1) in
          both (rsp1_fits s n1 v.rsp1) (rsp0_fits s n0 n1 v.rsp0 v.rsp1)
      | S ↦ packets_fit s (count n f (packet_word s)) v
      | C b ↦ true
      | B ↦ true
    ]

-- the value of the U-Box, which is checked "only where something is asked"
unfoldable pub ubox_fits : Setup → ℕ → Bool
ubox_fits s v = either (not (asked s)) (eqb v (ubox_value s))

-- whether every counter but k is off
unfoldable pub others_off : Setup → (ℕ → ℕ) → ℕ → Bool
others_off s f k = every (counter_count s.device) (λ i. either (eqb i k) (eqb (f i) 0))

-- whether an event with the rule may run on counter k: where it wants every other counter quiet, all are usable and the others are off
unfoldable pub may_run : Setup → (ℕ → ℕ) → ℕ → EventRule → Bool
may_run s f k Anywhere = true
may_run s f k (OnlyOn j) = eqb k j
may_run s f k (AloneOn j) = both (eqb k j) (both (eqb s.usable.0 (all_counters s.device)) (others_off s f k))

-- the rule of the event that counter k counts
unfoldable pub rule_fits : Setup → (ℕ → ℕ) → ℕ → Bool
rule_fits s f k = may_run s f k (rule_of s.device (code_of (f k)) (mask_of (f k)))

-- the value of IA32_PEBS_ENABLE beside the control values f, where the device has it
unfoldable pub pebs_fits : Device → (ℕ → ℕ) → ℕ → Bool
pebs_fits d f v = either (not (pebs_on d)) (eqb v (pebs_enable f))

-- whether some plan leaves the values
unfoldable pub accepts : Setup → RegisterValues → Bool
accepts s v =
    let n = counter_count s.device in
    both (every n (λ k. control_fits s (ours s v k)))
    (both (eqb v.global (last_global s (set_from n 0 (λ k. not (eqb (ours s v k) 0)))))
    (both (filters_fit s (ours s v) v.filters)
    (both (ubox_fits s v.ubox)
    (both (pebs_fits s.device (ours s v) v.pebs)
    (every n (rule_fits s (ours s v)))))))

-- ---- what is told

-- the filter of a control word
unfoldable pub filter_of : Setup → FilterValues → ℕ → FilterRead
filter_of s v w =
    elim s.device [
      | G ↦ pick (eqb w (rsp_word s 0)) (Rsp 0 v.rsp0) (pick (eqb w (rsp_word s 1)) (Rsp 1 v.rsp1) NoFilter)
      | S ↦ pick (eqb w (packet_word s)) (MatchMask v.match_word v.mask_word) NoFilter
      | C b ↦ NoFilter
      | B ↦ NoFilter
    ]

-- "off, or event with its filter register and words"
unfoldable pub tell : Setup → FilterValues → ℕ → CounterState
tell s v w = pick (eqb w 0) Off (Counts (code_of w) (mask_of w) (filter_of s v w))

-- what the reader answers: the state of each counter, or the refusal
abbrev pub Reading : Type 0
Reading = Result (List CounterState) Refusal

-- its answer, as that of a call
abbrev pub answer_of : Reading → Answer
answer_of (Ok cs) = Ok tt
answer_of (Err x) = Err x

-- the states that it tells; "not ours" everywhere, where it is refused
abbrev pub states_of : Reading → List CounterState
states_of (Ok cs) = cs
states_of (Err x) = replicate capacity NotOurs

-- an accepted reading: each counter of the usable set, the others "not ours"
unfoldable pub reading_of : Setup → RegisterValues → Reading
reading_of s v = Ok (tabulate capacity (λ k. pick (has s.usable k) (tell s v.filters (ours s v k)) NotOurs))

-- the reader's answer
unfoldable pub read_of : Opening → RegisterValues → Reading
read_of o v =
    elim (setup_of o) [
      | None ↦ Err BadOpening
      | Some s ↦ elim (accepts s v) [ true ↦ reading_of s v | false ↦ Err NotLeftByPlan ]
    ]
