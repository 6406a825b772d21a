-- What the reply to a turn says: its plan, line by line, its list, write by write, and its answer. Assumes nothing.
--     assigned-fits    the numbers of a legal plan fit the fields of a `take` line
--     closed-says, opened-says   so a reader gets them back, and the list: the reply before open, and the reply afterwards
--     turn-said        the statement for any session
use Rattle.std.specs.Prelude.{None, Some, Ok, Err}
use mathlib.Core.Path.{◌≡◌, refl, sym, ◌∙◌}
use mathlib.Core.List.{List, [], ◌∷◌, ◌++◌, map, flat_map}
use Prim.Native.Nat.{ℕ, suc, ◌*◌}
use native.Mathlib.Omega.{arith}
use lib.ListN.{length, take, drop, replicate, length-replicate}
use Rattle.requests.specs.declared.Setup.{Setup}
use Rattle.requests.specs.declared.Entry.{Entry}
use Rattle.requests.specs.declared.Request.{Request}
use Rattle.requests.specs.declared.Request.TheVariants.{Event, Packet, Offcore, Latency}
use Rattle.requests.specs.declared.Refusal.TheVariants.{CallOrder}
use Rattle.requests.specs.Devices.{capacity}
use Rattle.requests.specs.Refusals.{number_of, answer_for}
use Rattle.plans.specs.declared.Place.{Place}
use Rattle.plans.specs.Lists.{All, nil, cons, Each, and}
use Rattle.plans.specs.Lists as lists
use Rattle.plans.specs.Places.{Counted, counted_of, counters_of}
use Rattle.plans.specs.Legal.{Allowed, Usable, counters, event, packet, offcore, latency}
use Rattle.plans.proofs.Sets.{all_imp}
use Rattle.plans.proofs.PlanLengthHolds.{plan_length}
use Rattle.layouts.specs.Writes.{Write, writes, flat, filled}
use Rattle.sessions.specs.declared.Session.{Session}
use Rattle.sessions.specs.declared.Assigned.{Assigned}
use Rattle.sessions.specs.declared.TurnAnswered.{TurnAnswered}
use Rattle.sessions.specs.Turns.{requests_of, fits, taken, passed, places_of, assign, writes_of}
use Rattle.sessions.specs.Calls.{Plain, not_open_lem, opened, waiting}
use Rattle.sessions.specs.Calls as calls
use Rattle.sessions.specs.Sessions.{queue_limit, plain_of, refused_by, turn_of, turn_slice, plan_of, answer_to}
use Rattle.layouts.proofs.ListLaws.{all_left}
use Rattle.sessions.proofs.Lists.{all_right, all_map}
use Rattle.sessions.proofs.Agreed.{answer_is}
use Rattle.sessions.proofs.Rearranged.{all_turned}
use Rattle.sessions.proofs.Refused.{unchanged}
use Rattle.sessions.proofs.Answers.{turn_plan_is, turn_count_is, turn_slice_is}
use Rattle.sessions.proofs.TableAnswers.{turn_closed}
use Rattle.sessions.proofs.TakenPlan.{taken_first}
use Rattle.grammar.specs.Text.{bytes, decimal_text, line_of}
use Rattle.grammar.specs.Records.{Decimal, AddFits}
use Rattle.grammar.specs.declared.Record.TheVariants.{Turn}
use Rattle.answers.specs.Replies.{register_text, take_lines, set_lines, turn_room, turn_reply, record_reply}
use Rattle.answers.specs.Reader.{Takes, Answers, reply_says}
use Rattle.answers.specs.LinesAreCalls.{fault_said, fault_of, takes_of, sets_of, Askable, TurnSays}
use Rattle.answers.proofs.ReadLines.{Reads, nothing_reads, then_reads, joined_reads, RegisterFits, take_reads, set_reads, answer_reads}
use Rattle.answers.proofs.FaultTexts.{answer_said, table_said, turn_field}
use Rattle.answers.proofs.WriteWidths.{WordsFit, words_fit, WriteFits, writes_fit}
use Rattle.answers.proofs.SliceFits.{turn_goes}

-- ---- `take` lines

-- a counter and its register fit their fields
abbrev CountedFits : Counted → Type 0
CountedFits c = Decimal c.0 × RegisterFits c.1

-- so do an id and all that it is given
abbrev AssignedFits : Assigned → Type 0
AssignedFits a = Decimal a.id × All CountedFits (counted_of a.place)

counted_read : (id : ℕ) → Decimal id → {cs : List Counted} → All CountedFits cs
    → Reads (flat_map (λ (c : Counted). line_of (bytes "take" ∷ decimal_text id ∷ decimal_text c.0 ∷ register_text c.1 ∷ [])) cs) (map (λ (c : Counted). Takes id c.0 c.1) cs)
unfolding flat_map
counted_read id h nil = nothing_reads
counted_read id h (cons {a = c} k ks) = then_reads (take_reads id c.0 c.1 h k.0 k.1) (counted_read id h ks)

plan_read : (plan : List Assigned) → All AssignedFits plan → Reads (flat_map take_lines plan) (takes_of plan)
unfolding take_lines takes_of
plan_read plan h = joined_reads take_lines _ (all_imp (λ a k. counted_read a.id k.0 k.1) h)

-- ---- the numbers of a legal plan

id_fits : (id : ℕ) (r : Request) → AddFits id r → Decimal id
id_fits id (Event c m a) h = h.0
id_fits id (Packet x y a) h = h.0
id_fits id (Offcore w a) h = h.0
id_fits id (Latency t a b) h = h.0

counter_fits : (s : Setup) (k : ℕ) → Usable s k → Decimal k
unfolding capacity
counter_fits s k h = omega (arith, h.0, plan_length.device_at_most s.device)

place_fits : (s : Setup) (r : Request) (p : Place) → Allowed r p → All (Usable s) (counters_of p) → All CountedFits (counted_of p)
unfolding counters_of counted_of
place_fits s _ _ (event {k = k} a) (cons u nil) = cons (counter_fits s k u, tt) nil
place_fits s _ _ (packet {k = k} a) (cons u nil) = cons (counter_fits s k u, tt) nil
place_fits s _ _ (offcore {k = k} {i = i} a b) (cons u nil) = cons {a = (k, Some i)} (counter_fits s k u, omega arith) nil
place_fits s _ _ (latency {j = j} {k = k} a b) (cons u (cons v nil)) = cons {a = (j, Some 0)} (counter_fits s j u, omega arith) (cons {a = (k, Some 1)} (counter_fits s k v, omega arith) nil)

assigned_fits : (s : Setup) (es : List Entry) (ps : List Place) → Askable es → Each Allowed (requests_of es) ps → All (Usable s) (counters ps) → All AssignedFits (assign es ps)
unfolding requests_of counters assign flat_map
assigned_fits s [] [] nil lists.none us = nil
assigned_fits s (e ∷ es) (p ∷ ps) (cons f fs) (and a each) us =
    cons (id_fits e.id e.request f, place_fits s e.request p a (all_left (counters_of p) (counters ps) us))
    (assigned_fits s es ps fs each (all_right (counters_of p) us))
assigned_fits s [] (p ∷ ps) _ h us = elim h [ ]
assigned_fits s (e ∷ es) [] _ h us = elim h [ ]

-- ---- `set` lines

sets_read : {ws : List Write} → All WriteFits ws → Reads (set_lines (flat ws)) (sets_of ws)
unfolding set_lines flat sets_of
sets_read nil = nothing_reads
sets_read (cons {a = w} h hs) = then_reads (set_reads w.0 w.1 h.0 h.1) (sets_read hs)

-- the list at the start of a slice
listed : (ws : List Write) (rest : List ℕ) → take (2 * length ws) (flat ws ++ rest) ≡ flat ws
unfolding flat
listed [] rest = refl
listed (w ∷ ws) rest =
    let e : 2 * suc (length ws) ≡ suc (suc (2 * length ws)) = omega arith in
    rw (e, listed ws rest)

-- ---- the reply

-- plan, list and answer are read back from the reply that is made of them
turn_reads : (a : TurnAnswered) (slice : List ℕ) (ws : List Write) → All AssignedFits (plan_of a) → All WriteFits ws → flat ws ≡ take (2 * a.writes) slice
    → reply_says (turn_reply a slice).text ≡ Some (takes_of (plan_of a) ++ sets_of ws ++ Answers (answer_said a.answer 0) ∷ [])
unfolding turn_reply
turn_reads a slice ws plan list is =
    rw (← is) (then_reads (then_reads (plan_read (plan_of a) plan) (sets_read list)) (answer_reads a.answer 0 (omega arith))).says

-- what the table says of a turn
turn_fault : (s : Session) → answer_said (turn_of s turn_room).answer 0 ≡ fault_said (fault_of s (calls.Turn turn_room))
unfolding answer_to
turn_fault s = rw (← turn_field s) (table_said s (calls.Turn turn_room))

-- what is taken of a queue can be asked for as the queue can
taken_askable : (s : Setup) (q : List Entry) → Askable q → Askable (taken s q)
unfolding taken passed
taken_askable s q h = all_right (passed s q) (all_turned (fits s) [] q h)

requests_fit : {es : List Entry} → Askable es → All WordsFit (requests_of es)
unfolding requests_of
requests_fit h = all_map (λ (e : Entry). e.request) (all_imp (λ e f. words_fit e.id e.request f) h)

-- the slice that a line lends a turn
lent : List ℕ
lent = replicate turn_room 0

-- before open there is neither plan nor list
module _ (s : Session) (same : plain_of s ≡ not_open_lem) where
  refused : (turn_of s turn_room).answer ≡ Err CallOrder
  unfolding answer_to refused_by answer_for
  refused = answer_is s (calls.Turn turn_room) ∙ rw (same, turn_closed queue_limit turn_room)

  closed_said : TurnSays s
  unfolding record_reply lent flat
  closed_said =
      let empty : flat [] ≡ take (2 * (turn_of s turn_room).writes) (turn_slice s lent) = rw (unchanged.writes s turn_room CallOrder refused) in
      record { list = []; left = empty; says = rw (← turn_fault s) (turn_reads (turn_of s turn_room) (turn_slice s lent) [] (rw (unchanged.plan s turn_room CallOrder refused) nil) nil empty) }

  pub closed_says : reply_says (record_reply s Turn).text ≡ Some (Answers (Some (number_of CallOrder, 0)) ∷ [])
  unfolding record_reply turn_reply takes_of flat_map set_lines
  closed_says =
      rw (unchanged.plan s turn_room CallOrder refused, unchanged.writes s turn_room CallOrder refused, refused) (answer_reads (Err CallOrder) 0 (omega arith)).says

-- afterwards they are those of the requests taken
module _ (s : Session) (t : Setup) (q : List Entry) (same : plain_of s ≡ opened t q) (askable : Askable q) where
  es : List Entry
  es = taken t q

  plan_is : plan_of (turn_of s turn_room) ≡ assign es (places_of t es)
  unfolding es
  plan_is = turn_plan_is s t q same turn_room (turn_goes t q)

  plan_fits : All AssignedFits (plan_of (turn_of s turn_room))
  unfolding es
  plan_fits = let legal = (taken_first t q).legal in rw plan_is (assigned_fits t es (places_of t es) (taken_askable t q askable) legal.allowed legal.usable_only)

  list_left : flat (writes_of t es) ≡ take (2 * (turn_of s turn_room).writes) (turn_slice s lent)
  unfolding es lent filled
  list_left =
      let slice : turn_slice s lent ≡ filled (writes_of t es) lent = turn_slice_is s t q same lent (rw (length-replicate {A = ℕ} turn_room 0) (turn_goes t q)) in
      rw (slice, turn_count_is s t q same turn_room (turn_goes t q)) (sym (listed (writes_of t es) (drop (2 * length (writes_of t es)) lent)))

  opened_said : TurnSays s
  unfolding es record_reply lent writes_of
  opened_said =
      record {
        list = writes_of t es;
        left = list_left;
        says =
            rw (← turn_fault s)
            (turn_reads (turn_of s turn_room) (turn_slice s lent) (writes_of t es) plan_fits
            (writes_fit (requests_of es) (places_of t es) (requests_fit (taken_askable t q askable)) t) list_left);
      }

  pub opened_says : reply_says (record_reply s Turn).text
      ≡ Some (takes_of (assign (taken t q) (places_of t (taken t q))) ++ sets_of (writes t (requests_of (taken t q)) (places_of t (taken t q))) ++ Answers None ∷ [])
  unfolding es opened_said writes_of answer_to refused_by answer_for
  opened_says =
      let accepted : (turn_of s turn_room).answer ≡ (Ok tt) = answer_is s (calls.Turn turn_room) ∙ rw (same, turn_goes t q) in
      opened_said.says ∙ rw (plan_is, ← turn_fault s, accepted)

pub turn_said : (s : Session) → Askable (waiting (plain_of s)) → TurnSays s
unfolding waiting
turn_said s askable = go (plain_of s) refl askable
  where
    go : (p : Plain) → plain_of s ≡ p → Askable (waiting p) → TurnSays s
    go not_open_lem same h = closed_said s same
    go (opened t q) same h = opened_said s t q same h
