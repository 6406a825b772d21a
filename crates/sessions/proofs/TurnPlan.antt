-- Demand 2 of every accepted turn, by the laws of the registers. Assumes nothing.
--     taken-formed    the requests taken are well-formed
--     turn-done       so the laws of the registers hold of the writes of a turn's plan, whatever the queue's limit
--     turn-plan       and of every accepted turn of a session
use Rattle.std.specs.Prelude.{None}
use mathlib.Core.Path.{◌≡◌, ap, sym, ◌∙◌}
use mathlib.Core.List.{List}
use Prim.Native.Nat.{ℕ}
use lib.ListN.{length}
use Rattle.requests.specs.declared.Setup.{Setup}
use Rattle.requests.specs.declared.Entry.{Entry}
use Rattle.requests.specs.Checks.{Formed}
use Rattle.requests.specs.Devices.{opening_of}
use Rattle.plans.specs.Lists.{All}
use Rattle.layouts.proofs.NoReservedBit.{no_reserved_bit}
use Rattle.layouts.proofs.OthersUntouched.{others_untouched}
use Rattle.layouts.proofs.FixedEnables.{fixed_enables_lem}
use Rattle.layouts.proofs.UsedEnabled.{used_enabled}
use Rattle.layouts.proofs.UBox.{ubox}
use Rattle.layouts.proofs.PreciseEvents.{precise_events_lem}
use Rattle.layouts.proofs.RestWhileWritten.{rest_while_written}
use Rattle.layouts.proofs.RoundTrip.{round_trip}
use Rattle.layouts.specs.Writes.{filled}
use Rattle.sessions.specs.Turns.{requests_of, taken, passed, turned, places_of, assign, writes_of}
use Rattle.sessions.specs.Calls.{Turn, Plain, opened}
use Rattle.sessions.specs.Table.{refusal}
use Rattle.sessions.specs.Sessions.{queue_limit, refused_by, session_after}
use Rattle.sessions.specs.Sound.{Sound}
use Rattle.sessions.specs.TurnPlan.{TurnResult, result_of, TurnDone, TurnPlan}
use Rattle.sessions.specs.declared.Session.{Session}
use Rattle.sessions.proofs.Lists.{all_right, all_map}
use Rattle.sessions.proofs.TakenPlan.{taken_first}
use Rattle.sessions.proofs.Accepted.{accepted_turn}
use Rattle.sessions.proofs.SoundKept.{sound_turned, well_formed_lem}
use Rattle.sessions.proofs.SmallSession.{agreement}
use Rattle.sessions.proofs.Answers.{not_refused, turn_plan_is, turn_count_is, turn_next_is, turn_slice_is}

taken_formed : (limit : ℕ) (s : Setup) (q : List Entry) → Sound limit s q → All (Formed s) (requests_of (taken s q))
unfolding turned requests_of
taken_formed limit s q sound = all_map (λ (e : Entry). e.request) (all_right (passed s q) (sound_turned limit s q sound).formed)

-- a turn with this result, whatever the queue's limit
pub turn_done : (limit : ℕ) (s : Setup) (q : List Entry) (slice : List ℕ) (result : TurnResult) → Sound limit s q → refusal limit (opened s q) (Turn (length slice)) ≡ None
    → result.plan ≡ assign (taken s q) (places_of s (taken s q)) → result.writes ≡ length (writes_of s (taken s q)) → result.slice ≡ filled (writes_of s (taken s q)) slice
    → result.queue ≡ opened s (turned s q) → TurnDone s q slice result
unfolding writes_of opening_of
turn_done limit s q slice result sound accepted plan_is count_is slice_is next_is =
    let first = taken_first s q in
    let formed = taken_formed limit s q sound in
    record {
      places = places_of s (taken s q);
      first = first;
      plan = plan_is;
      count = count_is;
      room = accepted_turn limit s q (length slice) accepted;
      list = slice_is;
      clean = no_reserved_bit.clean s _ _ formed first.legal;
      others = others_untouched.kept s _ _ first.legal;
      enabled = others_untouched.enabled s _ _ first.legal;
      fixed = fixed_enables_lem.written (opening_of s) s sound.setup _ _ first.legal;
      used = used_enabled s _ _ first.legal;
      rests = rest_while_written s _ _ first.legal;
      with_host = λ n. ubox.with_host (opening_of s) s sound.setup n _ _;
      framed = λ n. ubox.framed (opening_of s) s sound.setup n _ _ first.legal;
      precise = λ on. precise_events_lem.written s _ _ on formed first.legal;
      no_precise = precise_events_lem.elsewhere s _ _;
      read = round_trip s _ _ sound.setup formed first.legal;
      next = next_is;
    }

pub turn_plan : TurnPlan
unfolding refused_by session_after
turn_plan session closed calls s q is slice answer =
    let now : Session = session_after session calls in
    let same = (agreement session closed).stands calls ∙ is in
    let accepted : refusal queue_limit (opened s q) (Turn (length slice)) ≡ None =
    ap (λ (p : Plain). refusal queue_limit p (Turn (length slice))) (sym same) ∙ not_refused now (length slice) answer in
    turn_done queue_limit s q slice (result_of now slice) (well_formed_lem queue_limit calls s q is) accepted
    (turn_plan_is now s q same (length slice) accepted) (turn_count_is now s q same (length slice) accepted) (turn_slice_is now s q same slice accepted)
    (turn_next_is now s q same (length slice) accepted)
