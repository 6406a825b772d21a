-- The runs, by computation: every definition that they reach is unfolded.
use mathlib.Core.Path.{◌≡◌, refl}
use mathlib.Core.List.{[], ◌∷◌, flat_map, map}
use Rattle.requests.specs.Askings.{overflow_on, core_count, unasked, core_given, asks, asked, overflow_not_on, core_fits, overflow_fits}
use Rattle.requests.specs.Bits.{bit, in_list, any_bit, only_bits, type_bits, any_response, answer_bits, outstanding, rsp1_bits, rsp0_bits, rising, field, match_bits, mask_bits, latency_word}
use Rattle.requests.specs.CBoxEvents.{sink_masks, ring_masks, starved_masks, bypass_masks, cbox_events}
use Rattle.requests.specs.Catalogue.{architectural_events, precise_events, events_of, code_in, pair_in, mask_not_listed}
use Rattle.requests.specs.Checks.{kind_not_on, not_listed_lem, too_wide, out_of_range, incomplete, conflicting, request_rows, request_refusal, formed}
use Rattle.requests.specs.Choice.{both, either, every, first_holding}
use Rattle.requests.specs.Devices.{has, size, capacity, counter_count, all_counters, fixed_count, all_fixed, letter_of, box_count, box_of, devices, named, device_of, packets_on, offcore_on, pairs_judged, usable_set, opens, rows_where, opening_rows, on_device, opening_table, setup_on, opened_on, opened_by, opened_setup, setup_of, opening_of}
use Rattle.requests.specs.EventRules.{rule_on_b, has_rules, rule_of, rule_for, wants_quiet}
use Rattle.requests.specs.MaskRules.{allows}
use Rattle.requests.specs.Refusals.{number_of, answer_for, answer_number}
use Rattle.plans.specs.Legal.{words_of, packets_of, of_all, counters}
use Rattle.plans.specs.Narrowed.{only_counter, allowed_by, narrowed, any_lone, quiet_kept}
use Rattle.plans.specs.Places.{counted_of, counters_of, first, second}
use Rattle.plans.specs.Search.{take_counter, take_word, take_packet, place_of, admit, width, first_from, put_first, then_rest, try_number, plan_in, first_plan, has_plan_lem}
use Rattle.layouts.specs.Layout.{tabulate, cbox_globals, cbox_global, layout_of, rsp0_at, rsp1_at, mm_cfg_at, match_at, mask_at, ubox_at, pebs_at, pebs_on, mm_enable, frz_all, en_all, core_sel, precise_store, enabled_on, pmi_enable, enabled, event_word, code_of, mask_of, is_event, offcore_code, rsp_mask, rsp_word, packet_word}
use Rattle.layouts.specs.Settings.{uses_of, word_at, set_from, settings_of}
use Rattle.layouts.specs.Writes.{rows, zeros, unusable, fixed_at, fixed_enables, first_global, last_global, offcore_writes, packet_writes, filter_writes, pebs_enable, precise_writes, core_bit, ubox_value, box_writes, writes_for, writes, flat, filled}
use Rattle.sessions.specs.Calls.{waiting, waits}
use Rattle.sessions.specs.Choose.{taken_after, passed_after}
use Rattle.sessions.specs.Completed.{turns_if, single_turns, turns_by, turns_of}
use Rattle.sessions.specs.Plain.{removed, on_queue, change, step}
use Rattle.sessions.specs.Sessions.{queue_limit, vacant, queued, padded, session_of, new_session, plain_of, refused_by, answered, open_of, add_of, drop_of, unassigned, turn_answer, turn_of, plan_of, turned_session, turns_answer, turns_slice, turns_ends, answer_to, next_session as sessions·next_session, session_after}
use Rattle.sessions.specs.ShorterPromise.{rounds}
use Rattle.sessions.specs.Table.{outside_ids, add_rows, drop_rows, turn_rows, turns_limit, turns_rows, before_open, once_open, table, refusal}
use Rattle.sessions.specs.Turns.{requests_of, fits, taken, passed, turned, places_of, assign, writes_of, turned_times, lists_of, joined, ends_from}
use Rattle.lent_sessions.specs.Histories.{lent_answer, next_session as lent_sessions·next_session}
use Rattle.lent_sessions.specs.Lent.{new_lent, plain_with, out_of_order_lem, bad_rows, lent_table, lent_refusal, rows_after, lent_changed, lent_after, lent_answered, lent_turn, lent_turned, lent_plan}
use Rattle.lent_sessions.specs.Records.{most_records, is_count, records_of, standing, all_zero, is_vacant, all_vacant, may_wait, kept_rules, sound_rows}
use Rattle.runs.specs.LentRuns.{numbers_from, comes_to, ids_from, lent_runs, LentRuns}
use Rattle.runs.specs.LoneRuns.{lone_runs, LoneRuns}
use Rattle.runs.specs.Runs.{numbers_of, outcome_of, up_to, runs, Runs}
use Rattle.runs.specs.ShorterRuns.{entries_from, calls_of, gives, first_with, turn_of_mine, ahead_of, shorter_bound, tight, outside, Waits}
use Rattle.runs.specs.TurnsRuns.{list_after, ends_after, times, shifts, Shift, TurnsRuns}

pub runs_hold : Runs
unfolding flat_map overflow_on core_count unasked core_given asks asked overflow_not_on core_fits overflow_fits bit in_list any_bit only_bits type_bits any_response answer_bits outstanding rsp1_bits rsp0_bits rising field match_bits mask_bits latency_word sink_masks ring_masks starved_masks bypass_masks cbox_events architectural_events precise_events events_of code_in pair_in mask_not_listed kind_not_on not_listed_lem too_wide out_of_range incomplete conflicting request_rows both either every first_holding has capacity counter_count all_counters fixed_count all_fixed letter_of box_count devices named device_of packets_on offcore_on pairs_judged usable_set opens rows_where opening_rows on_device opening_table setup_on opened_on opened_by opened_setup setup_of rule_on_b has_rules rule_of rule_for wants_quiet allows number_of answer_for answer_number words_of packets_of of_all counters only_counter allowed_by narrowed any_lone quiet_kept counted_of counters_of first second take_counter take_word take_packet place_of admit width first_from put_first then_rest try_number plan_in first_plan has_plan_lem tabulate cbox_globals cbox_global layout_of rsp0_at rsp1_at mm_cfg_at match_at mask_at ubox_at pebs_at pebs_on mm_enable frz_all en_all core_sel precise_store enabled_on pmi_enable enabled event_word code_of mask_of is_event offcore_code rsp_mask rsp_word packet_word uses_of word_at set_from settings_of rows zeros unusable fixed_at fixed_enables first_global last_global offcore_writes packet_writes filter_writes pebs_enable precise_writes core_bit ubox_value box_writes writes_for writes waits taken_after passed_after turns_if single_turns turns_by turns_of removed on_queue change step queue_limit vacant queued padded session_of new_session plain_of refused_by answered open_of add_of drop_of unassigned turn_answer turn_of plan_of turned_session turns_answer answer_to sessions·next_session session_after outside_ids add_rows drop_rows turn_rows turns_limit turns_rows before_open once_open table refusal requests_of fits taken passed turned places_of assign writes_of turned_times lists_of joined numbers_of outcome_of up_to runs
runs_hold = refl

-- ---- order 6

lists : map list_after shifts ≡ map (λ (x : Shift). x.list) shifts
unfolding flat_map overflow_on core_count unasked core_given asks asked overflow_not_on core_fits overflow_fits bit in_list any_bit only_bits type_bits any_response answer_bits outstanding rsp1_bits rsp0_bits rising field match_bits mask_bits latency_word sink_masks ring_masks starved_masks bypass_masks cbox_events architectural_events precise_events events_of code_in pair_in mask_not_listed kind_not_on not_listed_lem too_wide out_of_range incomplete conflicting request_rows both either every first_holding has capacity counter_count all_counters fixed_count all_fixed letter_of box_count devices named device_of packets_on offcore_on pairs_judged usable_set opens rows_where opening_rows on_device opening_table setup_on opened_on opened_by opened_setup setup_of rule_on_b has_rules rule_of rule_for wants_quiet allows answer_for words_of packets_of of_all counters only_counter allowed_by narrowed any_lone quiet_kept counted_of counters_of first second take_counter take_word take_packet place_of admit width first_from put_first then_rest try_number plan_in first_plan has_plan_lem tabulate cbox_globals cbox_global layout_of rsp0_at rsp1_at mm_cfg_at match_at mask_at ubox_at pebs_at pebs_on mm_enable frz_all en_all core_sel precise_store enabled_on pmi_enable enabled event_word code_of mask_of is_event offcore_code rsp_mask rsp_word packet_word uses_of word_at set_from settings_of rows zeros unusable fixed_at fixed_enables first_global last_global offcore_writes packet_writes filter_writes pebs_enable precise_writes core_bit ubox_value box_writes writes_for writes flat filled waits taken_after passed_after removed queue_limit vacant queued padded session_of new_session plain_of refused_by answered open_of add_of drop_of unassigned turn_answer turn_of turned_session turns_answer turns_slice sessions·next_session session_after outside_ids add_rows drop_rows turn_rows turns_limit turns_rows before_open once_open table refusal requests_of fits taken passed turned places_of assign writes_of lists_of joined up_to list_after times shifts
lists = refl

ends : map ends_after shifts ≡ map (λ (x : Shift). x.ends) shifts
unfolding flat_map overflow_on core_count unasked core_given asks asked overflow_not_on core_fits overflow_fits bit in_list any_bit only_bits type_bits any_response answer_bits outstanding rsp1_bits rsp0_bits rising field match_bits mask_bits latency_word sink_masks ring_masks starved_masks bypass_masks cbox_events architectural_events precise_events events_of code_in pair_in mask_not_listed kind_not_on not_listed_lem too_wide out_of_range incomplete conflicting request_rows both either every first_holding has capacity counter_count all_counters fixed_count all_fixed letter_of box_count devices named device_of packets_on offcore_on pairs_judged usable_set opens rows_where opening_rows on_device opening_table setup_on opened_on opened_by opened_setup setup_of rule_on_b has_rules rule_of rule_for wants_quiet allows answer_for words_of packets_of of_all counters only_counter allowed_by narrowed any_lone quiet_kept counted_of counters_of first second take_counter take_word take_packet place_of admit width first_from put_first then_rest try_number plan_in first_plan has_plan_lem tabulate cbox_globals cbox_global layout_of rsp0_at rsp1_at mm_cfg_at match_at mask_at ubox_at pebs_at pebs_on mm_enable frz_all en_all core_sel precise_store enabled_on pmi_enable enabled event_word code_of mask_of is_event offcore_code rsp_mask rsp_word packet_word uses_of word_at set_from settings_of rows zeros unusable fixed_at fixed_enables first_global last_global offcore_writes packet_writes filter_writes pebs_enable precise_writes core_bit ubox_value box_writes writes_for writes waits taken_after passed_after removed queue_limit vacant queued padded session_of new_session plain_of refused_by answered open_of add_of drop_of unassigned turn_answer turn_of turned_session turns_answer turns_ends sessions·next_session session_after outside_ids add_rows drop_rows turn_rows turns_limit turns_rows before_open once_open table refusal requests_of fits taken passed turned places_of assign writes_of lists_of joined ends_from up_to ends_after times shifts
ends = refl

pub turns_hold : TurnsRuns
turns_hold = record { lists = lists; ends = ends }

-- ---- order 8

pub lent_runs_hold : LentRuns
unfolding flat_map overflow_on core_count unasked core_given asks asked overflow_not_on core_fits overflow_fits bit in_list any_bit only_bits type_bits any_response answer_bits outstanding rsp1_bits rsp0_bits rising field match_bits mask_bits latency_word sink_masks ring_masks starved_masks bypass_masks cbox_events architectural_events precise_events events_of code_in pair_in mask_not_listed kind_not_on not_listed_lem too_wide out_of_range incomplete conflicting request_rows request_refusal formed both either every first_holding has capacity counter_count all_counters fixed_count all_fixed letter_of box_count devices named device_of packets_on offcore_on pairs_judged usable_set opens rows_where opening_rows on_device opening_table setup_on opened_on opened_by opened_setup setup_of rule_on_b has_rules rule_of rule_for wants_quiet allows number_of answer_for answer_number words_of packets_of of_all counters only_counter allowed_by narrowed any_lone quiet_kept counted_of counters_of first second take_counter take_word take_packet place_of admit width first_from put_first then_rest try_number plan_in first_plan has_plan_lem tabulate cbox_globals cbox_global layout_of rsp0_at rsp1_at mm_cfg_at match_at mask_at ubox_at pebs_at pebs_on mm_enable frz_all en_all core_sel precise_store enabled_on pmi_enable enabled event_word code_of mask_of is_event offcore_code rsp_mask rsp_word packet_word uses_of word_at set_from settings_of rows zeros unusable fixed_at fixed_enables first_global last_global offcore_writes packet_writes filter_writes pebs_enable precise_writes core_bit ubox_value box_writes writes_for writes waiting waits taken_after passed_after turns_if single_turns turns_by turns_of removed on_queue change step vacant unassigned outside_ids add_rows drop_rows turn_rows turns_limit turns_rows before_open once_open table refusal requests_of fits taken passed turned places_of assign writes_of turned_times lists_of joined lent_answer lent_sessions·next_session new_lent plain_with out_of_order_lem bad_rows lent_table lent_refusal rows_after lent_changed lent_after lent_answered lent_turn lent_turned lent_plan most_records is_count records_of standing all_zero is_vacant all_vacant may_wait kept_rules sound_rows numbers_from comes_to ids_from lent_runs
lent_runs_hold = refl

-- ---- order 12

pub lone_runs_hold : LoneRuns
unfolding flat_map overflow_on core_count unasked core_given asks asked overflow_not_on core_fits overflow_fits bit in_list any_bit only_bits type_bits any_response answer_bits outstanding rsp1_bits rsp0_bits rising field match_bits mask_bits latency_word sink_masks ring_masks starved_masks bypass_masks cbox_events architectural_events precise_events events_of code_in pair_in mask_not_listed kind_not_on not_listed_lem too_wide out_of_range incomplete conflicting request_rows both either every first_holding has capacity counter_count all_counters fixed_count all_fixed letter_of box_count devices named device_of packets_on offcore_on pairs_judged usable_set opens rows_where opening_rows on_device opening_table setup_on opened_on opened_by opened_setup setup_of rule_on_b has_rules rule_of rule_for wants_quiet allows number_of answer_for answer_number words_of packets_of of_all counters only_counter allowed_by narrowed any_lone quiet_kept counted_of counters_of first second take_counter take_word take_packet place_of admit width first_from put_first then_rest try_number plan_in first_plan has_plan_lem tabulate cbox_globals cbox_global layout_of rsp0_at rsp1_at mm_cfg_at match_at mask_at ubox_at pebs_at pebs_on mm_enable frz_all en_all core_sel precise_store enabled_on pmi_enable enabled event_word code_of mask_of is_event offcore_code rsp_mask rsp_word packet_word uses_of word_at set_from settings_of rows zeros unusable fixed_at fixed_enables first_global last_global offcore_writes packet_writes filter_writes pebs_enable precise_writes core_bit ubox_value box_writes writes_for writes waits taken_after passed_after turns_if single_turns turns_by turns_of removed on_queue change step queue_limit vacant queued padded session_of new_session plain_of refused_by answered open_of add_of drop_of unassigned turn_answer turn_of plan_of turned_session turns_answer answer_to sessions·next_session session_after outside_ids add_rows drop_rows turn_rows turns_limit turns_rows before_open once_open table refusal requests_of fits taken passed turned places_of assign writes_of turned_times lists_of joined lone_runs numbers_of outcome_of up_to
lone_runs_hold = refl

-- ---- order 14

pub tight_turns : map turn_of_mine tight ≡ map (λ (w : Waits). w.turn) tight
unfolding flat_map overflow_on core_count unasked core_given asks asked overflow_not_on core_fits overflow_fits bit in_list any_bit only_bits type_bits any_response answer_bits outstanding rsp1_bits rsp0_bits rising field match_bits mask_bits latency_word sink_masks ring_masks starved_masks bypass_masks cbox_events architectural_events precise_events events_of code_in pair_in mask_not_listed kind_not_on not_listed_lem too_wide out_of_range incomplete conflicting request_rows both either every first_holding has capacity counter_count all_counters fixed_count all_fixed letter_of box_count box_of devices named device_of packets_on offcore_on pairs_judged usable_set opens rows_where opening_rows on_device opening_table setup_on opened_on opened_by opened_setup setup_of opening_of rule_on_b has_rules rule_of rule_for wants_quiet allows answer_for words_of packets_of of_all counters only_counter allowed_by narrowed any_lone quiet_kept counted_of counters_of first second take_counter take_word take_packet place_of admit width first_from put_first then_rest try_number plan_in first_plan has_plan_lem tabulate cbox_globals cbox_global layout_of rsp0_at rsp1_at mm_cfg_at match_at mask_at ubox_at pebs_at pebs_on mm_enable frz_all en_all core_sel precise_store enabled_on pmi_enable enabled event_word code_of mask_of is_event offcore_code rsp_mask rsp_word packet_word uses_of word_at set_from settings_of rows zeros unusable fixed_at fixed_enables first_global last_global offcore_writes packet_writes filter_writes pebs_enable precise_writes core_bit ubox_value box_writes writes_for writes waits taken_after passed_after turns_if single_turns turns_by turns_of removed on_queue change step queue_limit vacant queued padded session_of new_session plain_of refused_by answered open_of add_of drop_of unassigned turn_answer turn_of plan_of turned_session turns_answer answer_to sessions·next_session outside_ids add_rows drop_rows turn_rows turns_limit turns_rows before_open once_open table refusal requests_of fits taken passed turned places_of assign writes_of turned_times lists_of joined up_to entries_from calls_of gives first_with turn_of_mine tight
tight_turns = refl

pub tight_bounds : map shorter_bound tight ≡ map (λ (w : Waits). w.turn) tight
unfolding unasked bit has size counter_count rounds entries_from ahead_of shorter_bound tight
tight_bounds = refl

pub outside_turns : map turn_of_mine outside ≡ map (λ (w : Waits). w.turn) outside
unfolding flat_map overflow_on core_count unasked core_given asks asked overflow_not_on core_fits overflow_fits bit in_list any_bit only_bits type_bits any_response answer_bits outstanding rsp1_bits rsp0_bits rising field match_bits mask_bits latency_word sink_masks ring_masks starved_masks bypass_masks cbox_events architectural_events precise_events events_of code_in pair_in mask_not_listed kind_not_on not_listed_lem too_wide out_of_range incomplete conflicting request_rows both either every first_holding has capacity counter_count all_counters fixed_count all_fixed letter_of box_count box_of devices named device_of packets_on offcore_on pairs_judged usable_set opens rows_where opening_rows on_device opening_table setup_on opened_on opened_by opened_setup setup_of opening_of rule_on_b has_rules rule_of rule_for wants_quiet allows answer_for words_of packets_of of_all counters only_counter allowed_by narrowed any_lone quiet_kept counted_of counters_of first second take_counter take_word take_packet place_of admit width first_from put_first then_rest try_number plan_in first_plan has_plan_lem tabulate cbox_globals cbox_global layout_of rsp0_at rsp1_at mm_cfg_at match_at mask_at ubox_at pebs_at pebs_on mm_enable frz_all en_all core_sel precise_store enabled_on pmi_enable enabled event_word code_of mask_of is_event offcore_code rsp_mask rsp_word packet_word uses_of word_at set_from settings_of rows zeros unusable fixed_at fixed_enables first_global last_global offcore_writes packet_writes filter_writes pebs_enable precise_writes core_bit ubox_value box_writes writes_for writes waits taken_after passed_after turns_if single_turns turns_by turns_of removed on_queue change step queue_limit vacant queued padded session_of new_session plain_of refused_by answered open_of add_of drop_of unassigned turn_answer turn_of plan_of turned_session turns_answer answer_to sessions·next_session outside_ids add_rows drop_rows turn_rows turns_limit turns_rows before_open once_open table refusal requests_of fits taken passed turned places_of assign writes_of turned_times lists_of joined up_to entries_from calls_of gives first_with turn_of_mine outside
outside_turns = refl

pub outside_bounds : map shorter_bound outside ≡ 1 ∷ 2 ∷ 1 ∷ 1 ∷ []
unfolding unasked bit has size counter_count rounds entries_from ahead_of shorter_bound outside
outside_bounds = refl
