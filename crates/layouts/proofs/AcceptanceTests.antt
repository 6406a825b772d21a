-- The examples of document 01 hold, by computation: every definition that they reach is unfolded. Assumes nothing.
use Rattle.std.specs.Prelude.{Some}
use mathlib.Core.Path.{◌≡◌, refl}
use mathlib.Core.List.{flat_map, map}
use Rattle.requests.specs.Askings.{overflow_on, core_count, unasked, core_given, asks, asked, overflow_not_on, core_fits, overflow_fits}
use Rattle.requests.specs.Bits.{bit, in_list, any_bit, only_bits, type_bits, any_response, answer_bits, outstanding, rsp1_bits, rsp0_bits, rising, field, match_bits, mask_bits, latency_word}
use Rattle.requests.specs.CBoxEvents.{sink_masks, ring_masks, starved_masks, bypass_masks, cbox_events}
use Rattle.requests.specs.Catalogue.{architectural_events, precise_events, events_of, code_in, pair_in, mask_not_listed}
use Rattle.requests.specs.Checks.{kind_not_on, not_listed_lem, too_wide, out_of_range, incomplete, conflicting, request_rows, request_refusal, formed}
use Rattle.requests.specs.Choice.{both, either, every, first_holding}
use Rattle.requests.specs.Devices.{has, capacity, counter_count, all_counters, fixed_count, all_fixed, letter_of, box_count, devices, named, device_of, packets_on, offcore_on, pairs_judged, usable_set, opens, rows_where, opening_rows, setup_on, opened_on, opened_by, opened_setup, setup_of}
use Rattle.requests.specs.EventRules.{rule_on_b, has_rules, rule_of}
use Rattle.requests.specs.MaskRules.{allows}
use Rattle.requests.specs.Refusals.{number_of, answer_number}
use Rattle.plans.specs.Legal.{words_of, packets_of, of_all, counters}
use Rattle.plans.specs.Places.{counted_of, counters_of, first, second}
use Rattle.layouts.specs.Examples.{plans, writes_of, Examples, Plan}
use Rattle.layouts.specs.Layout.{tabulate, cbox_globals, cbox_global, layout_of, rsp0_at, rsp1_at, mm_cfg_at, match_at, mask_at, ubox_at, pebs_at, pebs_on, mm_enable, frz_all, en_all, core_sel, precise_store, enabled_on, pmi_enable, enabled, event_word, code_of, mask_of, is_event, offcore_code, rsp_mask, rsp_word, packet_word}
use Rattle.layouts.specs.OrderExamples.{order_plans, OrderExamples}
use Rattle.layouts.specs.Read.{answer_of, ours, count, filter_word, control_fits, rsp1_fits, latency_fits, rsp0_fits, packets_fit, filters_fit, ubox_fits, others_off, may_run, rule_fits, pebs_fits, accepts, filter_of, tell, reading_of, read_of}
use Rattle.layouts.specs.ReadingExamples.{reading_for, acceptances, tells_of, refusals, AcceptedAs, ReadingExamples, RefusedAs}
use Rattle.layouts.specs.Settings.{uses_of, word_at, set_from, settings_of}
use Rattle.layouts.specs.Told.{told, told_by}
use Rattle.layouts.specs.Writes.{rows, zeros, unusable, fixed_at, fixed_enables, first_global, last_global, offcore_writes, packet_writes, filter_writes, pebs_enable, precise_writes, core_bit, ubox_value, box_writes, writes_for, writes}

written : map writes_of plans ≡ map (λ (p : Plan). p.written) plans
unfolding flat_map overflow_on core_count unasked core_given asks asked bit in_list any_response outstanding latency_word both either has capacity counter_count all_counters fixed_count words_of packets_of of_all counters counted_of counters_of first second plans writes_of tabulate cbox_globals cbox_global layout_of rsp0_at rsp1_at mm_cfg_at match_at mask_at ubox_at pebs_at pebs_on mm_enable frz_all en_all core_sel precise_store enabled_on pmi_enable enabled event_word code_of mask_of is_event offcore_code rsp_mask rsp_word packet_word uses_of word_at set_from settings_of rows zeros unusable fixed_at fixed_enables first_global last_global offcore_writes packet_writes filter_writes pebs_enable precise_writes core_bit ubox_value box_writes writes_for writes
written = refl

told_as : map (λ (e : AcceptedAs). told_by (reading_for e.given)) acceptances ≡ map tells_of acceptances
unfolding overflow_on core_count unasked core_given asks asked overflow_not_on core_fits overflow_fits bit in_list any_bit only_bits type_bits any_response answer_bits outstanding rsp1_bits rsp0_bits rising field match_bits mask_bits latency_word sink_masks ring_masks starved_masks bypass_masks cbox_events architectural_events precise_events events_of code_in pair_in mask_not_listed kind_not_on not_listed_lem too_wide out_of_range incomplete conflicting request_rows request_refusal formed both either every first_holding has capacity counter_count all_counters fixed_count all_fixed letter_of box_count devices named device_of packets_on offcore_on pairs_judged usable_set opens rows_where opening_rows setup_on opened_on opened_by opened_setup setup_of rule_on_b has_rules rule_of allows tabulate pebs_on mm_enable frz_all en_all core_sel precise_store enabled_on pmi_enable enabled event_word code_of mask_of is_event offcore_code rsp_mask rsp_word packet_word ours count filter_word control_fits rsp1_fits latency_fits rsp0_fits packets_fit filters_fit ubox_fits others_off may_run rule_fits pebs_fits accepts filter_of tell reading_of read_of reading_for acceptances tells_of set_from told told_by unusable fixed_at fixed_enables first_global last_global pebs_enable core_bit ubox_value
told_as = refl

numbered : map (λ (e : RefusedAs). answer_number (answer_of (reading_for e.given))) refusals ≡ map (λ (e : RefusedAs). Some e.number) refusals
unfolding overflow_on core_count unasked core_given asks asked overflow_not_on core_fits overflow_fits bit in_list any_bit only_bits type_bits any_response answer_bits outstanding rsp1_bits rsp0_bits rising field match_bits mask_bits latency_word sink_masks ring_masks starved_masks bypass_masks cbox_events architectural_events precise_events events_of code_in pair_in mask_not_listed kind_not_on not_listed_lem too_wide out_of_range incomplete conflicting request_rows request_refusal formed both either every first_holding has capacity counter_count all_counters fixed_count all_fixed letter_of box_count devices named device_of packets_on offcore_on pairs_judged usable_set opens rows_where opening_rows setup_on opened_on opened_by opened_setup setup_of rule_on_b has_rules rule_of allows number_of answer_number tabulate pebs_on mm_enable frz_all en_all core_sel precise_store enabled_on pmi_enable enabled event_word code_of mask_of is_event offcore_code rsp_mask rsp_word packet_word ours count filter_word control_fits rsp1_fits latency_fits rsp0_fits packets_fit filters_fit ubox_fits others_off may_run rule_fits pebs_fits accepts filter_of tell reading_of read_of reading_for refusals set_from unusable fixed_at fixed_enables first_global last_global pebs_enable core_bit ubox_value
numbered = refl

ordered : map writes_of order_plans ≡ map (λ (p : Plan). p.written) order_plans
unfolding flat_map overflow_on core_count unasked core_given asks asked bit in_list any_response outstanding latency_word both either has capacity counter_count all_counters fixed_count words_of packets_of of_all counters counted_of counters_of first second writes_of tabulate cbox_globals cbox_global layout_of rsp0_at rsp1_at mm_cfg_at match_at mask_at ubox_at pebs_at pebs_on mm_enable frz_all en_all core_sel precise_store enabled_on pmi_enable enabled event_word code_of mask_of is_event offcore_code rsp_mask rsp_word packet_word order_plans uses_of word_at set_from settings_of rows zeros unusable fixed_at fixed_enables first_global last_global offcore_writes packet_writes filter_writes pebs_enable precise_writes core_bit ubox_value box_writes writes_for writes
ordered = refl

pub examples_hold : Examples
examples_hold = record { written = written }

pub order_examples_hold : OrderExamples
order_examples_hold = record { written = ordered }

pub reading_examples_hold : ReadingExamples
reading_examples_hold = record { told_as = told_as; numbered = numbered }
