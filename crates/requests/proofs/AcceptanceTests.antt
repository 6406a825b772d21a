-- The examples hold: antt computes the number of each, and the field. Assumes nothing.
use mathlib.Core.Path.{refl}
use Rattle.requests.specs.Askings.{overflow_on, core_count, unasked, core_given, asks, overflow_not_on, core_fits}
use Rattle.requests.specs.Bits.{bit, in_list, any_bit, only_bits, type_bits, any_response, answer_bits, outstanding, rsp1_bits, rsp0_bits, rising, field, match_bits, mask_bits}
use Rattle.requests.specs.CBoxEvents.{sink_masks, ring_masks, starved_masks, bypass_masks, cbox_events}
use Rattle.requests.specs.Catalogue.{architectural_events, precise_events, events_of, code_in, pair_in, mask_not_listed}
use Rattle.requests.specs.Checks.{kind_not_on, not_listed_lem, too_wide, out_of_range, incomplete, conflicting, request_rows, request_refusal}
use Rattle.requests.specs.Choice.{both, either, every, first_holding}
use Rattle.requests.specs.Devices.{counter_count, all_counters, fixed_count, all_fixed, letter_of, box_count, devices, named, device_of, packets_on, offcore_on, pairs_judged, usable_set}
use Rattle.requests.specs.Examples.{examples, number_for, Examples}
use Rattle.requests.specs.FaultExamples.{numbered, fault_examples, FaultExamples}
use Rattle.requests.specs.Faults.{freeze_field, opening_faults, opening_fault_table, request_faults, opening_fault, request_fault}
use Rattle.requests.specs.MaskRules.{allows}
use Rattle.requests.specs.Refusals.{number_of, answer_for, answer_number}

pub examples_hold : Examples
unfolding unasked bit in_list any_bit only_bits type_bits any_response answer_bits outstanding rsp1_bits rsp0_bits rising field match_bits mask_bits sink_masks ring_masks starved_masks bypass_masks cbox_events architectural_events precise_events events_of code_in pair_in mask_not_listed kind_not_on not_listed_lem too_wide out_of_range incomplete conflicting request_rows request_refusal both either every first_holding counter_count all_counters packets_on offcore_on pairs_judged examples number_for allows number_of answer_for answer_number
examples_hold = refl

pub fault_examples_hold : FaultExamples
unfolding overflow_on core_count unasked core_given asks overflow_not_on core_fits bit in_list any_bit only_bits type_bits any_response answer_bits outstanding rsp1_bits rsp0_bits rising field match_bits mask_bits sink_masks ring_masks starved_masks bypass_masks cbox_events architectural_events precise_events events_of code_in pair_in mask_not_listed kind_not_on not_listed_lem too_wide incomplete conflicting both either every first_holding counter_count all_counters fixed_count all_fixed letter_of box_count devices named device_of packets_on offcore_on pairs_judged usable_set numbered fault_examples freeze_field opening_faults opening_fault_table request_faults opening_fault request_fault allows number_of
fault_examples_hold = refl
