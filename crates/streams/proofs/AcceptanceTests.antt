-- The tries, by computation: every definition that they reach is unfolded.
use mathlib.Core.Path.{refl}
use mathlib.Core.List.{flat_map}
use Rattle.requests.specs.Askings.{overflow_on, core_count, unasked, core_given, asks, asked, overflow_not_on, core_fits, overflow_fits}
use Rattle.requests.specs.Bits.{bit, in_list, any_bit, only_bits, type_bits, any_response, answer_bits, outstanding, rsp1_bits, rsp0_bits, rising, field, match_bits, mask_bits, latency_word}
use Rattle.requests.specs.CBoxEvents.{sink_masks, ring_masks, starved_masks, bypass_masks, cbox_events}
use Rattle.requests.specs.Catalogue.{architectural_events, precise_events, events_of, code_in, pair_in, mask_not_listed}
use Rattle.requests.specs.Checks.{kind_not_on, not_listed_lem, too_wide, out_of_range, incomplete, conflicting, request_rows}
use Rattle.requests.specs.Choice.{both, either, every, first_holding}
use Rattle.requests.specs.Devices.{has, capacity, counter_count, all_counters, fixed_count, all_fixed, letter_of, box_count, box_of, devices, named, device_of, packets_on, offcore_on, pairs_judged, usable_set, opens, rows_where, opening_rows, on_device, opening_table, setup_on, opened_on, opened_by, opened_setup, setup_of, opening_of}
use Rattle.requests.specs.EventRules.{rule_on_b, has_rules, rule_of, rule_for, wants_quiet}
use Rattle.requests.specs.Faults.{freeze_field, range_field, lack_field, request_fields, opening_field, asking_field, fields_on, opening_fields, no_fields, field_of, answer_field}
use Rattle.requests.specs.MaskRules.{allows}
use Rattle.requests.specs.Refusals.{number_of, answer_for, answer_number}
use Rattle.plans.specs.Legal.{words_of, packets_of, of_all, counters}
use Rattle.plans.specs.Narrowed.{only_counter, allowed_by, narrowed, any_lone, quiet_kept}
use Rattle.plans.specs.Places.{counted_of, counters_of, first, second}
use Rattle.plans.specs.Search.{take_counter, take_word, take_packet, place_of, admit, width, first_from, put_first, then_rest, try_number, plan_in, first_plan, has_plan_lem}
use Rattle.grammar.specs.Examples.{tabbed, typed}
use Rattle.grammar.specs.Fields.{fields, same_bytes_lem}
use Rattle.grammar.specs.Letters.{lettered}
use Rattle.grammar.specs.Numbers.{digit_of, number_from, decimal_of, hex_of, core_number_of, core_of}
use Rattle.grammar.specs.Parse.{longest, too_long_lem, parsed_refusal}
use Rattle.grammar.specs.Text.{bytes, tab, newline, hex_digit, hex_text, decimal_digits, decimal_text, line_of}
use Rattle.grammar.specs.Verbs.{line_from, open_formats, open_as, open_with, open_on, open_line, event_line, packet_line, offcore_line, latency_line, drop_line, turn_line, has_verb, verbs, record_of}
use Rattle.layouts.specs.Layout.{tabulate, cbox_globals, cbox_global, layout_of, rsp0_at, rsp1_at, mm_cfg_at, match_at, mask_at, ubox_at, pebs_at, pebs_on, mm_enable, frz_all, en_all, core_sel, precise_store, enabled_on, pmi_enable, enabled, event_word, code_of, mask_of, is_event, offcore_code, rsp_mask, rsp_word, packet_word}
use Rattle.layouts.specs.Settings.{uses_of, word_at, set_from, settings_of}
use Rattle.layouts.specs.Writes.{rows, zeros, unusable, fixed_at, fixed_enables, first_global, last_global, offcore_writes, packet_writes, filter_writes, pebs_enable, precise_writes, core_bit, ubox_value, box_writes, writes_for, writes, flat, filled}
use Rattle.sessions.specs.Calls.{waits}
use Rattle.sessions.specs.Choose.{taken_after, passed_after}
use Rattle.sessions.specs.Plain.{removed}
use Rattle.sessions.specs.Sessions.{queue_limit, vacant, queued, padded, session_of, new_session, plain_of, refused_by, answered, open_of, add_of, drop_of, unassigned, turn_answer, turn_of, turn_slice, plan_of}
use Rattle.sessions.specs.Table.{outside_ids, add_rows, drop_rows, turn_rows, turns_limit, turns_rows, before_open, once_open, table, refusal}
use Rattle.sessions.specs.Turns.{requests_of, fits, taken, passed, turned, places_of, assign, writes_of, lists_of, joined}
use Rattle.names.specs.EventNames.{name_byte, name_bytes, longest_name, is_name}
use Rattle.names.specs.Lists.{row_texts, is_ended, all_formed, well_formed, lists_formed}
use Rattle.names.specs.LookUp.{top_row, row_named}
use Rattle.names.specs.Named.{unlisted, foreign, request_for, request_named, named_field}
use Rattle.names.specs.Rows.{numbers_on, row_of, has_name}
use Rattle.parser.specs.ParseWith.{add_named, named_line, record_with, parse_text_with}
use Rattle.answers.specs.Replies.{answer_text, register_text, take_lines, set_lines, turn_room, reply_at, reply_of, turn_reply, record_reply, named_reply, parsed_reply}
use Rattle.streams.specs.FeedTries.{lent, said_by, ok, no, letters, FeedTries}
use Rattle.streams.specs.Feeds.{new_feed, feed_table, feed_refusal, refused_feed, feed_answer, feed_out, piece_state, piece_of, piece_out, end_state, end_of, end_out}
use Rattle.streams.specs.Stream.{line_start, feed_start, line_reply_lem, keep_byte, byte_state, byte_text, feed_state, feed_text, unfinished, unclosed, fault_at, end_text, transcript}
use Rattle.streams.specs.Tries.{outcome_with, outcome, expected, Tries}
use Rattle.streams.specs.NameTries.{NameTries}
use Rattle.streams.specs.OrderTries.{OrderTries}
use Rattle.streams.specs.PreciseTries.{PreciseTries}

pub tries_hold : Tries
unfolding flat_map overflow_on core_count unasked core_given asks asked overflow_not_on core_fits overflow_fits bit in_list any_bit only_bits type_bits any_response answer_bits outstanding rsp1_bits rsp0_bits rising field match_bits mask_bits latency_word sink_masks ring_masks starved_masks bypass_masks cbox_events architectural_events precise_events events_of code_in pair_in mask_not_listed kind_not_on not_listed_lem too_wide out_of_range incomplete conflicting request_rows both either every first_holding has capacity counter_count all_counters fixed_count all_fixed letter_of box_count box_of devices named device_of packets_on offcore_on pairs_judged usable_set opens rows_where opening_rows on_device opening_table setup_on opened_on opened_by opened_setup setup_of opening_of rule_on_b has_rules rule_of rule_for wants_quiet freeze_field range_field lack_field request_fields opening_field asking_field fields_on opening_fields no_fields field_of answer_field allows number_of answer_for words_of packets_of of_all counters only_counter allowed_by narrowed any_lone quiet_kept counted_of counters_of first second take_counter take_word take_packet place_of admit width first_from put_first then_rest try_number plan_in first_plan has_plan_lem tabbed typed fields same_bytes_lem lettered digit_of number_from decimal_of hex_of core_number_of core_of longest too_long_lem parsed_refusal bytes tab newline hex_digit hex_text decimal_digits decimal_text line_of line_from open_formats open_as open_with open_on open_line event_line packet_line offcore_line latency_line drop_line turn_line has_verb verbs record_of tabulate cbox_globals cbox_global layout_of rsp0_at rsp1_at mm_cfg_at match_at mask_at ubox_at pebs_at pebs_on mm_enable frz_all en_all core_sel precise_store enabled_on pmi_enable enabled event_word code_of mask_of is_event offcore_code rsp_mask rsp_word packet_word uses_of word_at set_from settings_of rows zeros unusable fixed_at fixed_enables first_global last_global offcore_writes packet_writes filter_writes pebs_enable precise_writes core_bit ubox_value box_writes writes_for writes flat filled waits taken_after passed_after removed queue_limit vacant queued padded session_of new_session plain_of refused_by answered open_of add_of drop_of unassigned turn_answer turn_of turn_slice plan_of outside_ids add_rows drop_rows turn_rows turns_limit turns_rows before_open once_open table refusal requests_of fits taken passed turned places_of assign writes_of lists_of joined name_byte name_bytes longest_name is_name row_texts is_ended all_formed well_formed lists_formed top_row row_named unlisted foreign request_for request_named named_field numbers_on row_of has_name add_named named_line record_with parse_text_with answer_text register_text take_lines set_lines turn_room reply_at reply_of turn_reply record_reply named_reply parsed_reply line_start feed_start line_reply_lem keep_byte byte_state byte_text feed_state feed_text unfinished unclosed fault_at end_text transcript outcome_with outcome expected
tries_hold = refl

pub order_tries_hold : OrderTries
unfolding flat_map overflow_on core_count unasked core_given asks asked overflow_not_on core_fits overflow_fits bit in_list any_bit only_bits type_bits any_response answer_bits outstanding rsp1_bits rsp0_bits rising field match_bits mask_bits latency_word sink_masks ring_masks starved_masks bypass_masks cbox_events architectural_events precise_events events_of code_in pair_in mask_not_listed kind_not_on not_listed_lem too_wide out_of_range incomplete conflicting request_rows both either every first_holding has capacity counter_count all_counters fixed_count all_fixed letter_of box_count box_of devices named device_of packets_on offcore_on pairs_judged usable_set opens rows_where opening_rows on_device opening_table setup_on opened_on opened_by opened_setup setup_of opening_of rule_on_b has_rules rule_of rule_for wants_quiet freeze_field range_field lack_field request_fields opening_field asking_field fields_on opening_fields no_fields field_of answer_field allows number_of answer_for words_of packets_of of_all counters only_counter allowed_by narrowed any_lone quiet_kept counted_of counters_of first second take_counter take_word take_packet place_of admit width first_from put_first then_rest try_number plan_in first_plan has_plan_lem tabbed typed fields same_bytes_lem lettered digit_of number_from decimal_of hex_of core_number_of core_of longest too_long_lem parsed_refusal bytes tab newline hex_digit hex_text decimal_digits decimal_text line_of line_from open_formats open_as open_with open_on open_line event_line packet_line offcore_line latency_line drop_line turn_line has_verb verbs record_of tabulate cbox_globals cbox_global layout_of rsp0_at rsp1_at mm_cfg_at match_at mask_at ubox_at pebs_at pebs_on mm_enable frz_all en_all core_sel precise_store enabled_on pmi_enable enabled event_word code_of mask_of is_event offcore_code rsp_mask rsp_word packet_word uses_of word_at set_from settings_of rows zeros unusable fixed_at fixed_enables first_global last_global offcore_writes packet_writes filter_writes pebs_enable precise_writes core_bit ubox_value box_writes writes_for writes flat filled waits taken_after passed_after removed queue_limit vacant queued padded session_of new_session plain_of refused_by answered open_of add_of drop_of unassigned turn_answer turn_of turn_slice plan_of outside_ids add_rows drop_rows turn_rows turns_limit turns_rows before_open once_open table refusal requests_of fits taken passed turned places_of assign writes_of lists_of joined name_byte name_bytes longest_name is_name row_texts is_ended all_formed well_formed lists_formed top_row row_named unlisted foreign request_for request_named named_field numbers_on row_of has_name add_named named_line record_with parse_text_with answer_text register_text take_lines set_lines turn_room reply_at reply_of turn_reply record_reply named_reply parsed_reply line_start feed_start line_reply_lem keep_byte byte_state byte_text feed_state feed_text unfinished unclosed fault_at end_text transcript outcome_with outcome expected
order_tries_hold = refl

pub precise_tries_hold : PreciseTries
unfolding flat_map overflow_on core_count unasked core_given asks asked overflow_not_on core_fits overflow_fits bit in_list any_bit only_bits type_bits any_response answer_bits outstanding rsp1_bits rsp0_bits rising field match_bits mask_bits latency_word sink_masks ring_masks starved_masks bypass_masks cbox_events architectural_events precise_events events_of code_in pair_in mask_not_listed kind_not_on not_listed_lem too_wide out_of_range incomplete conflicting request_rows both either every first_holding has capacity counter_count all_counters fixed_count all_fixed letter_of box_count box_of devices named device_of packets_on offcore_on pairs_judged usable_set opens rows_where opening_rows on_device opening_table setup_on opened_on opened_by opened_setup setup_of opening_of rule_on_b has_rules rule_of rule_for wants_quiet freeze_field range_field lack_field request_fields opening_field asking_field fields_on opening_fields no_fields field_of answer_field allows number_of answer_for words_of packets_of of_all counters only_counter allowed_by narrowed any_lone quiet_kept counted_of counters_of first second take_counter take_word take_packet place_of admit width first_from put_first then_rest try_number plan_in first_plan has_plan_lem tabbed typed fields same_bytes_lem lettered digit_of number_from decimal_of hex_of core_number_of core_of longest too_long_lem parsed_refusal bytes tab newline hex_digit hex_text decimal_digits decimal_text line_of line_from open_formats open_as open_with open_on open_line event_line packet_line offcore_line latency_line drop_line turn_line has_verb verbs record_of tabulate cbox_globals cbox_global layout_of rsp0_at rsp1_at mm_cfg_at match_at mask_at ubox_at pebs_at pebs_on mm_enable frz_all en_all core_sel precise_store enabled_on pmi_enable enabled event_word code_of mask_of is_event offcore_code rsp_mask rsp_word packet_word uses_of word_at set_from settings_of rows zeros unusable fixed_at fixed_enables first_global last_global offcore_writes packet_writes filter_writes pebs_enable precise_writes core_bit ubox_value box_writes writes_for writes flat filled waits taken_after passed_after removed queue_limit vacant queued padded session_of new_session plain_of refused_by answered open_of add_of drop_of unassigned turn_answer turn_of turn_slice plan_of outside_ids add_rows drop_rows turn_rows turns_limit turns_rows before_open once_open table refusal requests_of fits taken passed turned places_of assign writes_of lists_of joined name_byte name_bytes longest_name is_name row_texts is_ended all_formed well_formed lists_formed top_row row_named unlisted foreign request_for request_named named_field numbers_on row_of has_name add_named named_line record_with parse_text_with answer_text register_text take_lines set_lines turn_room reply_at reply_of turn_reply record_reply named_reply parsed_reply line_start feed_start line_reply_lem keep_byte byte_state byte_text feed_state feed_text unfinished unclosed fault_at end_text transcript outcome_with outcome expected
precise_tries_hold = refl

pub name_tries_hold : NameTries
unfolding flat_map overflow_on core_count unasked core_given asks asked overflow_not_on core_fits overflow_fits bit in_list any_bit only_bits type_bits any_response answer_bits outstanding rsp1_bits rsp0_bits rising field match_bits mask_bits latency_word sink_masks ring_masks starved_masks bypass_masks cbox_events architectural_events precise_events events_of code_in pair_in mask_not_listed kind_not_on not_listed_lem too_wide out_of_range incomplete conflicting request_rows both either every first_holding has capacity counter_count all_counters fixed_count all_fixed letter_of box_count box_of devices named device_of packets_on offcore_on pairs_judged usable_set opens rows_where opening_rows on_device opening_table setup_on opened_on opened_by opened_setup setup_of opening_of rule_on_b has_rules rule_of rule_for wants_quiet freeze_field range_field lack_field request_fields opening_field asking_field fields_on opening_fields no_fields field_of answer_field allows number_of answer_for words_of packets_of of_all counters only_counter allowed_by narrowed any_lone quiet_kept counted_of counters_of first second take_counter take_word take_packet place_of admit width first_from put_first then_rest try_number plan_in first_plan has_plan_lem tabbed typed fields same_bytes_lem lettered digit_of number_from decimal_of hex_of core_number_of core_of longest too_long_lem parsed_refusal bytes tab newline hex_digit hex_text decimal_digits decimal_text line_of line_from open_formats open_as open_with open_on open_line event_line packet_line offcore_line latency_line drop_line turn_line has_verb verbs record_of tabulate cbox_globals cbox_global layout_of rsp0_at rsp1_at mm_cfg_at match_at mask_at ubox_at pebs_at pebs_on mm_enable frz_all en_all core_sel precise_store enabled_on pmi_enable enabled event_word code_of mask_of is_event offcore_code rsp_mask rsp_word packet_word uses_of word_at set_from settings_of rows zeros unusable fixed_at fixed_enables first_global last_global offcore_writes packet_writes filter_writes pebs_enable precise_writes core_bit ubox_value box_writes writes_for writes flat filled waits taken_after passed_after removed queue_limit vacant queued padded session_of new_session plain_of refused_by answered open_of add_of drop_of unassigned turn_answer turn_of turn_slice plan_of outside_ids add_rows drop_rows turn_rows turns_limit turns_rows before_open once_open table refusal requests_of fits taken passed turned places_of assign writes_of lists_of joined name_byte name_bytes longest_name is_name row_texts is_ended all_formed well_formed lists_formed top_row row_named unlisted foreign request_for request_named named_field numbers_on row_of has_name add_named named_line record_with parse_text_with answer_text register_text take_lines set_lines turn_room reply_at reply_of turn_reply record_reply named_reply parsed_reply line_start feed_start line_reply_lem keep_byte byte_state byte_text feed_state feed_text unfinished unclosed fault_at end_text transcript outcome_with expected
name_tries_hold = refl

pub feed_tries_hold : FeedTries
unfolding flat_map overflow_on core_count unasked core_given asks asked overflow_not_on core_fits overflow_fits bit in_list any_bit only_bits type_bits any_response answer_bits outstanding rsp1_bits rsp0_bits rising field match_bits mask_bits latency_word sink_masks ring_masks starved_masks bypass_masks cbox_events architectural_events precise_events events_of code_in pair_in mask_not_listed kind_not_on not_listed_lem too_wide out_of_range incomplete conflicting request_rows both either every first_holding has capacity counter_count all_counters fixed_count all_fixed letter_of box_count box_of devices named device_of packets_on offcore_on pairs_judged usable_set opens rows_where opening_rows on_device opening_table setup_on opened_on opened_by opened_setup setup_of opening_of rule_on_b has_rules rule_of rule_for wants_quiet freeze_field range_field lack_field request_fields opening_field asking_field fields_on opening_fields no_fields field_of answer_field allows number_of answer_for answer_number words_of packets_of of_all counters only_counter allowed_by narrowed any_lone quiet_kept counted_of counters_of first second take_counter take_word take_packet place_of admit width first_from put_first then_rest try_number plan_in first_plan has_plan_lem tabbed typed fields same_bytes_lem lettered digit_of number_from decimal_of hex_of core_number_of core_of longest too_long_lem parsed_refusal bytes tab newline hex_digit hex_text decimal_digits decimal_text line_of line_from open_formats open_as open_with open_on open_line event_line packet_line offcore_line latency_line drop_line turn_line has_verb verbs record_of tabulate cbox_globals cbox_global layout_of rsp0_at rsp1_at mm_cfg_at match_at mask_at ubox_at pebs_at pebs_on mm_enable frz_all en_all core_sel precise_store enabled_on pmi_enable enabled event_word code_of mask_of is_event offcore_code rsp_mask rsp_word packet_word uses_of word_at set_from settings_of rows zeros unusable fixed_at fixed_enables first_global last_global offcore_writes packet_writes filter_writes pebs_enable precise_writes core_bit ubox_value box_writes writes_for writes flat filled waits taken_after passed_after removed queue_limit vacant queued padded session_of new_session plain_of refused_by answered open_of add_of drop_of unassigned turn_answer turn_of turn_slice plan_of outside_ids add_rows drop_rows turn_rows turns_limit turns_rows before_open once_open table refusal requests_of fits taken passed turned places_of assign writes_of lists_of joined name_byte name_bytes longest_name is_name row_texts is_ended all_formed well_formed lists_formed top_row row_named unlisted foreign request_for request_named named_field numbers_on row_of has_name add_named named_line record_with parse_text_with answer_text register_text take_lines set_lines turn_room reply_at reply_of turn_reply record_reply named_reply parsed_reply lent said_by ok no letters new_feed feed_table feed_refusal refused_feed feed_answer feed_out piece_state piece_of piece_out end_state end_of end_out line_start feed_start line_reply_lem keep_byte byte_state byte_text feed_state feed_text unfinished unclosed fault_at end_text
feed_tries_hold = refl
