-- The tries of plans, by computation: every definition that they reach is unfolded. Assumes nothing.
use mathlib.Core.Path.{refl}
use Rattle.requests.specs.Askings.{unasked}
use Rattle.requests.specs.Bits.{bit, any_response, outstanding, latency_word}
use Rattle.requests.specs.Choice.{both, either}
use Rattle.requests.specs.Devices.{has, counter_count, all_counters}
use Rattle.requests.specs.EventRules.{rule_on_b, has_rules, rule_of, rule_for, wants_quiet}
use Rattle.plans.specs.Narrowed.{only_counter, allowed_by, narrowed, any_lone, quiet_kept}
use Rattle.plans.specs.Places.{counted_of}
use Rattle.plans.specs.PlanTries.{plan_tries, taken_of, left_tries, LeftTries, PlanTries}
use Rattle.plans.specs.Reach.{sets_with, taking, taking_one, left_by, left_from, left_of}
use Rattle.plans.specs.Search.{take_counter, take_word, take_packet, place_of, admit, width, first_from, put_first, then_rest, try_number, plan_in, first_plan}

pub plan_tries_lem : PlanTries
unfolding unasked bit any_response outstanding latency_word both either has counter_count all_counters rule_on_b has_rules rule_of rule_for wants_quiet only_counter allowed_by narrowed any_lone quiet_kept counted_of plan_tries taken_of take_counter take_word take_packet place_of admit width first_from put_first then_rest try_number plan_in first_plan
plan_tries_lem = refl

pub left_tries_lem : LeftTries
unfolding unasked bit has counter_count left_tries sets_with taking taking_one left_by left_from left_of
left_tries_lem = refl
