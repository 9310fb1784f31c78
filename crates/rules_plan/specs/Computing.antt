-- One name that opens every definition of document 01 about plans, for theorems by computing.
use mathlib.Core.List.{flat_map}
use Rattle.lists.specs.Search.{any, all, keep, find, only, when, is_some, first_some, seek, least, repeats, is_in, twice, up_from, below64}
use Rattle.lists.specs.Numbers.{first_from}
use Rattle.lists.specs.Rows.{first_of}
use Rattle.lists.specs.Place.{further, first, at_place, without}
use Rattle.lists.specs.Order.{in_order}
use Rattle.rules_plan.specs.Plan.{blank, grow}
use Rattle.rules_plan.specs.Fields.{as_device, as_link, as_path, as_entry, as_timing, as_times, as_reply, tags, tag_of, is_tag, comes_once, length_allowed, item_of, content_at, item_at, two_bytes, four_bytes, tag_for, content_for, field_for}
use Rattle.rules_plan.specs.Meaning.{is_device, has_kind, is_node, is_router, is_link, is_initiator, initiators, leads_from, has_path, across, leads, walks, is_walk, uses, home_of, covers, routers, takes_at_most, fits_in, fits, permits, may_start, stands_at, entry_at, reaches, may_use, is_at_work, runs_into, overruns, least_of, greatest_of, times_of}
use Rattle.rules_plan.specs.Next.{is_turn, slot_after, next_turn, next_rows, next_refusal, next_answer, next_numbers}
use Rattle.rules_plan.specs.Sheet.{quotient_up, reply_address, crossing, header, data_time, reply_time, sheet, over_million, times_out_of_range, no_sheet, sheet_answer, sheet_numbers}
use Rattle.rules_plan.specs.Verdict.{number, place}
use Rattle.rules_plan.specs.Judge.{over63, out_of_range, given_before, not_given, too_many, no_walk, no_path, item_rows, head_rows, field_rows, field_fault, with_field, read_from, read_file, missing, no_timing, no_entry, overrun_at, overrun_of, overrun, clash_on, clash_with, clash_of, clash_in, clash, counts, whole_plan, judge}
use Rattle.rules_plan.specs.Canon.{small_first, rising, with_rising, canonical, items, written, given, plan_of}
use Rattle.rules_plan.specs.Copy.{sized, bytes_of, copy_rows, copy_refusal, copy_answer, copied}
use Rattle.rules_plan.specs.Print.{text, digits, decimal, spaced, numbers, words, line}

unfoldable pub computing : Unit {0}
unfolding flat_map any all keep find only when is_some first_some seek least repeats is_in twice up_from below64 first_from first_of further first at_place without in_order blank grow as_device as_link as_path as_entry as_timing as_times as_reply tags tag_of is_tag comes_once length_allowed item_of content_at item_at two_bytes four_bytes tag_for content_for field_for is_device has_kind is_node is_router is_link is_initiator initiators leads_from has_path across leads walks is_walk uses home_of covers quotient_up reply_address crossing header data_time reply_time sheet over_million times_out_of_range no_sheet sheet_answer sheet_numbers routers takes_at_most fits_in fits permits may_start stands_at entry_at reaches may_use is_at_work runs_into overruns least_of greatest_of times_of is_turn slot_after next_turn next_rows next_refusal next_answer next_numbers number place over63 out_of_range given_before not_given too_many no_walk no_path item_rows head_rows field_rows field_fault with_field read_from read_file missing no_timing no_entry overrun_at overrun_of overrun clash_on clash_with clash_of clash_in clash counts whole_plan judge small_first rising with_rising canonical items written given plan_of sized bytes_of copy_rows copy_refusal copy_answer copied text digits decimal spaced numbers words line
computing = tt
