-- One name that opens every definition of document 01 about the box, for theorems by computing.
use Rattle.rules_plan.specs.Computing.{computing}
use Rattle.rules_box.specs.Answer.{values}
use Rattle.rules_box.specs.State.{idle, cleared, watchdog_cleared, holding, watchdog_for, is_accepted, loaded, watchdog_loaded, no_plan, the_plan}
use Rattle.rules_box.specs.Refuse.{is_live_number, refusals, refusal}
use Rattle.rules_box.specs.Watch.{yes?, elapsed, is_early, is_overdue, told, fed}
use Rattle.rules_box.specs.Turn.{asked, join, finish, class, value_of, in_sequence, is_late, older, survives, aged, visited, allows, start_at, starting, fresh, begun, start_of, turned}
use Rattle.rules_box.specs.Records.{record_bytes, recorded, plain, full, watchdog_record, sequence_record, late_record, start_record, still_record, visit_records, late_records, visits_records, records}
use Rattle.rules_box.specs.Step.{with_side, ticked, ended_by, accepts, step, clock_of}

unfoldable pub running : Unit {0}
unfolding computing values idle cleared watchdog_cleared holding watchdog_for is_accepted loaded watchdog_loaded no_plan the_plan is_live_number refusals refusal yes? elapsed is_early is_overdue told fed asked join finish class value_of in_sequence is_late older survives aged visited allows start_at starting fresh begun start_of turned record_bytes recorded plain full watchdog_record sequence_record late_record start_record still_record visit_records late_records visits_records records with_side ticked ended_by accepts step clock_of
running = tt
