-- `desk::answer::with_records` meets its contract: the front of a buffer that is all 0 is lent. Assumes nothing.
use native.Mathlib.Omega.{arith}
use Rattle.script_desk.proofs.answer.Rooms.{lent-size}
use Rattle.script_desk.proofs.answer.Told.{lent-zeros}
use Rattle.script_desk.proofs.answer.with_records.Goals as goal

pub slice_bounds-step-end : goal.slice_bounds-step-end
slice_bounds-step-end c = lent-size 4_096 c.records_room-records.ensures c.requires

pub step-requires : goal.step-requires
step-requires c = omega (arith, lent-size 4_096 c.records_room-records.ensures c.requires)

pub returns : goal.returns
returns c =
    lent-zeros c.records_room-records.ensures c.requires c.step.ensures
