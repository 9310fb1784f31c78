-- `least_slots` meets its contract: before each halving the need is within twice the step. Assumes nothing.
use Rattle.memory_plan.proofs.entry.Laws.{one-enough, too_few, by-halves}
use Rattle.memory_plan.proofs.entry.least_slots.Goals as goal

pub returns-then-need-slot : goal.returns-then-need-slot
returns-then-need-slot c = let a = c.args in one-enough a.need a.slot c.requires c.if-need-slot.true

pub returns-then-slot-need : goal.returns-then-slot-need
returns-then-slot-need c = let a = c.args in too_few a.need a.slot c.if-slot-need.true

pub returns : goal.returns
returns c =
    by-halves c.args.need c.args.slot _ _ _ c.past-ones.result c.requires c.if-slot-need.false
    c.past-eights.ensures c.past-fours.ensures c.past-twos.ensures c.past-ones.ensures
