-- `least_interval` meets its contract. Assumes nothing.
use Rattle.memory_plan.proofs.interval.Laws.{least-told}
use Rattle.memory_plan.proofs.interval.least_interval.Goals as goal

pub returns : goal.returns
returns c size p is = least-told size p c.args.numbers.now is
