-- `greatest_interval` meets its contract. Assumes nothing.
use Rattle.memory_plan.proofs.interval.Laws.{greatest-told}
use Rattle.memory_plan.proofs.interval.greatest_interval.Goals as goal

pub returns : goal.returns
returns c size p is = greatest-told size p c.args.numbers.now is
