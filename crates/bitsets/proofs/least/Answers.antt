-- `sets::least` meets its contract: the zeros below the lowest digit 1 are the numbers that the search passes.
-- Assumes nothing.
use Rattle.bitsets.proofs.Laws.{least-zeros}
use Rattle.bitsets.proofs.least.Goals as goal

pub returns : goal.returns
returns c = least-zeros c.args.s
