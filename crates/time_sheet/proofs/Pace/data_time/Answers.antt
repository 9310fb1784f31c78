-- `data_time` meets its contract. Assumes nothing.
use Rattle.std.proofs.Common.{arith}
use Rattle.rules_plan.specs.Sheet.{data_time}
use Rattle.time_sheet.proofs.Pace.data_time.Goals as goal

pub returns : goal.returns
unfolding data_time
returns c = (rw (c.quotient_up.ensures.0, c.from.ensures, ← c.self.view_is), omega arith)
