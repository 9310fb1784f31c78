-- `reply_time` meets its contract. Assumes nothing.
use Rattle.std.proofs.Common.{arith}
use Rattle.rules_plan.specs.Sheet.{reply_time}
use Rattle.time_sheet.proofs.Pace.reply_time.Goals as goal

pub returns : goal.returns
unfolding reply_time
returns c = (rw (c.quotient_up.ensures.0, c.from.ensures, ← c.self.view_is), omega arith)
