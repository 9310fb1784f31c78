-- `header_time` meets its contract. Assumes nothing.
use Rattle.std.proofs.Common.{arith}
use Rattle.rules_plan.specs.Sheet.{header}
use Rattle.time_sheet.proofs.Pace.header_time.Goals as goal

pub returns : goal.returns
unfolding header
returns c =
    (rw (c.quotient_up.ensures.0, c.from.ensures, c.reply_address.ensures.0, ← c.self.view_is), omega arith)
