-- `cost` meets its contract. Assumes nothing.
use Rattle.std.proofs.Common.{arith}
use Rattle.time_sheet.proofs.Laws.{cost-is, cost-fits}
use Rattle.time_sheet.proofs.Pace.cost.Goals as goal

pub overflow_mul-result : goal.overflow_mul-result
overflow_mul-result c =
    let a = c.args in
    omega (
      arith,
      cost-fits a.self a.out a.home c.self.view_is c.crossing_time.ensures.0 c.header_time.ensures.0 c.crossing_time-2.ensures.0 c.reply_time.ensures.0
          (rw c.self.view_is at c.self.invariant) (omega arith) (omega arith),
    )

pub returns : goal.returns
returns c =
    cost-is _ _ _ c.self.view_is c.crossing_time.ensures.0 c.header_time.ensures.0 c.crossing_time-2.ensures.0 c.reply_time.ensures.0
