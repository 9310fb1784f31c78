-- `put_watchdog_record` meets its contract. Assumes nothing.
use Rattle.std.proofs.Common.{arith}
use Rattle.run_records.proofs.Laws.{plain-next, watchdog-early, watchdog-late, watchdog-none}
use Rattle.run_records.proofs.put_watchdog_record.Goals as goal

pub returns-then-is_early : goal.returns-then-is_early
returns-then-is_early c =
    let a = c.args in
    let p = c.put_plain.ensures in
    (watchdog-early a.clock a.w a.v c.is_early.result c.is_early.ensures c.if-is_early.true p, plain-next a.clock 1 a.v p)

pub returns-then-is_overdue : goal.returns-then-is_overdue
returns-then-is_overdue c =
    let a = c.args in
    let p = c.put_plain-then-is_overdue.ensures in (
      watchdog-late a.clock a.w a.v c.is_early.result c.is_early.ensures c.if-is_early.false c.is_overdue.result c.is_overdue.ensures c.if-is_overdue.true p,
      plain-next a.clock 2 a.v p,
    )

pub returns : goal.returns
returns c =
    let a = c.args in
    let p =
    watchdog-none a.out.now a.at a.clock a.w a.v c.is_early.result c.is_overdue.result c.is_early.ensures c.is_overdue.ensures
    c.if-is_early.false c.if-is_overdue.false
    in
    (p, λ _. omega arith)
