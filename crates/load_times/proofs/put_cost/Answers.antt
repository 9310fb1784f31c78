-- `put_cost` meets its contract: a path of the plan has a row and a target below 64. Assumes nothing.
use native.Mathlib.Omega.{arith}
use Rattle.load_times.specs.laws.Filled.{some-row, some-target, stored}
use Rattle.load_times.proofs.put_cost.Goals as goal

pub returns-then-row-ge-ROWS : goal.returns-then-row-ge-ROWS
returns-then-row-ge-ROWS c = λ p front fair rs ps low fill.
    let r = c.row_among-row in
    let a = c.args in
    let row = some-row p fair a.pace front a.rows.now a.paths.now a.numbers.now rs ps a.k low fill r.result r.ensures in
    let target = some-target p fair a.pace front a.rows.now a.paths.now a.numbers.now rs ps a.k low fill r.result r.ensures in
    absurd (omega arith)

pub returns : goal.returns
returns c = λ p front fair rs ps low fill.
    let r = c.row_among-row in
    let a = c.args in
    stored p fair a.pace front a.rows.now a.paths.now a.numbers.now rs ps a.k low fill r.result r.ensures
    c.routers_over-routers.result c.cost.result c.routers_over-routers.ensures c.cost.ensures
