-- `put_home` meets its contract: a plan with times has them in range, and the pair's path a row and a target below 64. Assumes nothing.
use mathlib.Core.Path.{sym}
use native.Mathlib.Omega.{arith}
use Rattle.time_sheet.specs.laws.Pace.{none-over, some-is}
use Rattle.load_replies.specs.laws.KeptCost.{untimed, some-row, some-target, stored}
use Rattle.load_replies.proofs.put_home.Goals as goal

pub returns-in_default : goal.returns-in_default
returns-in_default c = λ size p y x h i t n rs ps ns. untimed size p y x _ h ns (none-over _ c.in_default.ensures)

pub returns-then-row-ge-ROWS : goal.returns-then-row-ge-ROWS
returns-then-row-ge-ROWS c = λ size p y x h i t n rs ps ns.
    let r = c.row_among-row in
    let row = some-row size p y x _ h ns rs r.result (rw i r.ensures) in
    let target = some-target size p y x _ h ns rs r.result (rw i r.ensures) in
    absurd (omega (arith, t))

pub returns : goal.returns
returns c = λ size p y x h i t n rs ps ns.
    let r = c.row_among-row in
    let o = c.routers_over-out in
    let b = c.routers_over-home in
    let cost = rw (some-is _ _ c.in-Some.ensures) at c.cost.ensures in
    rw (sym t) (stored size p y x _ h ns rs r.result (rw i r.ensures) ps o.result b.result c.cost.result o.ensures (rw n at b.ensures) cost)
