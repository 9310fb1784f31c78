-- `targets_at` meets its contract. Assumes nothing.
use native.Mathlib.Omega.{arith}
use Rattle.memory_plan.proofs.entry.Laws.{aim-past-rows, aim-past-slots, aim-told}
use Rattle.memory_plan.proofs.entry.targets_at.Goals as goal
use Rattle.memory_plan.proofs.entry.targets_at.Goals.{then-row-ge-ROWS-via-then-row-ge-ROWS, then-row-ge-ROWS-via-else-row-ge-ROWS+then-slot-ge64}

pub returns-then-row-ge-ROWS : goal.returns-then-row-ge-ROWS
returns-then-row-ge-ROWS c p ok is =
    let a = c.args in
    elim c.then-row-ge-ROWS.branch [
      | then-row-ge-ROWS-via-then-row-ge-ROWS w ↦ aim-past-rows p ok a.row a.slot w.if-row-ge-ROWS.true
      | then-row-ge-ROWS-via-else-row-ge-ROWS+then-slot-ge64 w ↦ aim-past-slots p ok a.row a.slot w.if-slot-ge64.true
    ]

pub returns : goal.returns
returns c p ok is = let a = c.args in aim-told p ok a.row a.slot (omega (arith, c.if-row-ge-ROWS.false)) (omega (arith, c.if-slot-ge64.false)) a.aims.now is
