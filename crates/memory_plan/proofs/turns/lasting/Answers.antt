-- `lasting` meets its contract. Assumes nothing.
use native.Mathlib.Omega.{arith}
use Rattle.memory_plan.proofs.turns.Laws.{none-long, both_long}
use Rattle.memory_plan.proofs.turns.lasting.Goals as goal

pub returns-then-need-gt-LONGEST : goal.returns-then-need-gt-LONGEST
returns-then-need-gt-LONGEST c = let a = c.args in none-long a.aims.now a.row a.slots a.need c.if-need-gt-LONGEST.true

pub returns : goal.returns
returns c = let a = c.args in both_long a.aims.now a.row a.slots a.need (omega (arith, c.if-need-gt-LONGEST.false)) c.both.result c.both.ensures
