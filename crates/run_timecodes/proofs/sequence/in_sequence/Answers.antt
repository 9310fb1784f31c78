-- `in_sequence` meets its contract. Assumes nothing.
use mathlib.Core.Path.{◌∙◌}
use borrow.Author.Tests.{eq-eqb}
use Rattle.run_timecodes.proofs.sequence.Refusals.{first-in, next-in}
use Rattle.run_timecodes.proofs.sequence.in_sequence.Goals as goal

pub returns-then-last-eq0 : goal.returns-then-last-eq0
returns-then-last-eq0 c = let a = c.args in λ o e. eq-eqb a.last 0 c.if-last-eq0.true ∙ first-in a.last a.byte c.if-last-eq0.true o e

pub returns-else-last-eq0 : goal.returns-else-last-eq0
returns-else-last-eq0 c = let a = c.args in λ o e. next-in a.last a.byte c.if-last-eq0.false o e
