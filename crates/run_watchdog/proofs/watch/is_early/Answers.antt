-- `is_early` meets its contract. Assumes nothing.
use Rattle.std.proofs.Common.{rules, ne_eqb}
use Rattle.rules_box.specs.Watch.{is_early, yes?}
use Rattle.run_watchdog.proofs.watch.is_early.Goals as goal

pub returns-then-w-ne0 : goal.returns-then-w-ne0
unfolding is_early yes?
returns-then-w-ne0 c = rw (ne_eqb c.args.w.seen 0 c.if-w-ne0.true, c.elapsed_since.ensures)

pub returns-else-w-ne0 : goal.returns-else-w-ne0
unfolding is_early yes?
returns-else-w-ne0 c = rw c.if-w-ne0.false
