-- `find_overrun` meets its contract. The loop's invariant: no entry of the rows passed runs on.
use Rattle.load_overruns.proofs.Overrun.{Clean}
use Rattle.load_overruns.proofs.find_overrun.Given as goal

abbrev pub invariant-loop-row : goal.invariant-loop-row
invariant-loop-row l = Clean l.spans l.row
