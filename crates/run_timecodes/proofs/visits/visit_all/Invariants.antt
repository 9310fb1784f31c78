-- `visit_all` meets its contract. The loop's invariant: the initiators of the rows before this one are done, with at most a record for each. Assumes nothing.
use Rattle.memory_run.specs.Row.{IsRun}
use Rattle.run_timecodes.proofs.visits.Sweep.{VisitStands}
use Rattle.run_timecodes.proofs.visits.visit_all.Given as goal

abbrev pub invariant-loop-row : goal.invariant-loop-row
invariant-loop-row l = IsRun l.run × VisitStands l.clock l.spans l.aims l.initial.run l.v l.initial.out l.at l.run l.out l.k l.row
