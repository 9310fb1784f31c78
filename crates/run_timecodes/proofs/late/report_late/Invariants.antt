-- `report_late` meets its contract. The loop's invariant: the initiators of the rows before this one are done, with at most a record for each. Assumes nothing.
use mathlib.Core.Path.{◌≡◌}
use Prim.Native.Nat.{◌+◌, ◌*◌, ◌≤◌}
use lib.ListN.{length}
use Rattle.rules_box.specs.Refuse.{record_size}
use Rattle.memory_run.specs.Row.{IsRun}
use Rattle.run_timecodes.proofs.late.Sweep.{LateSwept}
use Rattle.run_timecodes.proofs.late.report_late.Given as goal

abbrev pub invariant-loop-row : goal.invariant-loop-row
invariant-loop-row l =
    IsRun l.run × (length l.out ≡ length l.initial.out) × (l.k ≤ l.at + record_size * l.row) × LateSwept l.clock l.initial.run l.v l.in_sequence l.initial.out l.at l.run l.out l.k l.row
