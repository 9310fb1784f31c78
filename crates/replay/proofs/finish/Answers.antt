-- `replay::finish` meets its contract. Assumes nothing.
use Rattle.std.proofs.Common.{arith}
use Rattle.replay.proofs.Rounds.{finishes-nothing, finishes-last}
use Rattle.replay.proofs.finish.Goals as goal
use Rattle.replay.proofs.finish.Goals.{then-line-gt0, else-line-gt0}

pub returns : goal.returns
returns c =
    elim c.if-line-gt0.branch [
      | then-line-gt0 w ↦ rw (w.m-is, w.text-is, w.out-is) (finishes-last w.if-line-gt0.true w.end_line.ensures (rw w.d-is at c.flush.ensures))
      | else-line-gt0 w ↦ rw (w.m-is, w.text-is, w.out-is) (finishes-nothing (omega (arith, w.if-line-gt0.false)) (rw w.d-is at c.flush.ensures))
    ]
