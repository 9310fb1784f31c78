-- `replay::answers::flush` meets its contract. Assumes nothing.
use Rattle.std.proofs.Common.{rules}
use Rattle.replay.proofs.answers.Gathered.{flushed-before, flushed-now}
use Rattle.replay.proofs.answers.flush.Goals as goal

pub returns-then-d : goal.returns-then-d
returns-then-d c = flushed-before _ c.if-d.true

pub returns : goal.returns
returns c = flushed-now _ _ (search rules)
