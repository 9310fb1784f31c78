-- `length_in` meets its contract. Assumes nothing.
use Rattle.std.proofs.Common.{arith}
use Rattle.memory_run.specs.Run.{length_in, swapped}
use Rattle.memory_run.proofs.word.length_in.Goals as goal

pub returns : goal.returns
unfolding length_in swapped
returns c = omega arith
