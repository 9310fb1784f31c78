-- `number_in` meets its contract. Assumes nothing.
use Rattle.std.proofs.Common.{arith}
use Rattle.memory_run.specs.Run.{number_in, swapped}
use Rattle.memory_run.proofs.word.number_in.Goals as goal

pub returns : goal.returns
unfolding number_in swapped
returns c = omega arith
