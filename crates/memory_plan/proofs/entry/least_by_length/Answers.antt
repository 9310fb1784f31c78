-- `least_by_length` meets its contract. Assumes nothing.
use native.Mathlib.Omega.{arith}
use Rattle.memory_plan.proofs.entry.Laws.{least-within}
use Rattle.memory_plan.proofs.entry.least_by_length.Goals as goal

pub returns : goal.returns
returns c = least-within _ (omega arith)
