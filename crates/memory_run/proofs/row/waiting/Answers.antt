-- `waiting` meets its contract. Assumes nothing.
use mathlib.Core.Path.{refl}
use Rattle.memory_run.specs.laws.RowWords.{count_at}
use Rattle.memory_run.proofs.row.waiting.Goals as goal

pub returns : goal.returns
returns c = (refl, λ i s f is. count_at i s f c.args.row.now is)
