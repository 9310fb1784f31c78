-- `has_live` meets its contract: a live transaction's time is never 0. Assumes nothing.
use Rattle.memory_run.specs.laws.RowWords.{live-is}
use Rattle.memory_run.proofs.row.has_live.Goals as goal

pub returns : goal.returns
returns c = λ i s f is. live-is i s f c.args.row.now is
