-- `finish_row` meets its contract. Assumes nothing.
use Rattle.memory_run.proofs.row.Rows.{finished}
use Rattle.memory_run.proofs.row.finish_row.Goals as goal

pub returns : goal.returns
returns c = λ i s f is. finished i s f c.args.row.now is
