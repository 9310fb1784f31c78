-- `live_word` meets its contract. Assumes nothing.
use Rattle.memory_run.specs.laws.RowWords.{live-word-at}
use Rattle.memory_run.proofs.row.live_word.Goals as goal

pub returns : goal.returns
returns c = λ i s f is. live-word-at i s f c.args.row.now is
