-- `live_number` meets its contract: the word comes apart again. Assumes nothing.
use mathlib.Core.Path.{◌∙◌}
use Rattle.memory_run.specs.laws.RowWords.{live-parts}
use Rattle.memory_run.proofs.row.live_number.Goals as goal

pub returns : goal.returns
returns c = λ i s f is. c.number_in.ensures ∙ (live-parts i s f c.args.row.now is).number
