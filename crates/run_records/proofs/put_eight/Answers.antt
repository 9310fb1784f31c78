-- `put_eight` meets its contract. Assumes nothing.
use mathlib.Core.Path.{◌∙◌}
use Rattle.run_records.proofs.Eight.{eight-is}
use Rattle.run_records.proofs.put_eight.Goals as goal

pub returns : goal.returns
returns c = rw (c.to_le_bytes.ensures ∙ eight-is c.args.word c.ranges.word.fits) at c.put_bytes.ensures
