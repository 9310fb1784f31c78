-- `put_two` meets its contract. Assumes nothing.
use mathlib.Core.Path.{◌∙◌}
use Rattle.out_items.proofs.Bytes.{two-is}
use Rattle.out_items.proofs.put_two.Goals as goal

pub returns : goal.returns
returns c = rw (c.to_be_bytes.ensures ∙ two-is c.args.n c.ranges.n.fits) at c.put.ensures
