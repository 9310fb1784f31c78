-- `put_four` meets its contract. Assumes nothing.
use mathlib.Core.Path.{◌∙◌}
use Rattle.out_items.proofs.Bytes.{four-is}
use Rattle.out_items.proofs.put_four.Goals as goal

pub returns : goal.returns
returns c = rw (c.to_be_bytes-four.ensures ∙ four-is c.args.n c.ranges.n.fits) at c.put.ensures
