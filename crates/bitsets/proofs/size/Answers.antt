-- `sets::size` meets its contract: the digits 1 of a word are as many as its members.
-- Assumes nothing.
use Rattle.bitsets.proofs.Laws.{size-ones}
use Rattle.bitsets.proofs.size.Goals as goal

pub returns : goal.returns
returns c = size-ones c.args.s c.ranges.s.fits
