-- `sets::single` meets its contract: 0 has no member, and a power of two has one.
-- Assumes nothing.
use borrow.Author.Rules.{rules}
use Rattle.bitsets.proofs.Laws.{alone-low, alone-high}
use Rattle.bitsets.proofs.single.Goals as goal

pub returns-then-t-ge64 : goal.returns-then-t-ge64
returns-then-t-ge64 c = alone-high c.args.t (search rules)

pub returns-else-t-ge64 : goal.returns-else-t-ge64
returns-else-t-ge64 c = alone-low c.args.t (search rules)
