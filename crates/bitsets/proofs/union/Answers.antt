-- `sets::union` meets its contract: the members of `|` are those of either number.
-- Assumes nothing.
use Rattle.bitsets.specs.Laws.{member-or}
use Rattle.bitsets.proofs.union.Goals as goal

pub returns : goal.returns
returns c = λ k. member-or k c.args.a c.args.b
