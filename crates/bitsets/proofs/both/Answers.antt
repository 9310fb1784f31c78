-- `sets::both` meets its contract: the members of `&` are those of both numbers.
-- Assumes nothing.
use Rattle.bitsets.specs.Laws.{member-and}
use Rattle.bitsets.proofs.both.Goals as goal

pub returns : goal.returns
returns c = λ k. member-and k c.args.a c.args.b
