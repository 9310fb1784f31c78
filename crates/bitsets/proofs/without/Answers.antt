-- `sets::without` meets its contract: the complement of a set of one takes that one out.
-- Assumes nothing.
use borrow.Author.Rules.{rules}
use Rattle.bitsets.proofs.Laws.{taken_out}
use Rattle.bitsets.proofs.without.Goals as goal

pub returns : goal.returns
returns c = taken_out c.args.s c.args.t c.single.result (search rules) (search rules) c.single.ensures
