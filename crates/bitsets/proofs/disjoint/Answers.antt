-- `sets::disjoint` meets its contract: the word of the common members is 0 where there are none.
-- Assumes nothing.
use borrow.Author.Rules.{rules}
use Rattle.bitsets.proofs.Laws.{disjoint-word}
use Rattle.bitsets.proofs.disjoint.Goals as goal

pub returns : goal.returns
returns c =
    let s = c.args in
    disjoint-word s.a s.b c.both.result (search rules) (search rules) c.both.ensures
