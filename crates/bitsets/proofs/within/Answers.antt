-- `sets::within` meets its contract: what is in a and not in b is in a and in the complement of b.
-- Assumes nothing.
use mathlib.Core.Path.{◌∙◌}
use borrow.Author.Rules.{rules}
use Rattle.bitsets.proofs.Laws.{within_word}
use Rattle.bitsets.proofs.within.Goals as goal

pub returns : goal.returns
returns c = let s = c.args in c.disjoint.ensures ∙ within_word s.a s.b (search rules)
