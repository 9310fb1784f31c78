-- `sets::without_least` meets its contract: one less has the digits of s above the lowest digit 1, and at that one a 0.
-- Assumes nothing.
use borrow.Author.Rules.{rules}
use Rattle.bitsets.proofs.Laws.{least-out, none_out}
use Rattle.bitsets.proofs.without_least.Goals as goal

pub returns-then-s-eq0 : goal.returns-then-s-eq0
returns-then-s-eq0 c = none_out c.args.s c.if-s-eq0.true

pub returns-else-s-eq0 : goal.returns-else-s-eq0
returns-else-s-eq0 c = least-out c.args.s (search rules) c.if-s-eq0.false
