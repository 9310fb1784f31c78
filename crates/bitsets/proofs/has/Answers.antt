-- `has` meets its contract: below 64 it reads the digit, and from 64 on a word has no member. Assumes nothing.
use mathlib.Core.Path.{refl, sym, ◌∙◌}
use borrow.Author.Tests.{le-ltb}
use Rattle.bitsets.specs.Set.{member}
use Rattle.bitsets.specs.Laws.{member-beyond}
use Rattle.bitsets.proofs.has.Goals as goal

pub returns-then-t-lt64 : goal.returns-then-t-lt64
unfolding member
returns-then-t-lt64 c = refl

pub returns-else-t-lt64 : goal.returns-else-t-lt64
returns-else-t-lt64 c = le-ltb c.args.t 64 c.if-t-lt64.false ∙ sym (member-beyond 64 c.args.t c.args.s c.ranges.s.fits c.if-t-lt64.false)
