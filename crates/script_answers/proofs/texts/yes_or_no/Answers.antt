-- `replies::texts::yes_or_no` meets its contract. Assumes nothing.
use borrow.Author.Tests.{eq-eqb, ne_eqb}
use Rattle.script_answers.specs.Texts.{yes_or_no}
use Rattle.script_answers.proofs.texts.yes_or_no.Goals as goal

pub returns-then-n-eq0 : goal.returns-then-n-eq0
unfolding yes_or_no
returns-then-n-eq0 c = rw (eq-eqb _ 0 c.if-n-eq0.true)

pub returns-else-n-eq0 : goal.returns-else-n-eq0
unfolding yes_or_no
returns-else-n-eq0 c = rw (ne_eqb _ 0 c.if-n-eq0.false)
