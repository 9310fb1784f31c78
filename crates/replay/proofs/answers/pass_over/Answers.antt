-- `replay::answers::pass_over` meets its contract. Assumes nothing.
use Rattle.std.proofs.Common.{rules}
use Rattle.replay.proofs.answers.Gathered.{passes-again, passes-first}
use Rattle.replay.proofs.answers.pass_over.Goals as goal

pub returns-then-d : goal.returns-then-d
returns-then-d c = λ m. passes-again c.if-d.true

pub returns : goal.returns
returns c =
    λ _. passes-first
    c.if-d.false
    c.make_room.ensures
    c.put-arg-1.given.0.1
    (search rules)
    (search rules)
    (rw c.part.ensures at c.put-d.ensures)
    c.over_long-end.ensures
