-- `replay::answers::answer_line` meets its contract. Assumes nothing.
use Rattle.std.proofs.Common.{rules}
use Rattle.replay.proofs.answers.Gathered.{gathers}
use Rattle.replay.proofs.answers.answer_line.Goals as goal

pub returns : goal.returns
returns c =
    gathers
    _
    c.requires
    c.put-arg-1.given.0.1
    (search rules)
    (search rules)
    (rw c.part.ensures at c.put-d.ensures)
    c.answer-end.ensures
