-- `replay::answers::end_line` meets its contract. Assumes nothing.
use Rattle.replay.proofs.answers.Gathered.{roomy-room, ends-passed, ends-answered}
use Rattle.replay.proofs.answers.end_line.Goals as goal

pub returns-then-d : goal.returns-then-d
returns-then-d c = ends-passed c.if-d.true

pub answer_line-requires : goal.answer_line-requires
answer_line-requires c = roomy-room _ c.make_room.ensures

pub returns : goal.returns
returns c = ends-answered c.if-d.false c.make_room.ensures c.answer_line.ensures
