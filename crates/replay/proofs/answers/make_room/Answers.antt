-- `replay::answers::make_room` meets its contract. Assumes nothing.
use Rattle.std.proofs.Common.{rules}
use Rattle.replay.proofs.answers.Gathered.{roomy-flushed, roomy-same}
use Rattle.replay.proofs.answers.make_room.Goals as goal

pub returns-then-d-gt65600 : goal.returns-then-d-gt65600
returns-then-d-gt65600 c = roomy-flushed _ (search rules) c.flush.ensures

pub returns-else-d-gt65600 : goal.returns-else-d-gt65600
returns-else-d-gt65600 c = roomy-same _ _ (search rules)
