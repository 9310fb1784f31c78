-- The promises, from their proofs and from the contracts of the plan rules and the box rules. Assumes nothing.
use Rattle.box_promises.proofs.All.{promised}
use Rattle.box_promises.proofs.promises.Goals as goal

pub returns : goal.returns
returns c = promised c.promises.ensures c.promises-2.ensures
