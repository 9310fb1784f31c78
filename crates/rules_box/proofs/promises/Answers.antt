-- The promises, from their proofs and from the contract of the plan rules. Assumes nothing.
use Rattle.rules_box.proofs.All.{promised}
use Rattle.rules_box.proofs.promises.Goals as goal

pub returns : goal.returns
returns c = promised c.promises.ensures.sound
