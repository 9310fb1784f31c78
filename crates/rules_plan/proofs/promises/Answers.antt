-- The promises, from their proofs. Assumes nothing.
use Rattle.rules_plan.proofs.All.{promised}
use Rattle.rules_plan.proofs.promises.Goals as goal

pub returns : goal.returns
returns c = promised
