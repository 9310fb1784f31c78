-- `plan::load::clear` meets its contract: what is stored is memory that is all 0. Assumes nothing.
use Rattle.memory_plan.specs.laws.BlankMemory.{holds-blank}
use Rattle.load_plan.proofs.load.clear.Goals as goal

pub returns : goal.returns
returns c = holds-blank
