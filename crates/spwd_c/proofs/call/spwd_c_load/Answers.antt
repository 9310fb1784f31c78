-- `spwd_c::call::spwd_c_load` meets its contract. Assumes nothing.
use Rattle.spwd_c.proofs.Calls.{loads}
use Rattle.spwd_c.proofs.call.spwd_c_load.Goals as goal

pub returns : goal.returns
returns c = loads c.load-judged.ensures c.numbers_of.ensures
