-- `spwd_c::ask::spwd_c_holds` meets its contract. Assumes nothing.
use Rattle.spwd_c.proofs.Asks.{holds-it}
use Rattle.spwd_c.proofs.ask.spwd_c_holds.Goals as goal

pub returns : goal.returns
returns c = holds-it c.holds-held.result c.holds-held.ensures.answer c.holds-held.ensures.left
