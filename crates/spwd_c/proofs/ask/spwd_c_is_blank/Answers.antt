-- `spwd_c::ask::spwd_c_is_blank` meets its contract. Assumes nothing.
use Rattle.spwd_c.proofs.Asks.{is-blank}
use Rattle.spwd_c.proofs.ask.spwd_c_is_blank.Goals as goal

pub returns : goal.returns
returns c = is-blank _ c.is_blank-blank.result c.is_blank-blank.ensures
