-- `calls::clear::clear` meets its contract. Assumes nothing.
use Rattle.box_calls.specs.laws.Boxes.{holds-cleared}
use Rattle.rules_box.specs.State.{watchdog_cleared}
use Rattle.std.proofs.Common.{rules}
use Rattle.box_calls.proofs.clear.clear.Goals as goal

pub returns : goal.returns
unfolding watchdog_cleared
returns c =
    let r = c.clear_run.ensures in
    record { holds = holds-cleared.1 (c.clear.ensures, r.0, r.1); five = search rules }
