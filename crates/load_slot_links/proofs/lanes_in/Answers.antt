-- `lanes_in` meets its contract. The loop's invariant: the rows passed have their sets.
use Rattle.load_slot_links.specs.laws.Lanes.{filled-all}
use Rattle.load_slot_links.proofs.lanes_in.Goals as goal

pub returns : goal.returns
returns c p s =
    filled-all p c.args.slot c.loop-row.lanes c.loop-row.invariant.0 c.loop-row.row (c.loop-row.invariant.1 p s) c.loop-row-test.false
