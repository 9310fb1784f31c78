-- `lanes_in` meets its contract. The loop's invariant: the rows passed have their sets.
use mathlib.Core.Path.{◌≡◌}
use lib.ListN.{length}
use Rattle.rules_plan.specs.Plan.{Plan}
use Rattle.load_slot_links.specs.Lanes.{Searched}
use Rattle.load_slot_links.specs.laws.Lanes.{Filled}
use Rattle.load_slot_links.proofs.lanes_in.Given as goal

abbrev pub invariant-loop-row : goal.invariant-loop-row
invariant-loop-row l = (length l.lanes ≡ 8) × ((p : Plan) → Searched p l.rows l.paths l.spans l.aims l.numbers → Filled p l.slot l.lanes l.row)
