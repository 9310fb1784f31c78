-- `find_clash` meets its contract. The loop's invariant: no slot passed has a clash.
use Rattle.rules_plan.specs.Plan.{Plan}
use Rattle.load_slot_links.specs.Lanes.{Searched}
use Rattle.load_clashes.proofs.Clash.{Quiet}
use Rattle.load_clashes.proofs.find_clash.Given as goal

abbrev pub invariant-loop-slot : goal.invariant-loop-slot
invariant-loop-slot l = (p : Plan) → Searched p l.rows l.paths l.spans l.aims l.numbers → Quiet p l.slot
