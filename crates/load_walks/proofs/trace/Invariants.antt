-- `trace` meets its contract: the links are gathered, and the walk goes on link by link.
use Rattle.rules_plan.specs.Plan.{Plan}
use Rattle.load_items.proofs.Gathers.{Gathers}
use Rattle.load_walks.proofs.Walks.{Walking, Goes}
use Rattle.load_walks.proofs.trace.Given as goal

abbrev pub invariant-loop-link : goal.invariant-loop-link
invariant-loop-link l =
    Gathers l.links l.over l.set l.link-index × ((p : Plan) → Walking p l.sets l.ends l.start l.links → Goes p l.start l.links l.end l.here l.met l.broken l.link-index)
