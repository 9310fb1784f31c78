-- A file is accepted exactly when it is a good plan written out in some order of its items.
use mathlib.Core.Path.{◌≡◌}
use Rattle.rules_plan.specs.Plan.{Plan}
use Rattle.rules_plan.specs.Canon.{written, given}
use Rattle.rules_plan.specs.Good.{Good}
use Rattle.rules_plan.specs.Promises.{Accepted?, AcceptedExactly}
use Rattle.rules_plan.specs.laws.Accepted.{accepted-good, accepted-written}
use Rattle.rules_plan.specs.laws.Reads.{good-accepted}

pub accepted-exactly : AcceptedExactly
unfolding AcceptedExactly
accepted-exactly s b = (λ h. (given s, accepted-written s b h, accepted-good s h), from)
  where
    from : (p : Plan) × (s ≡ written p) × Good p → Accepted? s
    from (p, e, good) = rw e (good-accepted p good)
