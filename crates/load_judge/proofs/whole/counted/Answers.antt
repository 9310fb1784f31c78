-- `whole::counted` meets its contract: a set has 64 members at most, and as many as the plan has devices or links. Assumes nothing.
use native.Mathlib.Omega.{arith}
use Rattle.bitsets.specs.Laws.{size-le}
use Rattle.rules_plan.specs.Plan.{nth}
use Rattle.load_judge.proofs.whole.Counts.{counts-are}
use Rattle.load_judge.proofs.whole.counted.Goals as goal

pub overflow_cast-result : goal.overflow_cast-result
overflow_cast-result c = omega (arith, c.size-devices.ensures, size-le c.union.result)

pub overflow_cast-result-2 : goal.overflow_cast-result-2
overflow_cast-result-2 c = omega (arith, c.size-links.ensures, size-le (nth c.args.sets.now 2))

pub returns : goal.returns
returns c size p fair is w = counts-are p fair size _ is w c.union.ensures c.size-devices.ensures c.size-links.ensures
