-- Every row of the samples, by computing. Assumes nothing.
use mathlib.Core.Path.{refl}
use Rattle.rules_box.specs.Running.{running}
use Rattle.rules_box.specs.Samples.{node, router, joins, route, home, at, plan_a, first_plan, only_timing, five_thousand_each, over_four, two_ways, seen, outcome, row, requests, next, samples, Samples}
use Rattle.rules_box.proofs.samples.Goals as goal

pub returns : goal.returns
unfolding running node router joins route home at plan_a first_plan only_timing five_thousand_each over_four two_ways seen outcome row requests next samples Samples
returns c = refl
