use Rattle.std.proofs.Common.{rules}
use Rattle.rules_plan.specs.Sheet.{crossing}
use Rattle.time_sheet.proofs.crossing_time.Goals as goal

pub returns : goal.returns
unfolding crossing
returns c = search rules
