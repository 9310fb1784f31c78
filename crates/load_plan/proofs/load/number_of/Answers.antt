-- `plan::load::number_of` meets its contract: each arm knows the verdict's case. Assumes nothing.
use mathlib.Core.Path.{sym, ap}
use Rattle.rules_plan.specs.Verdict.{number}
use Rattle.load_plan.proofs.load.number_of.Goals as goal

pub returns-in-Accepted : goal.returns-in-Accepted
unfolding number
returns-in-Accepted c = sym (ap number c.in-Accepted.is)

pub returns-in-Faulty : goal.returns-in-Faulty
unfolding number
returns-in-Faulty c = sym (ap number c.in-Faulty.is)

pub returns-in-Overrun : goal.returns-in-Overrun
unfolding number
returns-in-Overrun c = sym (ap number c.in-Overrun.is)

pub returns-in-Clash : goal.returns-in-Clash
unfolding number
returns-in-Clash c = sym (ap number c.in-Clash.is)
