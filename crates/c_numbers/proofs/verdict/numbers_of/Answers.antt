-- `c_numbers::verdict::numbers_of` meets its contract. Assumes nothing.
use mathlib.Core.Path.{sym, ap}
use Rattle.lists.specs.Cells.{padded}
use Rattle.rules_plan.specs.Verdict.{number, place}
use Rattle.c_numbers.specs.Numbers.{verdict_numbers}
use Rattle.c_numbers.proofs.verdict.numbers_of.Goals as goal

pub returns-in-Accepted : goal.returns-in-Accepted
unfolding verdict_numbers padded number place
returns-in-Accepted c = sym (ap verdict_numbers c.in-Accepted.is)

pub returns-in-Faulty : goal.returns-in-Faulty
unfolding verdict_numbers padded number place
returns-in-Faulty c = sym (ap verdict_numbers c.in-Faulty.is)

pub returns-in-Overrun : goal.returns-in-Overrun
unfolding verdict_numbers padded number place
returns-in-Overrun c = sym (ap verdict_numbers c.in-Overrun.is)

pub returns-in-Clash : goal.returns-in-Clash
unfolding verdict_numbers padded number place
returns-in-Clash c = sym (ap verdict_numbers c.in-Clash.is)
