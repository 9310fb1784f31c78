-- `desk::answer::clear` meets its contract. Assumes nothing.
use Rattle.rules_plan.specs.Print.{text}
use Rattle.script_desk.proofs.answer.clear.Goals as goal

pub returns-clause-prints : goal.returns-clause-prints
unfolding text
returns-clause-prints c = c.put_word.ensures
