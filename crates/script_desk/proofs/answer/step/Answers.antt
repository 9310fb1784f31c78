-- `desk::answer::step` meets its contract. Assumes nothing.
use Rattle.script_desk.proofs.answer.Told.{step-answers}
use Rattle.script_desk.proofs.answer.step.Goals as goal

pub returns : goal.returns
returns c =
    step-answers c.step-answer.ensures c.values_of-values.ensures c.put_event.ensures
