-- `replies::texts::put_flag` meets its contract. Assumes nothing.
use Rattle.rules_plan.specs.Print.{text}
use Rattle.script_answers.specs.Texts.{flag_line}
use Rattle.script_answers.proofs.texts.put_flag.Goals as goal

pub returns-then-flag : goal.returns-then-flag
unfolding flag_line text
returns-then-flag c = rw c.if-flag.true c.put_word.ensures

pub returns-else-flag : goal.returns-else-flag
unfolding flag_line text
returns-else-flag c = rw c.if-flag.false c.put_word-else-flag.ensures
