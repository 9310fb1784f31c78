-- `put_next` meets its contract: there is a turn or none. Assumes nothing.
use Rattle.std.proofs.Common.{◌∙◌, ap, sym}
use Rattle.rules_plan.specs.Next.{NoTurn, next_told}
use Rattle.script_answers.proofs.texts.Nexts.{no-turn-line, turn-line}
use Rattle.script_answers.proofs.texts.put_next.Goals as goal

pub returns-in-Err : goal.returns-in-Err
returns-in-Err c = no-turn-line (ap next_told c.in-Err.is ∙ ap NoTurn (sym c.from.ensures)) c.put_row-in-Err.ensures

pub returns-in-Ok : goal.returns-in-Ok
returns-in-Ok c = turn-line (ap next_told c.in-Ok.is) c.put_row.ensures
