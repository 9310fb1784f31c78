-- `replies::texts::put_watchdog` meets its contract. Assumes nothing.
use Rattle.script_answers.specs.Texts.{watchdog_line}
use Rattle.script_answers.proofs.texts.put_watchdog.Goals as goal

pub returns : goal.returns
unfolding watchdog_line
returns c =
    rw (← c.yes_or_no.ensures, ← c.yes_or_no-2.ensures) c.put_row.ensures
