-- `put_sheet` meets its contract: there is a sheet or none. Assumes nothing.
use mathlib.Core.Path.{ap}
use Rattle.rules_plan.specs.Sheet.{sheet_told}
use Rattle.script_answers.proofs.texts.Sheets.{no-sheet-line, terms-line}
use Rattle.script_answers.proofs.texts.put_sheet.Goals as goal

pub returns-in-Ok : goal.returns-in-Ok
returns-in-Ok c = terms-line (ap sheet_told c.in-Ok.is) c.put_row.ensures

pub returns-in-Err : goal.returns-in-Err
returns-in-Err c = no-sheet-line (ap sheet_told c.in-Err.is) (rw c.from.ensures at c.put_row-in-Err.ensures)
