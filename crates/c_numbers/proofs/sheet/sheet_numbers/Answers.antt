-- `c_numbers::sheet::sheet_numbers` meets its contract. Assumes nothing.
use Rattle.rules_plan.specs.Sheet.{sheet_numbers}
use Rattle.c_numbers.proofs.sheet.sheet_numbers.Goals as goal

pub returns-in-Ok : goal.returns-in-Ok
unfolding sheet_numbers
returns-in-Ok c = rw c.in-Ok.is

pub returns-in-Err : goal.returns-in-Err
unfolding sheet_numbers
returns-in-Err c = rw (c.from.ensures, c.in-Err.is)
