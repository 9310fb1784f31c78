-- `told_numbers` meets its contract. Assumes nothing.
use Rattle.c_numbers.proofs.told.told_numbers.Goals as goal

pub returns-in-Ok : goal.returns-in-Ok
returns-in-Ok c = rw c.in-Ok.is

pub returns-in-Err : goal.returns-in-Err
returns-in-Err c = rw (c.from.ensures, c.in-Err.is)
