-- `replies::texts::put_copied` meets its contract: the plan was written or not. Assumes nothing.
use mathlib.Core.Path.{ap}
use native.Mathlib.Omega.{arith}
use lib.ListN.{length-take}
use Rattle.rules_plan.specs.Copy.{copied_told}
use Rattle.script_answers.proofs.texts.Copies.{refused-line, written-line}
use Rattle.script_answers.proofs.texts.put_copied.Goals as goal

pub put_bytes-requires : goal.put_bytes-requires
put_bytes-requires c = (omega arith, rw (c.part.ensures, length-take) (omega arith))

pub returns-in-Ok : goal.returns-in-Ok
returns-in-Ok c =
    written-line c.args.buffer.now (ap copied_told c.in-Ok.is) c.part.ensures c.put_bytes.ensures

pub returns-in-Err : goal.returns-in-Err
returns-in-Err c =
    refused-line c.args.buffer.now (ap copied_told c.in-Err.is) (rw c.from.ensures at c.put_bytes-in-Err.ensures)
