-- `desk::answer::over_long` meets its contract. Assumes nothing.
use native.Mathlib.Omega.{arith}
use Rattle.script_desk.proofs.answer.OverLong.{no_bytes, hash, no-hash}
use Rattle.script_desk.proofs.answer.over_long.Goals as goal
use Rattle.script_desk.proofs.answer.over_long.Goals.{else-line-gt0-via-then-line-gt0+else-line-eq35, else-line-gt0-via-else-line-gt0}

pub returns-then-line-eq35 : goal.returns-then-line-eq35
returns-then-line-eq35 c = let a = c.args in hash a.line.now a.number c.if-line-eq35.true

pub returns : goal.returns
returns c =
    let a = c.args in
    elim c.else-line-gt0.branch [
      | else-line-gt0-via-then-line-gt0+else-line-eq35 w ↦ no-hash a.line.now a.number w.if-line-eq35.false c.put_error.ensures
      | else-line-gt0-via-else-line-gt0 w ↦ no_bytes a.line.now a.number (omega (arith, w.if-line-gt0.false)) c.put_error.ensures
    ]
