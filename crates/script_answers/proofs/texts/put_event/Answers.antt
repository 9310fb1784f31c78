-- `replies::texts::put_event` meets its contract: the event is one of the four. Assumes nothing.
use native.Mathlib.Omega.{arith}
use lib.ListN.{length-take}
use Rattle.script_answers.proofs.texts.Events.{time-code-line, request-line, reply-line, reading-line}
use Rattle.script_answers.proofs.texts.put_event.Goals as goal

pub put_bytes-requires : goal.put_bytes-requires
put_bytes-requires c = (omega arith, rw (c.part.ensures, length-take) (omega arith))

pub returns-in-TimeCode : goal.returns-in-TimeCode
returns-in-TimeCode c =
    let a = c.args in
    λ v f. time-code-line a.values.now a.records.now v f c.in-TimeCode.is c.records_size.ensures c.part.ensures c.put_bytes.ensures

pub returns-in-Request : goal.returns-in-Request
returns-in-Request c =
    let a = c.args in
    λ v f. request-line a.values.now a.records.now v f c.in-Request.is c.put_row.ensures

pub returns-in-Reply : goal.returns-in-Reply
returns-in-Reply c =
    let a = c.args in
    λ v f. reply-line a.values.now a.records.now v f c.in-Reply.is c.put_row-in-Reply.ensures

pub returns-in-Reading : goal.returns-in-Reading
returns-in-Reading c =
    let a = c.args in
    λ v f. reading-line a.values.now a.records.now v f c.in-Reading.is c.put_row-in-Reading.ensures
