-- `reply` meets its contract. Assumes nothing.
use Rattle.std.proofs.Common.{◌+◌, ◌-◌, ◌*◌, arith}
use Rattle.std.proofs.lemmas.Result.{err_from_is_err_and}
use Rattle.rules_box.specs.Answer.{ended_told}
use Rattle.run_requests.proofs.reply.Ends.{stranger, ends}
use Rattle.run_requests.proofs.reply.reply.Goals as goal

pub returns-in_err-row : goal.returns-in_err-row
returns-in_err-row c =
    let a = c.args in
    let e = err_from_is_err_and c.from_residual.result c.from_residual.ensures.1 in
    λ b spans aims last f room w.
    rw (e.1, e.2) (stranger f room w a.initiator a.number a.status 8 c.in_err-row.ensures.none (omega arith) _ c.in_err-row.ensures.refusal)

pub returns : goal.returns
returns c =
    let m = c.end_row in
    let k = c.in_ok-row in
    let a = c.args in
    let size = k.row * 12 + 12 - k.row * 12 in
    λ b spans aims last f room w.
    ends f room w a.initiator a.number a.status k.row k.ensures.own k.ensures.low (ended_told m.result) size m.new.row (omega arith) m.ensures
