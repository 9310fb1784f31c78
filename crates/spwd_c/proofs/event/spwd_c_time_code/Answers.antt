-- `spwd_c::event::spwd_c_time_code` meets its contract. Assumes nothing.
use Rattle.std.proofs.Common.{rules, ◌≡◌}
use Rattle.rules_box.specs.Answer.{answer_told, recorded_told}
use Rattle.spwd_c.proofs.Events.{time-codes}
use Rattle.spwd_c.proofs.event.spwd_c_time_code.Goals as goal

pub returns : goal.returns
returns c =
    let r = c.time_code-recorded.result in
    let e : answer_told c.map.result ≡ recorded_told r = search rules in
    time-codes (recorded_told r) (rw e at c.values_of.ensures) c.time_code-recorded.ensures
