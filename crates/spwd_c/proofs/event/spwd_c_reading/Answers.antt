-- `spwd_c::event::spwd_c_reading` meets its contract. Assumes nothing.
use Rattle.std.proofs.Common.{rules, ◌≡◌}
use Rattle.rules_box.specs.Answer.{answer_told, reading_told}
use Rattle.spwd_c.proofs.Events.{readings}
use Rattle.spwd_c.proofs.event.spwd_c_reading.Goals as goal

pub returns : goal.returns
returns c =
    let r = c.reading.result in
    let e : answer_told c.map.result ≡ reading_told r = search rules in
    readings (reading_told r) (rw e at c.values_of.ensures) c.reading.ensures
