-- `spwd_c::event::spwd_c_request` meets its contract. Assumes nothing.
use Rattle.std.proofs.Common.{rules, ◌≡◌}
use Rattle.rules_box.specs.Answer.{answer_told, joined_told}
use Rattle.spwd_c.proofs.Events.{requests}
use Rattle.spwd_c.proofs.event.spwd_c_request.Goals as goal

pub returns : goal.returns
returns c =
    let r = c.request-joined.result in
    let e : answer_told c.map.result ≡ joined_told r = search rules in
    requests (joined_told r) (rw e at c.values_of.ensures) c.request-joined.ensures
