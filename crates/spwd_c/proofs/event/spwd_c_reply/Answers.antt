-- `spwd_c::event::spwd_c_reply` meets its contract. Assumes nothing.
use Rattle.std.proofs.Common.{rules, ◌≡◌}
use Rattle.rules_box.specs.Answer.{answer_told, ended_told}
use Rattle.spwd_c.proofs.Events.{replies}
use Rattle.spwd_c.proofs.event.spwd_c_reply.Goals as goal

pub returns : goal.returns
returns c =
    let r = c.reply-ended.result in
    let e : answer_told c.map.result ≡ ended_told r = search rules in
    replies (ended_told r) (rw e at c.values_of.ensures) c.reply-ended.ensures
