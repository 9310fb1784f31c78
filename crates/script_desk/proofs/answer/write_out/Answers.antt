-- `desk::answer::write_out` meets its contract: the front of a buffer that is all 0 is lent and handed back. Assumes nothing.
use Rattle.script_desk.proofs.answer.Rooms.{lent-size, back-within, back-size, back-most}
use Rattle.script_desk.proofs.answer.Told.{out-answers}
use Rattle.script_desk.proofs.answer.write_out.Goals as goal

pub slice_bounds-write_out-end : goal.slice_bounds-write_out-end
slice_bounds-write_out-end c = lent-size 32_768 c.plan_room-buffer.ensures c.requires

pub slice_bounds-buffer-end-2 : goal.slice_bounds-buffer-end-2
slice_bounds-buffer-end-2 c = back-within 32_768 c.plan_room-buffer.ensures c.requires c.write_out-copied.new.out c.write_out-copied.auto.out

pub slice_bounds-put_copied-end : goal.slice_bounds-put_copied-end
slice_bounds-put_copied-end c = back-size 32_768 c.plan_room-buffer.ensures c.requires c.write_out-copied.new.out c.write_out-copied.auto.out

pub put_copied-requires : goal.put_copied-requires
put_copied-requires c = back-most 32_768 c.plan_room-buffer.ensures c.requires c.write_out-copied.new.out c.write_out-copied.auto.out

pub returns : goal.returns
returns c =
    out-answers _ _ _ _ _ _ _ _ c.args.m.now.run c.args.m.now.last c.plan_room-buffer.ensures c.requires c.write_out-copied.auto.out (λ o. c.write_out-copied.ensures o _) c.put_copied.ensures
