-- `replay::take_lines` meets its contract. Assumes nothing.
use Rattle.std.proofs.Common.{sym, length-take-le}
use Rattle.replay.proofs.Takes.{start-within, taken-room, taken-full}
use Rattle.replay.proofs.take_lines.Goals as goal

pub slice_bounds-answer_lines-end-2 : goal.slice_bounds-answer_lines-end-2
slice_bounds-answer_lines-end-2 c = sym (length-take-le _ _ c.requires)

pub shift-left-requires : goal.shift-left-requires
shift-left-requires c = start-within c.args.input.now c.args.len c.answer_lines-start.ensures c.requires

pub returns-then-left-input : goal.returns-then-left-input
returns-then-left-input c =
    taken-room c.args.input.now c.args.len c.answer_lines-start.ensures c.shift-left.auto.s c.shift-left.ensures c.if-left-input.true

pub returns : goal.returns
returns c =
    taken-full c.args.input.now c.args.len c.answer_lines-start.ensures c.shift-left.auto.s c.shift-left.ensures c.if-left-input.false (c.pass_over.ensures _)
