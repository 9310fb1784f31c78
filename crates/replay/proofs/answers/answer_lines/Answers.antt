-- `replay::answers::answer_lines` meets its contract. The loop's invariant: the lines before the place start are answered. Assumes nothing.
use Rattle.std.proofs.Common.{arith, rules}
use Rattle.replay.specs.Gather.{none}
use Rattle.replay.proofs.lines.Scans.{end-behind, end-within, below-told, none-told}
use Rattle.replay.proofs.answers.Gathered.{lines_more}
use Rattle.replay.proofs.answers.answer_lines.Goals as goal

pub loop-end-init : goal.loop-end-init
loop-end-init c = (search rules, none)

pub slice_bounds-end_line-count : goal.slice_bounds-end_line-count
slice_bounds-end_line-count c =
    let f = below-told c.find_newline.ensures c.in-Some.is in
    omega (arith, f.0, end-behind c.args.input.now c.loop-end.start)

pub slice_bounds-end_line-start : goal.slice_bounds-end_line-start
slice_bounds-end_line-start c =
    let f = below-told c.find_newline.ensures c.in-Some.is in
    omega (arith, f.0, f.1, end-behind c.args.input.now c.loop-end.start)

pub overflow_add-start : goal.overflow_add-start
overflow_add-start c =
    let f = below-told c.find_newline.ensures c.in-Some.is in
    omega (arith, f.0, f.1, c.well_formed)

pub loop-end-smaller : goal.loop-end-smaller
loop-end-smaller c =
    let f = below-told c.find_newline.ensures c.in-Some.is in
    omega (arith, f.0, f.1, c.loop-end.invariant.0, end-behind c.args.input.now c.loop-end.start)

pub loop-end-preserved : goal.loop-end-preserved
loop-end-preserved c =
    let f = below-told c.find_newline.ensures c.in-Some.is in
    (omega (arith, f.0, f.1), lines_more f.0 c.loop-end.invariant.1 (omega (arith, f.0, f.1)) c.end_line.ensures)

pub returns : goal.returns
returns c =
    let i = c.loop-end.invariant in
    record {
      lines = i.1;
      within = i.0;
      rest = omega (arith, none-told c.find_newline.ensures c.in_default.is, end-within c.args.input.now c.loop-end.start i.0);
    }
