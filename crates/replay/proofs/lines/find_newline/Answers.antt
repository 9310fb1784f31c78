-- `replay::lines::find_newline` meets its contract. The loop's invariant: the line ends where one would that began at place i. Assumes nothing.
use Rattle.std.proofs.Common.{length, ◌∙◌, rules, eq-eqb, ne_eqb}
use Rattle.lists.specs.laws.Scan.{first-here, first_next, first-end}
use Rattle.replay.specs.Lines.{is_newline}
use Rattle.replay.proofs.lines.Scans.{told-below, told-none}
use Rattle.replay.proofs.lines.find_newline.Goals as goal

pub returns-then-s-i-eq10 : goal.returns-then-s-i-eq10
returns-then-s-i-eq10 c =
    let s = c.args.s.now in
    told-below (c.loop-i.invariant ∙ first-here (is_newline s) (length s) c.loop-i.i (search rules) (eq-eqb _ 10 c.if-s-i-eq10.true)) (search rules)

pub loop-i-preserved : goal.loop-i-preserved
loop-i-preserved c =
    let s = c.args.s.now in
    c.loop-i.invariant ∙ first_next (is_newline s) (length s) c.loop-i.i (search rules) (ne_eqb _ 10 c.if-s-i-eq10.false)

pub returns : goal.returns
returns c =
    let s = c.args.s.now in
    told-none (c.loop-i.invariant ∙ first-end (is_newline s) (length s) c.loop-i.i (search rules)) (search rules)
