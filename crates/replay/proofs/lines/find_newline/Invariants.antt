-- `replay::lines::find_newline` meets its contract. The loop's invariant: the line ends where one would that began at place i. Assumes nothing.
use Rattle.std.proofs.Common.{◌≡◌}
use Rattle.replay.specs.Lines.{line_end}
use Rattle.replay.proofs.lines.find_newline.Given as goal

abbrev pub invariant-loop-i : goal.invariant-loop-i
invariant-loop-i l = line_end l.s l.from ≡ line_end l.s l.i
