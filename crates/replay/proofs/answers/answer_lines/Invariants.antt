-- `replay::answers::answer_lines` meets its contract. The loop's invariant: the lines before the place start are answered. Assumes nothing.
use Rattle.std.proofs.Common.{◌-◌, ◌≤◌, length}
use Rattle.box_calls.specs.Owned.{memory_of}
use Rattle.replay.specs.Gather.{stand, Lines}
use Rattle.replay.proofs.answers.answer_lines.Given as goal

abbrev pub invariant-loop-end : goal.invariant-loop-end
invariant-loop-end l =
    (l.start ≤ length l.input)
    × Lines l.input (stand l.initial.d (memory_of l.initial.m) l.initial.text l.initial.out) l.start (stand l.d (memory_of l.m) l.text l.out)

abbrev pub decreases-loop-end : goal.decreases-loop-end
decreases-loop-end l = length l.input - l.start
