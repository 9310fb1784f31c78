-- `replay::serve` meets its contract. The loop's invariant: rounds brought it here, none of them failed, and the bytes that are left have room in the buffer. Assumes nothing.
use Rattle.std.proofs.Common.{◌≡◌, ◌≤◌, false, length}
use Rattle.box_calls.specs.Owned.{memory_of}
use Rattle.replay.specs.Gather.{stand}
use Rattle.replay.specs.Rounds.{Rounds}
use Rattle.replay.proofs.serve.Given as goal

abbrev pub invariant-loop-turn : goal.invariant-loop-turn
invariant-loop-turn l =
    (length l.initial.input ≡ 65_536) × (l.len ≤ 65_536) × (length l.input ≡ 65_536) × (l.d.failed ≡ false)
    × Rounds l.initial.input (stand l.initial.d (memory_of l.initial.m) l.initial.text l.initial.out) l.input l.len (stand l.d (memory_of l.m) l.text l.out)
