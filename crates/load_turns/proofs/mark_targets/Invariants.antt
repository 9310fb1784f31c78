-- `mark_targets` meets its contract. Assumes nothing.
use mathlib.Core.Path.{◌≡◌}
use lib.ListN.{length, take}
use Rattle.load_turns.specs.Marked.{Marked, is_target}
use Rattle.load_turns.proofs.mark_targets.Given as goal

abbrev pub invariant-loop-target : goal.invariant-loop-target
invariant-loop-target l = length l.initial.aims ≡ 1_152 → Marked (is_target l.row (take l.target-index l.targets)) l.slot l.initial.aims l.aims
