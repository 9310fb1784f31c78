-- `mark_span` meets its contract. Assumes nothing.
use mathlib.Core.Path.{◌≡◌}
use lib.ListN.{length}
use Rattle.load_turns.specs.Marked.{Marked, is_span}
use Rattle.load_turns.proofs.mark_span.Given as goal

abbrev pub invariant-loop-k : goal.invariant-loop-k
invariant-loop-k l = length l.initial.aims ≡ 1_152 → Marked (is_span l.row l.k) l.slot l.initial.aims l.aims
