-- `store_path` meets its contract: behind the first three bytes stand the first k of the eight places for links.
use mathlib.Core.Path.{◌≡◌}
use Prim.Native.Nat.{◌+◌}
use lib.ListN.{length}
use lib.Seq.{paste}
use Rattle.lists.specs.Cells.{padded}
use Rattle.load_paths.proofs.store_path.Given as goal

abbrev pub invariant-loop-k : goal.invariant-loop-k
invariant-loop-k l = (length l.initial.paths ≡ 2816 → l.paths ≡ paste l.initial.paths (l.at + 3) (padded 8 0 l.links) l.k)
