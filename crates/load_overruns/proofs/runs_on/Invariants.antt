-- `runs_on` meets its contract. The loop's invariant: no entry stands in the slots passed.
use mathlib.Core.Path.{◌≡◌}
use mathlib.Core.Bool.{false}
use Prim.Native.Nat.{ℕ, ◌<◌}
use Rattle.load_overruns.specs.Overruns.{stands_after}
use Rattle.load_overruns.proofs.runs_on.Given as goal

abbrev pub invariant-loop-k : goal.invariant-loop-k
invariant-loop-k l = (j : ℕ) → j < l.k → stands_after l.spans l.row l.slot j ≡ false
