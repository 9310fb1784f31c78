-- `meets_after` meets its contract. The loop's invariant: no row passed has a link of row i's.
use mathlib.Core.Path.{◌≡◌}
use mathlib.Core.Bool.{false}
use Prim.Native.Nat.{ℕ, ◌≤◌, ◌<◌, ◌+◌}
use Rattle.load_clashes.specs.Clashes.{meets}
use Rattle.load_clashes.proofs.meets_after.Given as goal

abbrev pub invariant-loop-j : goal.invariant-loop-j
invariant-loop-j l = (m : ℕ) → m < l.j → l.i + 1 ≤ m → meets l.lanes l.i m ≡ false
