-- `set_of` meets its contract. The loop's invariant: the set is that of the numbers so far. Assumes nothing.
use mathlib.Core.Path.{◌≡◌}
use Prim.Native.Nat.{ℕ}
use lib.ListN.{take}
use Rattle.bitsets.specs.Set.{member, listed}
use Rattle.bitsets.proofs.set_of.Given as goal

abbrev pub invariant-loop-t : goal.invariant-loop-t
invariant-loop-t l = (k : ℕ) → member k l.set ≡ listed (take l.t-index l.s) k
