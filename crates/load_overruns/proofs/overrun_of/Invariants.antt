-- `overrun_of` meets its contract. The loop's invariant: no entry in the slots passed runs on.
use mathlib.Core.Path.{◌≡◌}
use mathlib.Core.Bool.{false}
use Prim.Native.Nat.{ℕ, ◌<◌}
use Rattle.load_overruns.specs.Overruns.{runs_at}
use Rattle.load_overruns.proofs.overrun_of.Given as goal

abbrev pub invariant-loop-slot : goal.invariant-loop-slot
invariant-loop-slot l = (v : ℕ) → v < l.slot → runs_at l.spans l.row v ≡ false
