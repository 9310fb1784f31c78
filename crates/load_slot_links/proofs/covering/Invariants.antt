-- `covering` meets its contract. The loop's invariant: no entry in the slots passed covers the slot.
use mathlib.Core.Path.{◌≡◌}
use mathlib.Core.Bool.{false}
use Prim.Native.Nat.{ℕ, ◌<◌}
use Rattle.load_slot_links.specs.Lanes.{covers_from}
use Rattle.load_slot_links.proofs.covering.Given as goal

abbrev pub invariant-loop-back : goal.invariant-loop-back
invariant-loop-back l = (b : ℕ) → b < l.back → covers_from l.spans l.row l.slot b ≡ false
