-- `path_places::place_of` meets its contract: the place is between low and high.
use Prim.Native.Nat.{ℕ, ◌-◌, ◌≤◌, ◌<◌}
use Rattle.load_path_places.specs.Places.{IsPlace}
use Rattle.load_path_places.proofs.place_of.Given as goal

abbrev pub invariant-loop-low : goal.invariant-loop-low
invariant-loop-low l =
    (l.low ≤ l.high) × (l.high < l.count) × ((m : ℕ) → IsPlace l.paths l.count l.initiator l.target m → (l.low ≤ m) × (m ≤ l.high))

abbrev pub decreases-loop-low : goal.decreases-loop-low
decreases-loop-low l = l.high - l.low
