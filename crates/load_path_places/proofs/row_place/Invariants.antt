-- `row_place` meets its contract: the place among the rows passed.
use mathlib.Core.Path.{◌≡◌}
use Prim.Native.Nat.{◌≤◌}
use Rattle.load_path_places.specs.Places.{row_place}
use Rattle.load_path_places.proofs.row_place.Given as goal

abbrev pub invariant-loop-k : goal.invariant-loop-k
invariant-loop-k l = (l.place ≤ l.k) × (l.place ≡ row_place l.rows l.k l.initiator)
