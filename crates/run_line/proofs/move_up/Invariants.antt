-- `move_up` meets its contract: the first j places are the new line's, the others the old one's. Assumes nothing.
use Rattle.std.proofs.Common.{◌≡◌, ◌++◌, take, drop}
use Rattle.lists.specs.Place.{without}
use Rattle.run_line.proofs.move_up.Given as goal

abbrev pub invariant-loop-j : goal.invariant-loop-j
invariant-loop-j l = (l.places ≡ take l.j (without l.k l.initial.places) ++ drop l.j l.initial.places)
