-- `fields::read_fields` meets its contract: reading stands at a field, with the plan so far in memory, and each turn passes one.
-- The measure is what is left of the file. Assumes nothing.
use Prim.Native.Nat.{◌-◌, ◌≤◌}
use lib.ListN.{length}
use Rattle.load_fields.proofs.Stands.{Stands}
use Rattle.load_fields.proofs.read_fields.Given as goal

abbrev pub invariant-loop-at : goal.invariant-loop-at
invariant-loop-at l =
    (length l.file ≤ 16384) × Stands l.file l.at l.before l.sets l.ends l.rows l.reach l.paths l.spans l.aims l.numbers

abbrev pub decreases-loop-at : goal.decreases-loop-at
decreases-loop-at l = length l.file - l.at
