-- `writing_rows::put_members` meets its contract. The loop's invariant: the members before the least that is left are put. Assumes nothing.
use Prim.Native.Nat.{◌-◌}
use Rattle.bitsets.specs.Set.{least_of}
use Rattle.bitsets.specs.Walk.{Walk}
use Rattle.out_rows.proofs.Parts.{member_byte}
use Rattle.out_rows.proofs.put_members.Given as goal

abbrev pub invariant-loop-rest : goal.invariant-loop-rest
invariant-loop-rest l = Walk (member_byte l.set) l.set l.initial.out l.at l.out l.k l.rest

abbrev pub decreases-loop-rest : goal.decreases-loop-rest
decreases-loop-rest l = 64 - least_of l.rest
