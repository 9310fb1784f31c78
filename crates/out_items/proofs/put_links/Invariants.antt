-- `writing_items::put_links` meets its contract. The loop's invariant: the fields of the links before the least that is left are put. Assumes nothing.
use Prim.Native.Nat.{◌-◌}
use Rattle.bitsets.specs.Set.{least_of}
use Rattle.bitsets.specs.Walk.{Walk}
use Rattle.out_items.specs.Out.{link_bytes}
use Rattle.out_items.proofs.put_links.Given as goal

abbrev pub invariant-loop-rest : goal.invariant-loop-rest
invariant-loop-rest l = Walk (link_bytes l.links l.ends) l.links l.initial.out l.at l.out l.k l.rest

abbrev pub decreases-loop-rest : goal.decreases-loop-rest
decreases-loop-rest l = 64 - least_of l.rest
