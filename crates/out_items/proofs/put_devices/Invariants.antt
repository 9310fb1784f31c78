-- `writing_items::put_devices` meets its contract. The loop's invariant: the fields of the devices before the least that is left are put. Assumes nothing.
use Prim.Native.Nat.{◌-◌}
use Rattle.bitsets.specs.Set.{least_of}
use Rattle.bitsets.specs.Walk.{Walk}
use Rattle.out_items.specs.Out.{device_bytes}
use Rattle.out_items.proofs.put_devices.Given as goal

abbrev pub invariant-loop-rest : goal.invariant-loop-rest
invariant-loop-rest l = Walk (device_bytes l.nodes l.routers) l.initial.rest l.initial.out l.at l.out l.k l.rest

abbrev pub decreases-loop-rest : goal.decreases-loop-rest
decreases-loop-rest l = 64 - least_of l.rest
