-- `writing_items::put_devices` meets its contract. The loop's invariant: the fields of the devices before the least that is left are put. Assumes nothing.
use native.Mathlib.Omega.{arith}
use borrow.Author.Rules.{rules}
use Rattle.lists.specs.Numbers.{digit}
use Rattle.bitsets.specs.Laws.{least-le}
use Rattle.bitsets.specs.Walk.{walk-begin, walk-less, walk-next, walk-done}
use Rattle.out_items.specs.Out.{device_bytes}
use Rattle.out_items.proofs.Parts.{device-off, device-on}
use Rattle.out_items.proofs.put_devices.Goals as goal

pub loop-rest-init : goal.loop-rest-init
loop-rest-init c =
    let a = c.args in
    walk-begin (device_bytes a.nodes a.routers) c.union-rest.result (device-off a.nodes a.routers c.union-rest.result c.union-rest.ensures) (search rules) a.out.now a.at

pub overflow_cast-n : goal.overflow_cast-n
overflow_cast-n c = omega (arith, c.least-n.ensures, least-le c.loop-rest.rest)

pub overflow_cast-device : goal.overflow_cast-device
overflow_cast-device c = tt

pub loop-rest-smaller : goal.loop-rest-smaller
loop-rest-smaller c =
    walk-less c.loop-rest.invariant c.loop-rest-test.true c.without_least-rest.result c.without_least-rest.ensures

pub loop-rest-preserved : goal.loop-rest-preserved
unfolding digit
loop-rest-preserved c =
    let a = c.args in
    walk-next c.loop-rest.invariant c.loop-rest-test.true c.without_least-rest.result c.without_least-rest.ensures (search rules)
    c.least-n.ensures (device-on a.nodes a.routers c.union-rest.result c.union-rest.ensures c.least-n.result) c.put-k.auto.out (rw c.has.ensures at c.put-k.ensures)

pub shape_of-out : goal.shape_of-out
shape_of-out c = c.loop-rest.invariant.turns.same

pub returns : goal.returns
returns c = walk-done c.loop-rest.invariant c.loop-rest-test.false
