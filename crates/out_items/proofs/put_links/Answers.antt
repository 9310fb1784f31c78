-- `writing_items::put_links` meets its contract. The loop's invariant: the fields of the links before the least that is left are put. Assumes nothing.
use native.Mathlib.Omega.{arith}
use borrow.Author.Rules.{rules}
use Rattle.bitsets.specs.Laws.{least-le}
use Rattle.bitsets.specs.Walk.{walk-begin, walk-low, walk-less, walk-next, walk-done}
use Rattle.out_items.specs.Out.{link_bytes}
use Rattle.out_items.proofs.Parts.{link-off, link_on}
use Rattle.out_items.proofs.put_links.Goals as goal

pub loop-rest-init : goal.loop-rest-init
loop-rest-init c = let a = c.args in walk-begin (link_bytes a.links a.ends.now) a.links (link-off a.links a.ends.now) (search rules) a.out.now a.at

pub overflow_cast-n : goal.overflow_cast-n
overflow_cast-n c = omega (arith, c.least-n.ensures, least-le c.loop-rest.rest)

pub overflow_cast-i : goal.overflow_cast-i
overflow_cast-i c = omega (arith, c.least-n.ensures, least-le c.loop-rest.rest)

pub overflow_mul-i : goal.overflow_mul-i
overflow_mul-i c = omega (arith, c.least-n.ensures, least-le c.loop-rest.rest)

pub bounds-ends-i : goal.bounds-ends-i
bounds-ends-i c = omega (arith, c.least-n.ensures, walk-low c.loop-rest.invariant c.loop-rest-test.true)

pub overflow_add-greater : goal.overflow_add-greater
overflow_add-greater c = omega (arith, c.least-n.ensures, least-le c.loop-rest.rest)

pub bounds-ends-i-in-loop-rest : goal.bounds-ends-i-in-loop-rest
bounds-ends-i-in-loop-rest c = omega (arith, c.least-n.ensures, walk-low c.loop-rest.invariant c.loop-rest-test.true)

pub loop-rest-smaller : goal.loop-rest-smaller
loop-rest-smaller c =
    walk-less c.loop-rest.invariant c.loop-rest-test.true c.without_least-rest.result c.without_least-rest.ensures

pub loop-rest-preserved : goal.loop-rest-preserved
loop-rest-preserved c =
    let a = c.args in
    walk-next c.loop-rest.invariant c.loop-rest-test.true c.without_least-rest.result c.without_least-rest.ensures (search rules)
    c.least-n.ensures (link_on a.links a.ends.now c.least-n.result) c.put-k.auto.out c.put-k.ensures

pub shape_of-out : goal.shape_of-out
shape_of-out c = c.loop-rest.invariant.turns.same

pub returns : goal.returns
returns c = walk-done c.loop-rest.invariant c.loop-rest-test.false
