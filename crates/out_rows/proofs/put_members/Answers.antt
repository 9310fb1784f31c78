-- `writing_rows::put_members` meets its contract. The loop's invariant: the members before the least that is left are put. Assumes nothing.
use native.Mathlib.Omega.{arith}
use lib.ListN.{length-set}
use borrow.Author.Rules.{rules}
use Rattle.lists.specs.laws.Stores.{put_one}
use Rattle.bitsets.specs.Laws.{least-le}
use Rattle.bitsets.specs.Walk.{walk-begin, walk-less, walk-next, walk-done}
use Rattle.out_rows.proofs.Parts.{member_byte, member-off, member-on, members-rise, member-room}
use Rattle.out_rows.proofs.put_members.Goals as goal

pub loop-rest-init : goal.loop-rest-init
loop-rest-init c = let a = c.args in walk-begin (member_byte a.set) a.set (member-off a.set) (search rules) a.out.now a.at

pub overflow_cast-target : goal.overflow_cast-target
overflow_cast-target c = omega (arith, c.least-target.ensures, least-le c.loop-rest.rest)

pub bounds-out-k : goal.bounds-out-k
bounds-out-k c = member-room c.loop-rest.invariant c.loop-rest-test.true c.requires

pub overflow_add-k : goal.overflow_add-k
overflow_add-k c = omega (arith, member-room c.loop-rest.invariant c.loop-rest-test.true c.requires)

pub loop-rest-smaller : goal.loop-rest-smaller
loop-rest-smaller c =
    walk-less c.loop-rest.invariant c.loop-rest-test.true c.without_least-rest.result c.without_least-rest.ensures

pub loop-rest-preserved : goal.loop-rest-preserved
loop-rest-preserved c =
    let set = c.args.set in
    walk-next c.loop-rest.invariant c.loop-rest-test.true c.without_least-rest.result c.without_least-rest.ensures (search rules)
    c.least-target.ensures (member-on set c.least-target.result) (simp length-set) (record { fitting = λ _. put_one c.loop-rest.out c.loop-rest.k c.least-target.result })

pub shape_of-out : goal.shape_of-out
shape_of-out c = c.loop-rest.invariant.turns.same

pub returns : goal.returns
returns c = (rw (members-rise c.args.set) at (walk-done c.loop-rest.invariant c.loop-rest-test.false)).fitting c.requires
