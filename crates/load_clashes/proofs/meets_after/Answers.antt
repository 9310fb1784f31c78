-- `meets_after` meets its contract. The loop's invariant: no row passed has a link of row i's.
use mathlib.Core.Path.{◌≡◌, sym, ap, ◌∙◌}
use mathlib.Core.Bool.{not, false}
use Prim.Native.Nat.{◌+◌, ◌≤◌, ◌-◌}
use native.Mathlib.Omega.{arith}
use borrow.Author.Count.{below_more}
use Rattle.lists.specs.laws.Sweep.{first-here, first-none}
use Rattle.lists.specs.laws.Below.{some-below, none-below}
use Rattle.load_clashes.specs.Clashes.{meets}
use Rattle.load_clashes.proofs.meets_after.Goals as goal

pub returns-then-not-disjoint : goal.returns-then-not-disjoint
unfolding meets
returns-then-not-disjoint c =
    let i = c.args.i in
    let lanes = c.args.lanes.now in
    let low = c.loop-j-test.true in
    some-below 8 _ c.loop-j.j
    (first-here (7 - i) (i + 1) (meets lanes i) c.loop-j.j c.loop-j.auto.j (omega arith) (ap not (sym c.disjoint.ensures ∙ c.if-not-disjoint.true)) (λ m h g. c.loop-j.invariant m g h)) low

pub loop-j-preserved : goal.loop-j-preserved
unfolding meets
loop-j-preserved c =
    let i = c.args.i in
    let lanes = c.args.lanes.now in
    below_more (λ m. i + 1 ≤ m → meets lanes i m ≡ false) c.loop-j.j c.loop-j.invariant (λ _. ap not (sym c.disjoint.ensures ∙ c.if-not-disjoint.false))

pub returns : goal.returns
returns c =
    let i = c.args.i in
    let all = first-none (7 - i) (i + 1) (meets c.args.lanes.now i) 8 (omega (arith, c.requires)) (λ m h g. c.loop-j.invariant m (omega (arith, g, c.loop-j-test.false)) h) in
    none-below 8 _ (omega (arith, all))
