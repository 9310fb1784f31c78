-- `mark_targets` meets its contract: each target is below 64, and so its place one of `aims`. Assumes nothing.
use mathlib.Core.Path.{refl}
use native.Mathlib.Omega.{arith}
use borrow.Author.Rules.{rules}
use Rattle.load_turns.proofs.Targets.{low-target, targets-begin, targets_next}
use Rattle.load_turns.proofs.mark_targets.Goals as goal

pub loop-target-init : goal.loop-target-init
loop-target-init c = let a = c.args in λ _. targets-begin a.row a.slot a.targets.now a.aims.now

pub bounds-aims-at : goal.bounds-aims-at
bounds-aims-at c = omega (arith, low-target _ _ c.requires.1 c.loop-target-test.true, c.requires.0)

pub bounds-aims-at-in-loop-target : goal.bounds-aims-at-in-loop-target
bounds-aims-at-in-loop-target c = omega (arith, low-target _ _ c.requires.1 c.loop-target-test.true, c.requires.0)

pub loop-target-preserved : goal.loop-target-preserved
loop-target-preserved c =
    let a = c.args in
    λ e.
    let m = c.loop-target.invariant e in
    targets_next a.row a.slot a.targets.now a.aims.now c.loop-target.target-index c.loop-target.aims c.loop-target-test.true m _ c.add.result refl
    (omega (arith, m.as_many, e, low-target _ _ c.requires.1 c.loop-target-test.true, c.requires.0)) (search rules) c.add.ensures
