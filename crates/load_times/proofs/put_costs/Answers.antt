-- `put_costs` meets its contract: before each turn the first k paths have their fixed times. Assumes nothing.
use mathlib.Core.Path.{◌≡◌, subst}
use Prim.Native.Nat.{ℕ}
use native.Mathlib.Omega.{arith}
use lib.ListN.{length}
use Rattle.load_times.specs.Filling.{Filling}
use Rattle.load_times.specs.laws.Filled.{paths-counted}
use Rattle.load_times.proofs.put_costs.Goals as goal

pub loop-k-init : goal.loop-k-init
loop-k-init c = λ p front fair rs ps f. f

pub put_cost-requires : goal.put_cost-requires
put_cost-requires c = omega (arith, c.at_most-k-end.ensures)

pub loop-k-preserved : goal.loop-k-preserved
loop-k-preserved c = λ p front fair rs ps f.
    c.put_cost.ensures p front fair rs ps
    (omega (arith, c.at_most-k-end.ensures, paths-counted p _ front c.args.numbers.now 0 f, c.loop-k-test.true))
    (c.loop-k.invariant p front fair rs ps f)

pub returns : goal.returns
returns c = λ p front fair rs ps f.
    let a = c.args in
    let all : c.loop-k.k ≡ length p.paths =
    omega (arith, c.at_most-k-end.ensures, c.loop-k.auto.k-end, c.loop-k-test.false, fair.lists.paths.most, paths-counted p _ front a.numbers.now 0 f) in
    subst (λ (n : ℕ). Filling p a.pace front n c.loop-k.numbers) all (c.loop-k.invariant p front fair rs ps f)
