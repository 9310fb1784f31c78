-- `print::put_numbers` meets its contract. Assumes nothing.
use mathlib.Core.List.{flat_map}
use native.Mathlib.Omega.{arith}
use lib.Seq.{take_all}
use borrow.Author.Rules.{rules}
use Rattle.lists.specs.laws.Stores.{put-none, put_then, put-length, flat-more}
use Rattle.rules_plan.specs.Print.{spaced, numbers}
use Rattle.out_verdict.proofs.print.put_numbers.Goals as goal

pub loop-n-init : goal.loop-n-init
unfolding flat_map numbers
loop-n-init c = (search rules, put-none c.args.out.now c.args.at)

pub put_number-k-requires : goal.put_number-k-requires
put_number-k-requires c = omega (arith, put-length c.loop-n.invariant.1)

pub loop-n-preserved : goal.loop-n-preserved
unfolding numbers
loop-n-preserved c =
    (omega (arith, c.put_number-k.ensures.1), rw (flat-more spaced c.args.ns.now c.loop-n.n-index 0 (search rules)) (put_then c.loop-n.invariant.1 c.put_number-k.ensures.0))

pub returns : goal.returns
returns c = (rw (take_all c.loop-n.n-index c.args.ns.now (search rules)) at c.loop-n.invariant.1, omega arith)
