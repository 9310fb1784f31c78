-- `line::print::put_number` meets its contract: a number of sixteen bits has at most five digits. Assumes nothing.
use mathlib.Core.Path.{◌∙◌}
use native.Mathlib.Omega.{arith}
use lib.ListN.{length-set}
use Rattle.lists.specs.laws.Stores.{put_one, put_then}
use Rattle.rules_plan.specs.Print.{spaced}
use Rattle.bytes_put.specs.laws.Decimal.{decimal-length}
use Rattle.out_verdict.proofs.print.put_number.Goals as goal

pub shape_of-out : goal.shape_of-out
shape_of-out c = c.put_decimal.auto.out ∙ simp length-set

pub returns : goal.returns
unfolding spaced
returns c =
    let a = c.args in
    let digits = rw c.from.ensures at c.put_decimal.ensures in
    let n = decimal-length a.n (omega arith) in
    let d = digits.fitting (simp length-set (omega arith)) in
    (put_then (put_one a.out.now a.at 32) d, omega (arith, d.next))
