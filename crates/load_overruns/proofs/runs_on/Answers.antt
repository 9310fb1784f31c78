-- `runs_on` meets its contract. The loop's invariant: no entry stands in the slots passed.
use mathlib.Core.Path.{◌≡◌, sym}
use mathlib.Core.Bool.{false}
use native.Mathlib.Omega.{arith}
use borrow.Author.Count.{below_more}
use Rattle.lists.specs.laws.Sweep.{any_below_lem, none_below}
use Rattle.load_overruns.specs.Overruns.{stands_after}
use Rattle.load_overruns.proofs.Overrun.{stands_after_lem, stands-not, stands-own}
use Rattle.load_overruns.proofs.runs_on.Goals as goal

pub loop-k-init : goal.loop-k-init
loop-k-init c = let s = c.args in λ j l. stands-own s.spans.now s.row s.slot j l

pub returns-then-spans-at-ne0 : goal.returns-then-spans-at-ne0
returns-then-spans-at-ne0 c =
    let s = c.args in
    let k = c.loop-k.k in
    sym (any_below_lem s.span (stands_after s.spans.now s.row s.slot) k c.loop-k-test.true ((stands_after_lem s.spans.now s.row s.slot k).1 (c.loop-k.auto.k, c.if-spans-at-ne0.true)))

pub loop-k-preserved : goal.loop-k-preserved
loop-k-preserved c =
    let s = c.args in
    below_more (λ j. stands_after s.spans.now s.row s.slot j ≡ false) c.loop-k.k c.loop-k.invariant (stands-not s.spans.now s.row s.slot c.loop-k.k c.if-spans-at-ne0.false)

pub returns : goal.returns
returns c =
    let s = c.args in
    sym (none_below s.span (stands_after s.spans.now s.row s.slot) (λ j h. c.loop-k.invariant j (omega (arith, h, c.loop-k-test.false))))
