-- `no_span` meets its contract. Assumes nothing.
use native.Mathlib.Omega.{arith}
use borrow.Author.Rules.{rules}
use borrow.Author.Tests.{eqb-true}
use Rattle.out_rows.proofs.Eights.{joined-begin, joined-next}
use Rattle.out_rows.proofs.no_span.Goals as goal

pub loop-j-init : goal.loop-j-init
loop-j-init c = joined-begin c.args.spans.now c.args.n

pub loop-j-preserved : goal.loop-j-preserved
loop-j-preserved c = joined-next c.loop-j.invariant (search rules) c.wide.ensures.0 c.wide.ensures.1

pub returns : goal.returns
returns c = λ e s h. c.loop-j.invariant.none (eqb-true c.loop-j.word 0 e) s (omega arith)
