-- `mark_span` meets its contract. Assumes nothing.
use native.Mathlib.Omega.{arith}
use borrow.Author.Rules.{rules}
use Rattle.load_turns.proofs.Span.{span-begin, span-next}
use Rattle.load_turns.proofs.mark_span.Goals as goal

pub loop-k-init : goal.loop-k-init
loop-k-init c = let a = c.args in λ _. span-begin a.row a.slot a.aims.now

pub loop-k-preserved : goal.loop-k-preserved
loop-k-preserved c =
    let a = c.args in
    λ e.
    let m = c.loop-k.invariant e in
    span-next a.row a.slot a.aims.now c.loop-k.k c.loop-k.aims m c.add.result (omega (arith, m.as_many, e, c.requires)) (search rules) c.add.ensures
