-- `set_of` meets its contract. Assumes nothing.
use mathlib.Core.Path.{ap, ◌∙◌}
use native.Mathlib.Omega.{arith}
use lib.Seq.{take_all}
use borrow.Author.Rules.{rules}
use Rattle.lists.specs.Search.{any, is_in}
use Rattle.bitsets.specs.Set.{listed}
use Rattle.bitsets.specs.Laws.{member-empty}
use Rattle.bitsets.proofs.Laws.{listed_more}
use Rattle.bitsets.proofs.set_of.Goals as goal

pub loop-t-init : goal.loop-t-init
unfolding any is_in
loop-t-init c = member-empty

pub loop-t-preserved : goal.loop-t-preserved
loop-t-preserved c = listed_more c.args.s.now c.loop-t.t-index c.loop-t.set c.add-set.result (search rules) c.loop-t.invariant c.add-set.ensures

pub returns : goal.returns
returns c =
    let s = c.args.s.now in
    λ k. c.loop-t.invariant k ∙ ap (λ xs. listed xs k) (take_all c.loop-t.t-index s (omega arith))
