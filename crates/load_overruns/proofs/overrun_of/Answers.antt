-- `overrun_of` meets its contract. The loop's invariant: no entry in the slots passed runs on.
use mathlib.Core.Path.{refl, sym, ◌∙◌}
use native.Mathlib.Omega.{arith}
use Rattle.lists.specs.laws.Sweep.{first-here, first-none}
use Rattle.load_overruns.specs.Overruns.{runs_at}
use Rattle.lists.specs.laws.Below.{some-below, none-below}
use Rattle.load_overruns.proofs.overrun_of.Goals as goal

pub returns-then-runs_on : goal.returns-then-runs_on
returns-then-runs_on c =
    let s = c.args in
    let slot = c.loop-slot.slot in
    let low = c.loop-slot-test.true in
    some-below 64 _ slot (first-here 64 0 (runs_at s.spans.now s.row) slot (omega arith) (omega arith) (sym c.runs_on.ensures ∙ c.if-runs_on.true) (λ v _ h. c.loop-slot.invariant v h)) low

pub returns : goal.returns
returns c =
    let s = c.args in
    let all = first-none 64 0 (runs_at s.spans.now s.row) 64 refl (λ v _ h. c.loop-slot.invariant v (omega (arith, h, c.loop-slot-test.false))) in
    none-below 64 _ (omega (arith, all))
