-- `visit_all` meets its contract. The loop's invariant: the initiators of the rows before this one are done, with at most a record for each. Assumes nothing.
use mathlib.Core.Path.{refl}
use Prim.Native.Nat.{◌+◌, ◌*◌, ◌-◌}
use native.Mathlib.Omega.{arith}
use Rattle.run_records.specs.laws.Sweeps.{swept-begin}
use Rattle.run_timecodes.proofs.visits.Sweep.{new_side, new_records, visit-one, visit-no-one, visit-done}
use borrow.Author.Rules.{rules}
use Rattle.run_timecodes.proofs.visits.visit_all.Goals as goal
use Rattle.run_timecodes.proofs.visits.visit_all.Goals.{then-span-ne0, else-span-ne0}

pub loop-row-init : goal.loop-row-init
loop-row-init c =
    let a = c.args in
    (c.requires.0, (refl, omega arith, λ x es ea. swept-begin a.clock x (new_side x a.v) (new_records x a.v) a.out.now a.at))

pub loop-row-preserved : goal.loop-row-preserved
loop-row-preserved c =
    let s = c.span_at-span in
    let a = c.args in
    let size = c.loop-row.row * 12 + 12 - c.loop-row.row * 12 in (
      elim c.if-span-ne0.branch [ then-span-ne0 w ↦ rw w.run-is (search rules) | else-span-ne0 w ↦ rw w.run-is c.loop-row.invariant.0 ],
      elim c.if-span-ne0.branch [
        | then-span-ne0 w ↦
            visit-one a.clock a.v c.loop-row.invariant.1 s.result s.ensures w.if-span-ne0.true w.targets_at-targets.result w.targets_at-targets.ensures size (omega arith) (omega arith)
            w.visit_row-k.new.row w.visit_row-k.new.out w.visit_row-k.result w.visit_row-k.ensures.0 w.visit_row-k.auto.out w.visit_row-k.ensures.1 c.if-span-ne0.run c.if-span-ne0.out c.if-span-ne0.k w.run-is w.out-is w.k-is
        | else-span-ne0 w ↦
            visit-no-one a.clock a.v c.loop-row.invariant.1 s.result s.ensures w.if-span-ne0.false c.if-span-ne0.run c.if-span-ne0.out c.if-span-ne0.k w.run-is w.out-is w.k-is
      ],
    )

pub returns : goal.returns
returns c =
    let a = c.args in
    visit-done a.clock a.v c.loop-row.invariant.1 (search rules)
