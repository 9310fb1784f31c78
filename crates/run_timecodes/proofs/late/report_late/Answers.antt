-- `report_late` meets its contract. The loop's invariant: the initiators of the rows before this one are done, with at most a record for each. Assumes nothing.
use mathlib.Core.Path.{refl}
use Prim.Native.Nat.{◌+◌, ◌*◌, ◌-◌}
use native.Mathlib.Omega.{arith}
use Rattle.rules_box.specs.Turn.{aged}
use Rattle.rules_box.specs.Records.{late_record}
use Rattle.run_records.specs.laws.Sweeps.{swept-begin}
use Rattle.run_timecodes.proofs.late.Sweep.{late-next, late-done}
use borrow.Author.Rules.{rules}
use Rattle.run_timecodes.proofs.late.report_late.Goals as goal

pub loop-row-init : goal.loop-row-init
loop-row-init c =
    let a = c.args in
    (c.requires.0, refl, omega arith, λ x. swept-begin a.clock x (λ n. aged a.in_sequence (x.side n)) (λ n. late_record a.in_sequence n a.v (x.side n).live) a.out.now a.at)

pub loop-row-preserved : goal.loop-row-preserved
loop-row-preserved c =
    let m = c.late_row-k in
    let a = c.args in
    let size = c.loop-row.row * 12 + 12 - c.loop-row.row * 12 in (
      search rules,
      search rules,
      search rules,
      late-next a.clock a.v a.in_sequence c.loop-row.invariant.3 size (omega arith) (omega arith) m.new.row m.new.out m.result m.ensures.0,
    )

pub returns : goal.returns
returns c =
    let a = c.args in
    (late-done a.clock a.v a.in_sequence c.loop-row.invariant.3 (search rules), search rules)
