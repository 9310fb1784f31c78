-- `age_row` meets its contract: nothing is live, or what is live is late, or it is not. Assumes nothing.
use mathlib.Core.Path.{refl}
use native.Mathlib.Omega.{arith}
use Rattle.run_turns.proofs.Ages.{ages-none, ages-late, ages-young}
use Rattle.run_turns.proofs.age_row.Goals as goal

pub returns-then-time-eq0 : goal.returns-then-time-eq0
returns-then-time-eq0 c = let a = c.args in λ i s f is. ages-none i s f a.row.now is a.in_sequence c.if-time-eq0.true

pub returns-then-is_late : goal.returns-then-is_late
returns-then-is_late c =
    let m = c.finish_row in
    let l = c.is_late in
    let a = c.args in
    λ i s f is. ages-late i s f a.row.now is a.in_sequence l.result c.if-time-eq0.false l.ensures.value c.if-is_late.true m.new.row (m.ensures i s f is)

pub overflow_sub-row : goal.overflow_sub-row
overflow_sub-row c = omega (arith, c.is_late.ensures.le_time c.if-is_late.false)

pub returns : goal.returns
returns c =
    let l = c.is_late in
    let a = c.args in
    λ i s f is. ages-young i s f a.row.now is a.in_sequence l.result c.if-time-eq0.false l.ensures.value c.if-is_late.false _ refl
