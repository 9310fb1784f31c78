-- `late_row` meets its contract. Assumes nothing.
use native.Mathlib.Omega.{arith}
use Rattle.run_timecodes.proofs.late.Laws.{late-puts, late-not}
use Rattle.run_timecodes.proofs.late.late_row.Goals as goal

pub returns-in-Some : goal.returns-in-Some
returns-in-Some c =
    let a = c.args in
    let p = c.put_full.ensures in (
      λ o s small f is.
          let (late, aged) = c.in-Some.ensures o s f is in
          (aged, late-puts a.clock o a.v a.in_sequence s.live f.live c.in-Some.word late a.out.now _ a.at _ (λ x. p.0 o x small)),
      omega (arith, p.1),
    )

pub returns-in-None : goal.returns-in-None
returns-in-None c =
    let a = c.args in (
      λ o s small f is. let (late, aged) = c.in-None.ensures o s f is in (aged, late-not a.clock o a.v a.in_sequence s.live late a.out.now a.at),
      omega arith,
    )
