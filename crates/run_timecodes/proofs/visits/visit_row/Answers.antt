-- `visit_row` meets its contract. Assumes nothing.
use mathlib.Core.Path.{sym, ◌∙◌}
use native.Mathlib.Omega.{arith}
use Rattle.run_timecodes.proofs.visits.Laws.{visit-live, visit-start, visit-nothing}
use Rattle.run_timecodes.proofs.visits.visit_row.Goals as goal

pub returns-then-has_live : goal.returns-then-has_live
returns-then-has_live c =
    let a = c.args in
    let put = c.put_full.ensures in (
      λ o s small f is e t.
          visit-live a.clock o a.v e s f a.row.now c.live_word-live.result is (sym (c.has_live.ensures o s f is) ∙ c.if-has_live.true) (c.live_word-live.ensures o s f is)
          a.out.now _ a.at _ (λ x. put.0 o x small),
      omega (arith, put.1),
    )

pub returns-in-Some : goal.returns-in-Some
returns-in-Some c =
    let a = c.args in
    let put = c.put_full-in-Some.ensures in (
      λ o s small f is e t.
          let (starts, begins) = c.in-Some.ensures o s f is (sym (c.has_live.ensures o s f is) ∙ c.if-has_live.false) e t in
          (begins, visit-start a.clock o a.v e s f c.in-Some.word starts a.out.now _ a.at _ (λ x. put.0 o x small)),
      omega (arith, put.1),
    )

pub returns-in-None : goal.returns-in-None
returns-in-None c =
    let a = c.args in (
      λ o s small f is e t.
          let free = sym (c.has_live.ensures o s f is) ∙ c.if-has_live.false in
          let (starts, begins) = c.in-None.ensures o s f is free e t in
          (begins, visit-nothing a.clock o a.v e s f starts free a.out.now a.at),
      omega arith,
    )
