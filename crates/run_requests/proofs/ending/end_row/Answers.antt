-- `end_row` meets its contract. Assumes nothing.
use mathlib.Core.Path.{sym, ◌∙◌}
use Rattle.run_requests.proofs.ending.Finishes.{nothing-live, another-live, finishes}
use Rattle.run_requests.proofs.ending.end_row.Goals as goal

pub returns-then-not-has_live : goal.returns-then-not-has_live
returns-then-not-has_live c =
    let a = c.args in
    λ i s f is. nothing-live i s a.row.now a.number a.status is (sym (c.has_live.ensures i s f is) ∙ c.if-not-has_live.true)

pub returns-then-live_number-number : goal.returns-then-live_number-number
returns-then-live_number-number c =
    let a = c.args in
    λ i s f is.
    another-live i s a.row.now a.number a.status (sym (c.has_live.ensures i s f is) ∙ c.if-not-has_live.false) is
    (λ z. c.if-live_number-number.true (c.live_number.ensures i s f is ∙ z))

pub returns : goal.returns
returns c =
    let a = c.args in
    let k = c.finish_row in
    λ i s f is.
    finishes i s k.new.row a.number a.status (sym (c.has_live.ensures i s f is) ∙ c.if-not-has_live.false)
    (sym (c.live_number.ensures i s f is) ∙ c.if-live_number-number.false) (k.ensures i s f is) _ _ _
    (c.live_target-target.ensures i s f is) (c.live_length-length.ensures i s f is) c.class_of-class.ensures
