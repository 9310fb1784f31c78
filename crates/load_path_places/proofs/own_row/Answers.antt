-- `path_places::own_row` meets its contract: the row that is found, or the row that is made.
use mathlib.Core.Path.{◌≡◌, sym, ◌∙◌}
use mathlib.Core.Logic.{◌≢◌}
use native.Mathlib.Omega.{arith}
use Rattle.rules_plan.specs.Plan.{nth}
use Rattle.memory_plan.specs.Rows.{row_among}
use Rattle.load_path_places.specs.laws.OwnRow.{old_row, old-array, made_row, made_array, old-count, new-count}
use Rattle.load_path_places.proofs.own_row.Goals as goal

pub returns-then-row-count : goal.returns-then-row-count
returns-then-row-count c =
    let a = c.args in
    let e = c.requires.0 in
    let d : row_among a.rows.now (nth a.numbers.now 2) a.initiator ≢ nth a.numbers.now 2 = λ f. c.if-row-count.true (e ∙ f) in
    (omega arith, sym (old-count _ _ _ d), λ f g. (e ∙ sym (old_row _ _ _ d), sym (old-array _ _ _ d _ _), sym (old-array _ _ _ d _ _)))

pub returns : goal.returns
returns c =
    let a = c.args in
    let q : a.row ≡ nth a.numbers.now 2 = c.if-row-count.false in
    let e = sym c.requires.0 ∙ q in (
      omega arith,
      sym (new-count _ _ _ e),
      λ f g.
          let m = c.insert_row.ensures.1 f g in
          (made_row _ _ _ e _ _ q m.0, made_array _ _ _ e _ _ q m.0 _ _ _ m.1, made_array _ _ _ e _ _ q m.0 _ _ _ m.2),
    )
