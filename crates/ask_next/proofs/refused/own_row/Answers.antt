-- `own_row` meets its contract: what the search finds is one of the rows in use, or nobody's. Assumes nothing.
use Rattle.std.proofs.Common.{◌∙◌, refl, sym, arith}
use Rattle.lists.specs.laws.Below.{below-some, below-none}
use Rattle.memory_plan.specs.laws.RowFor.{row_told, none_told, none-behind}
use Rattle.ask_next.proofs.refused.own_row.Goals as goal
use Rattle.ask_next.proofs.refused.own_row.Goals.{in_default-via-in-Some+else-row-numbers, in_default-via-in_default}

pub returns-in-Some-clause-own : goal.returns-in-Some-clause-own
returns-in-Some-clause-own c =
    let a = c.args in
    λ size p ok rs ns.
    row_told p ok size a.rows.now a.numbers.now rs ns a.initiator c.in-Some.row (below-some 8 _ c.in-Some.row c.in-Some.ensures).0 (omega (arith, c.if-row-numbers.true))

pub returns-in_default-clause-none : goal.returns-in_default-clause-none
returns-in_default-clause-none c =
    let a = c.args in
    λ size p ok rs ns.
    elim c.in_default.branch [
      | in_default-via-in-Some+else-row-numbers w ↦
          none_told p ok size a.rows.now a.numbers.now rs ns a.initiator w.in-Some.row (below-some 8 _ w.in-Some.row w.in-Some.ensures).0 (omega (arith, w.if-row-numbers.false))
      | in_default-via-in_default w ↦
          none-behind p ok size a.rows.now a.numbers.now rs ns a.initiator _ refl (below-none 8 _ (sym w.in_default.is ∙ c.first_row.ensures))
    ]
