-- `sheet` meets its contract: times out of range, routers or a length over the most are refused. Assumes nothing.
use Rattle.std.proofs.Common.{arith}
use Rattle.time_sheet.proofs.Laws.{refused-over, refused-more, terms-are}
use Rattle.time_sheet.proofs.sheet.Goals as goal

pub returns-in-Some : goal.returns-in-Some
returns-in-Some c =
    rw c.terms.ensures (terms-are _ _ _ _ (rw c.from.ensures at c.in-Some.ensures) (omega arith) (omega arith) (omega arith))

pub returns-in_default : goal.returns-in_default
returns-in_default c = refused-more _ _ _ _ (rw c.from.ensures at c.in-Some.ensures) (λ o h l. omega arith)

pub returns-in_default-2 : goal.returns-in_default-2
returns-in_default-2 c = refused-more _ _ _ _ (rw c.from.ensures at c.in-Some.ensures) (λ o h l. omega arith)

pub returns-in_default-3 : goal.returns-in_default-3
returns-in_default-3 c = refused-more _ _ _ _ (rw c.from.ensures at c.in-Some.ensures) (λ o h l. omega arith)

pub returns-in_default-4 : goal.returns-in_default-4
returns-in_default-4 c = refused-over _ _ _ _ (rw c.from.ensures at c.in_default.ensures)
