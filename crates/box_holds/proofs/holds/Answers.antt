-- `holds` meets its contract: memory tells plans apart. Assumes nothing.
use Rattle.lists.specs.laws.Bools.{not-both}
use Rattle.box_holds.proofs.Rereads.{refused, reread}
use Rattle.box_holds.proofs.holds.Goals as goal

pub returns-then-is_loaded-clause-answer : goal.returns-then-is_loaded-clause-answer
returns-then-is_loaded-clause-answer c = reread _ c.load.ensures.1 c.same_plan.ensures (c.is_loaded.ensures.numbers_value.1 c.if-is_loaded.true)

pub returns-else-is_loaded-clause-answer : goal.returns-else-is_loaded-clause-answer
returns-else-is_loaded-clause-answer c = (
  λ t. not-both t c.if-is_loaded.false,
  λ q. absurd (refused _ c.load.ensures.1 (c.is_loaded.ensures.numbers_value.0 c.if-is_loaded.false) q.0),
)
