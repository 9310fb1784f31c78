-- `join_row` meets its contract. Assumes nothing.
use Rattle.std.proofs.Common.{arith}
use Rattle.memory_run.specs.laws.RowWords.{count_at}
use Rattle.memory_plan.specs.View.{owner}
use Rattle.run_line.proofs.Rows.{joins}
use Rattle.run_line.proofs.join_row.Goals as goal

pub returns : goal.returns
returns c =
    let x = c.args in
    λ p s f need is.
    let o = owner p x.initiator in
    joins o s f x.row.now is x.target x.kind x.length _ _ (omega (arith, c.requires.1, count_at o s f x.row.now is)) (c.word_of.ensures p need) c.next_number.ensures
