-- `need_in` meets its contract. Assumes nothing.
use Rattle.memory_run.specs.Run.{need_in}
use borrow.Author.Rules.{rules}
use Rattle.memory_run.proofs.word.need_in.Goals as goal

pub returns : goal.returns
unfolding need_in
returns c = search rules
