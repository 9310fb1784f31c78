-- `target_in` meets its contract. Assumes nothing.
use Rattle.memory_run.specs.Run.{target_in}
use borrow.Author.Rules.{rules}
use Rattle.memory_run.proofs.word.target_in.Goals as goal

pub returns : goal.returns
unfolding target_in
returns c = search rules
