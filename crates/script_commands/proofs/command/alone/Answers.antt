-- `script::command::alone` meets its contract. Assumes nothing.
use borrow.Author.Rules.{rules}
use Rattle.script_commands.proofs.command.Made.{no_words, some_words}
use Rattle.script_commands.proofs.command.alone.Goals as goal

pub returns-then-end-line : goal.returns-then-end-line
returns-then-end-line c = let a = c.args in some_words a.command a.line.now a.end c.if-end-line.true

pub returns : goal.returns
returns c = let a = c.args in no_words a.command a.line.now a.end (search rules)
