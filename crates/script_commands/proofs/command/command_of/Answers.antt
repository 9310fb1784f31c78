-- `script::command::command_of` meets its contract. Assumes nothing.
use mathlib.Core.Path.{◌∙◌}
use native.Mathlib.Omega.{arith}
use borrow.Author.Rules.{rules}
use Rattle.script_commands.proofs.command.Names.{empty-line, remark, some-command, or-bad}
use Rattle.script_commands.proofs.command.command_of.Goals as goal

pub returns-in-empty : goal.returns-in-empty
returns-in-empty c = empty-line c.args.line.now (omega (arith, c.in-empty.len_below))

pub returns-in-empty-2 : goal.returns-in-empty-2
returns-in-empty-2 c = remark c.args.line.now (omega (arith, c.in-empty.len_at_least)) (search rules)

pub returns-in_default : goal.returns-in_default
returns-in_default c =
    c.unwrap_or.ensures ∙ or-bad c.named.result ∙ c.named.ensures
    ∙ some-command c.args.line.now c.word_length.result (omega (arith, c.in_default.len_at_least)) (λ e. absurd (search rules)) c.word_length.ensures
