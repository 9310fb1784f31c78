-- `replies::texts::put_row` meets its contract. Assumes nothing.
use borrow.Author.Rules.{rules}
use Rattle.script_answers.proofs.texts.Printed.{row_put}
use Rattle.script_answers.proofs.texts.put_row.Goals as goal

pub returns : goal.returns
returns c =
    row_put c.args.ns.now (search rules) c.requires c.put_numbers-a.ensures c.put.ensures
