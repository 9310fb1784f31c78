-- `replies::texts::put_error` meets its contract. Assumes nothing.
use borrow.Author.Rules.{rules}
use Rattle.rules_plan.specs.Print.{text}
use Rattle.script_answers.proofs.texts.Printed.{error-put}
use Rattle.script_answers.proofs.texts.put_error.Goals as goal

pub returns : goal.returns
unfolding text
returns c =
    let a = c.args in
    error-put a.number (search rules) c.put-a.ensures c.put_decimal-b.ensures c.put.ensures
