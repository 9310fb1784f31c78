-- `replies::texts::put_word` meets its contract. Assumes nothing.
use borrow.Author.Rules.{rules}
use Rattle.script_answers.proofs.texts.Printed.{word-put}
use Rattle.script_answers.proofs.texts.put_word.Goals as goal

pub returns : goal.returns
returns c =
    word-put c.args.word.now (search rules) c.requires c.put-a.ensures c.put.ensures
