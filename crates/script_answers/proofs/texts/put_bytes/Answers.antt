-- `replies::texts::put_bytes` meets its contract. Assumes nothing.
use borrow.Author.Rules.{rules}
use Rattle.rules_plan.specs.Print.{text}
use Rattle.script_answers.proofs.texts.Printed.{bytes-put}
use Rattle.script_answers.proofs.texts.put_bytes.Goals as goal

pub returns : goal.returns
unfolding text
returns c =
    bytes-put c.args.ns.now c.args.bytes.now (search rules) c.requires c.put_numbers-a.ensures c.put-b.ensures c.put_hex-c.ensures c.put.ensures
