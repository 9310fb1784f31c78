-- `put_decimal` meets its contract. Assumes nothing.
use borrow.Author.Rules.{rules}
use Rattle.lists.specs.laws.Puts.{puts_then}
use Rattle.bytes_put.specs.laws.Decimal.{decimal-small, decimal-more}
use Rattle.bytes_put.proofs.+put_decimal.Goals as goal

pub returns-then-n-lt10 : goal.returns-then-n-lt10
returns-then-n-lt10 t c = rw (decimal-small c.args.n c.if-n-lt10.true) c.put.ensures

pub returns : goal.returns
returns t c = rw (decimal-more c.args.n (search rules) (search rules)) (puts_then c.put_decimal-k.ensures c.put-2.ensures)
