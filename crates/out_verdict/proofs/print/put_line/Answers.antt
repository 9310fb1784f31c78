-- `line::print::put_line` meets its contract: three runs of bytes, one after another. Assumes nothing.
use borrow.Author.Rules.{rules}
use Rattle.lists.specs.laws.Stores.{put_then}
use Rattle.out_verdict.proofs.print.put_line.Goals as goal

pub returns : goal.returns
returns c =
    (put_then (put_then c.put_bytes-a.ensures c.put_numbers-b.ensures.0) c.put_bytes.ensures, search rules)
