-- `writing_items::put_timing` meets its contract. Assumes nothing.
use Rattle.out_items.proofs.Parts.{timing-puts}
use Rattle.out_items.proofs.put_timing.Goals as goal

pub returns : goal.returns
returns c =
    let a = c.args in
    timing-puts a.least a.greatest c.put-k.ensures c.put_four-j.ensures c.put_four.ensures
