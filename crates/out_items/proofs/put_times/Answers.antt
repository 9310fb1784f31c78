-- `put_times` meets its contract: nothing is put without a rate, and with one the seven parts of the field one behind the other. Assumes nothing.
use Rattle.out_items.proofs.Parts.{no-times, times-puts}
use Rattle.out_items.proofs.put_times.Goals as goal

pub returns-then-rate-eq0 : goal.returns-then-rate-eq0
returns-then-rate-eq0 c = let a = c.args in no-times a.numbers.now a.out.now a.at c.if-rate-eq0.true

pub returns : goal.returns
returns c =
    times-puts c.args.numbers.now c.if-rate-eq0.false c.put-k.ensures c.put_two-a.ensures
    c.put_four-d.ensures c.put_four-f.ensures c.put_four-g.ensures c.put_four-slot.ensures c.put_four.ensures
