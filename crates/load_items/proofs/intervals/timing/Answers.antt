-- `intervals::timing` meets its contract: intervals out of range leave the numbers as they are, others go into them. Assumes nothing.
use Rattle.load_items.proofs.intervals.Ranges.{timing-out, timing-fits}
use Rattle.load_items.proofs.intervals.Timings.{timing-refused, timing-taken}
use Rattle.load_items.proofs.intervals.timing.Goals as goal

pub returns-then-greatest-eq0 : goal.returns-then-greatest-eq0
returns-then-greatest-eq0 c = let a = c.args in timing-refused a.numbers.now a.least a.greatest (timing-out a.least a.greatest c.then-greatest-eq0.either)

pub returns : goal.returns
returns c =
    let a = c.args in
    timing-taken a.numbers.now a.least a.greatest
    (timing-fits a.least a.greatest c.if-greatest-eq0.false c.if-greatest-gt2147483647.false c.if-greatest-least.false)
