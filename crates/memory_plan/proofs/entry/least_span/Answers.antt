-- `least_span` meets its contract. Assumes nothing.
use mathlib.Core.Path.{◌∙◌}
use Rattle.memory_plan.proofs.entry.Laws.{words-untimed, words_long, words-no-path, words-timed}
use Rattle.memory_plan.proofs.entry.least_span.Goals as goal

pub returns-then-length-gt4096 : goal.returns-then-length-gt4096
returns-then-length-gt4096 c = let a = c.args in words_long a.numbers.now a.row a.target a.length c.if-length-gt4096.true

pub returns-then-numbers-eq0 : goal.returns-then-numbers-eq0
returns-then-numbers-eq0 c =
    let a = c.args in
    c.least_by_length.ensures ∙ words-untimed a.numbers.now a.row a.target a.length c.if-numbers-eq0.true

pub returns-then-cost-eq0 : goal.returns-then-cost-eq0
returns-then-cost-eq0 c =
    let a = c.args in
    words-no-path a.numbers.now a.row a.target a.length c.if-numbers-eq0.false c.if-cost-eq0.true

pub returns : goal.returns
returns c =
    let a = c.args in
    c.least_slots.ensures ∙ rw c.need_of.ensures
    (words-timed a.numbers.now a.row a.target a.length c.if-numbers-eq0.false c.if-length-gt4096.false c.if-cost-eq0.false)
