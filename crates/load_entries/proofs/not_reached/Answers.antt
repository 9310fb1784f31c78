-- `not_reached` meets its contract: test by test.
use Rattle.std.proofs.Common.{sym, ◌∙◌}
use mathlib.Core.Bool.{and-false}
use Rattle.bitsets.specs.Laws.{within-listed}
use Rattle.load_entries.proofs.not_reached.Goals as goal
use Rattle.load_entries.proofs.not_reached.Goals.{else-has-via-then-has+else-within, else-has-via-else-has}

pub returns-then-within : goal.returns-then-within
returns-then-within c = λ xs low is.
    let d = sym c.has.ensures ∙ c.if-has.true in
    let e = sym (within-listed xs _ _ low is) ∙ sym c.within.ensures ∙ c.if-within.true in
    rw (d, e)

pub returns-else-has : goal.returns-else-has
returns-else-has c = λ xs low is.
    elim c.else-has.branch [
      | else-has-via-then-has+else-within w ↦ let e = sym (within-listed xs _ _ low is) ∙ sym w.within.ensures ∙ w.if-within.false in rw (e, and-false)
      | else-has-via-else-has w ↦ let d = sym c.has.ensures ∙ w.if-has.false in rw d
    ]
