-- `times` meets its contract: times out of range leave the numbers as they are, others go into them with the fixed time of every path.
-- Assumes nothing.
use native.Mathlib.Nat.{mul-le-mul}
use native.Mathlib.Omega.{arith}
use Rattle.rules_plan.specs.laws.Sheets.{times-range}
use Rattle.time_sheet.specs.laws.Pace.{none-over, some-within, some-is}
use Rattle.load_times.specs.laws.Kept.{rate-over, slot-over, in-range, front, begins, ends, refused, kept}
use Rattle.load_times.proofs.times.Goals as goal

pub returns-in_default : goal.returns-in_default
returns-in_default c = λ size p fair rs ps is z y.
    let a = c.args in
    let g = a.given in
    refused a.rate g.a g.d g.f g.g a.slot a.numbers.now (rate-over a.rate g.a g.d g.f g.g a.slot (none-over _ c.in_default.ensures)) size p is

pub returns-then-slot-gt-MOST_TIME : goal.returns-then-slot-gt-MOST_TIME
returns-then-slot-gt-MOST_TIME c = λ size p fair rs ps is z y.
    let a = c.args in
    let g = a.given in
    refused a.rate g.a g.d g.f g.g a.slot a.numbers.now (slot-over a.rate g.a g.d g.f g.g a.slot c.if-slot-gt-MOST_TIME.true) size p is

pub overflow_mul-numbers : goal.overflow_mul-numbers
overflow_mul-numbers c =
    let r = times-range _ (some-within _ _ c.in-Some.ensures) in
    omega (arith, mul-le-mul r.rate c.if-slot-gt-MOST_TIME.false)

pub returns : goal.returns
returns c = λ size p fair rs ps is z y.
    let a = c.args in
    let g = a.given in
    let fill = rw (some-is _ _ c.in-Some.ensures) at c.put_costs.ensures p (front a.rate g.a g.d g.f g.g a.slot size p fair z y) fair rs ps in
    kept a.rate g.a g.d g.f g.g a.slot _
    (in-range a.rate g.a g.d g.f g.g a.slot (some-within _ _ c.in-Some.ensures) c.if-slot-gt-MOST_TIME.false) size p
    (ends a.rate g.a g.d g.f g.g a.slot size p fair z y _ (fill (begins a.rate g.a g.d g.f g.g a.slot size p fair z y a.numbers.now is)))
