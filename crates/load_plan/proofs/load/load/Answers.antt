-- `plan::load::load` meets its contract: what is refused is cleared again. Assumes nothing.
use mathlib.Core.Path.{◌≡◌, sym, ap, ◌∙◌}
use native.Mathlib.Omega.{arith}
use Rattle.rules_plan.specs.Verdict.{number}
use Rattle.load_plan.specs.laws.Loaded.{leaves-plan, leaves_none}
use Rattle.load_plan.proofs.load.load.Goals as goal

pub returns-then-number_of-ne0 : goal.returns-then-number_of-ne0
returns-then-number_of-ne0 c =
    let j = c.judge_into-verdict.ensures in
    (j.0, leaves_none _ (λ z. c.if-number_of-ne0.true (c.number_of.ensures ∙ ap number j.0 ∙ z)) c.clear-then-number_of-ne0.ensures)

pub returns-else-number_of-ne0 : goal.returns-else-number_of-ne0
returns-else-number_of-ne0 c =
    let j = c.judge_into-verdict.ensures in
    let none : c.number_of.result ≡ 0 = omega (arith, c.if-number_of-ne0.false) in
    let z = sym c.number_of.ensures ∙ none in
    (j.0, leaves-plan _ (sym (ap number j.0) ∙ z) (j.1 z))
