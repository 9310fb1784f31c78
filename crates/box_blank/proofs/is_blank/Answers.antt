-- `is_blank` meets its contract. Assumes nothing.
use mathlib.Core.Path.{◌≡◌, refl}
use mathlib.Core.Logic.{◌↔◌}
use mathlib.Core.Bool.{true}
use Rattle.rules_plan.specs.Plan.{blank}
use Rattle.memory_plan.specs.Memory as plan
use Rattle.box_calls.specs.laws.Boxes.{holds-cleared}
use Rattle.lists.specs.laws.Answers.{and_asked, and_not_asked, decides}
use Rattle.box_blank.proofs.Blanks.{same-as-zeros}
use Rattle.box_blank.proofs.Zeros.{Zeros}
use Rattle.box_blank.proofs.is_blank.Goals as goal
use Rattle.box_blank.proofs.is_blank.Goals.{then-plan_blank, else-plan_blank}

pub returns-then-run_blank : goal.returns-then-run_blank
returns-then-run_blank c =
    let a = c.args in
    let memory : (c.if-plan_blank.value ≡ true) ↔ (plan.Holds blank a.sets.now a.ends.now a.rows.now a.reach.now a.paths.now a.spans.now a.aims.now a.numbers.now
    × (Zeros 96 a.run.now × Zeros 1 a.last.now)) = elim c.if-plan_blank.branch [
      | then-plan_blank w ↦ and_asked c.plan_blank.ensures w.if-plan_blank.true w.value-is w.run_blank.ensures
      | else-plan_blank w ↦ and_not_asked c.plan_blank.ensures w.if-plan_blank.false w.value-is
    ] in
    decides (and_asked memory c.if-run_blank.true refl (same-as-zeros a.watchdog c.default.result c.eq.ensures c.default.ensures))
    (λ p. (p.1, holds-cleared.1 (p.0.0, p.0.1.0, p.0.1.1))) (λ h. let z = holds-cleared.0 h.1 in ((z.0, (z.1, z.2)), h.0))

pub returns-else-run_blank : goal.returns-else-run_blank
returns-else-run_blank c =
    let a = c.args in
    let memory : (c.if-plan_blank.value ≡ true) ↔ (plan.Holds blank a.sets.now a.ends.now a.rows.now a.reach.now a.paths.now a.spans.now a.aims.now a.numbers.now
    × (Zeros 96 a.run.now × Zeros 1 a.last.now)) = elim c.if-plan_blank.branch [
      | then-plan_blank w ↦ and_asked c.plan_blank.ensures w.if-plan_blank.true w.value-is w.run_blank.ensures
      | else-plan_blank w ↦ and_not_asked c.plan_blank.ensures w.if-plan_blank.false w.value-is
    ] in
    decides (and_not_asked memory c.if-run_blank.false refl)
    (λ p. (p.1, holds-cleared.1 (p.0.0, p.0.1.0, p.0.1.1))) (λ h. let z = holds-cleared.0 h.1 in ((z.0, (z.1, z.2)), h.0))
