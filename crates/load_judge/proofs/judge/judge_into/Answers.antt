-- `judge::judge_into` meets its contract: a file is too long, or has a first fault, or is judged as a whole. Assumes nothing.
use mathlib.Core.Path.{sym, ap, ◌∙◌}
use native.Mathlib.Omega.{arith}
use borrow.Author.Rules.{rules}
use Rattle.rules_plan.specs.Verdict.{number}
use Rattle.rules_plan.specs.laws.Verdicts.{too_long, field-faulty}
use Rattle.rules_plan.specs.declared.Verdict.TheVariants.{Faulty}
use Rattle.rules_plan.specs.laws.Numbers.{some-fault}
use Rattle.load_judge.proofs.judge.judge_into.Goals as goal

pub returns-then-file-gt16384 : goal.returns-then-file-gt16384
unfolding number
returns-then-file-gt16384 c = (ap (λ n. Faulty n 0) c.from.ensures ∙ sym (too_long _ c.if-file-gt16384.true), λ z. absurd (omega (arith, z, c.from.ensures)))

pub returns-in-Err : goal.returns-in-Err
unfolding number
returns-in-Err c =
    let first = c.in-Err.first in (
      ap (λ n. Faulty n first.at) c.from-in-Err.ensures ∙ sym (field-faulty _ (search rules) _ _ c.in-Err.ensures.faulty),
      λ z. absurd (some-fault first.fault (sym c.from-in-Err.ensures ∙ z)),
    )

pub judge_whole-requires : goal.judge_whole-requires
judge_whole-requires c =
    let r = c.in_default.ensures in
    let m = r.memory in
    (search rules, r.whole, m.sets, m.rows, m.paths, m.spans, m.aims, m.numbers)

pub returns : goal.returns
returns c = (c.judge_whole.ensures, λ z. c.in_default.ensures.memory)
