-- `is_loaded` meets its contract: the greatest interval of a plan is not 0. Assumes nothing.
use borrow.Author.Tests.{eqb-true, eqb-false, not-true, not-false}
use Rattle.rules_plan.specs.Plan.{nth}
use Rattle.memory_plan.proofs.interval.Laws.{loaded-told}
use Rattle.memory_plan.proofs.interval.is_loaded.Goals as goal

pub returns : goal.returns
returns c =
    let numbers = c.args.numbers.now in
    let greatest = nth numbers 1 in
    record {
      value = λ o t. loaded-told o numbers t;
      numbers_value = (λ h. eqb-true greatest 0 (not-false _ h), λ h. eqb-false greatest 0 (not-true _ h));
    }
