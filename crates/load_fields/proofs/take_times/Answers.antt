-- `take_times` meets its contract: the numbers that are read are those of the item. Assumes nothing.
use mathlib.Core.Path.{◌≡◌, sym, subst, ◌∙◌}
use Rattle.rules_plan.specs.Numbers.{fault_told}
use Rattle.rules_plan.specs.Plan.{Item}
use Rattle.memory_plan.specs.Memory.{numbers_with}
use Rattle.memory_plan.specs.Take.{item_fault, taken}
use Rattle.load_fields.proofs.Taking.{times-read}
use Rattle.load_fields.proofs.take_times.Goals as goal

pub returns : goal.returns
returns c = λ size p fair rs ps is z y.
    let content = c.args.content.now in
    subst (λ (x : Item). (fault_told c.times.result ≡ item_fault p x) × (c.times.new.numbers ≡ numbers_with size (taken p x)))
    (times-read content c.two_at.ensures c.four_at.ensures c.four_at-2.ensures c.four_at-3.ensures
    c.four_at-4.ensures c.four_at-5.ensures)
    (c.times.ensures size p fair rs ps is z y)
