-- What a load leaves: the plan of an accepted file, and of any other file none.
use Rattle.std.specs.Prelude.{◌≡◌, ℕ, List, cond, eqb}
use Rattle.rules_plan.specs.Plan.{Plan, blank}
use Rattle.rules_plan.specs.Verdict.{number}
use Rattle.rules_plan.specs.Judge.{judge}
use Rattle.rules_plan.specs.Canon.{given, plan_of}
use Rattle.memory_plan.specs.Memory.{Holds}

-- in the file's order, as memory is filled
unfoldable pub plan_left : List ℕ → Plan
plan_left s = cond (eqb (number (judge s)) 0) (given s) blank

-- the file is accepted, and memory is that of its plan, every number of it
abbrev pub HoldsPlanOf : (file sets ends rows reach paths spans aims numbers : List ℕ) → Type 0
HoldsPlanOf file sets ends rows reach paths spans aims numbers = (number (judge file) ≡ 0) × Holds (plan_of file) sets ends rows reach paths spans aims numbers
