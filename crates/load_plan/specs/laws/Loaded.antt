-- What a load leaves.
use Rattle.std.specs.Prelude.{◌≡◌, ◌≢◌, List, ℕ}
use Rattle.std.proofs.Common.{eq-eqb, ne_eqb}
use Rattle.rules_plan.specs.Plan.{blank}
use Rattle.rules_plan.specs.Verdict.{number}
use Rattle.rules_plan.specs.Judge.{judge}
use Rattle.rules_plan.specs.Canon.{given}
use Rattle.memory_plan.specs.Memory.{Holds}
use Rattle.load_plan.specs.Load.{plan_left}

module _ (s : List ℕ) {c d e f g h i j : List ℕ} where
  pub leaves-plan : number (judge s) ≡ 0 → Holds (given s) c d e f g h i j → Holds (plan_left s) c d e f g h i j
  unfolding plan_left
  leaves-plan z m = rw (eq-eqb (number (judge s)) 0 z) m

  pub leaves_none : number (judge s) ≢ 0 → Holds blank c d e f g h i j → Holds (plan_left s) c d e f g h i j
  unfolding plan_left
  leaves_none z m = rw (ne_eqb (number (judge s)) 0 z) m
