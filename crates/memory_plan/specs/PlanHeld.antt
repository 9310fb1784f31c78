-- Plan memory that came from a clear or a load: it holds no plan, or a good one in canonical order.
use Rattle.std.specs.Prelude.{◌≡◌, List, ℕ}
use Rattle.std.proofs.Math.Option.{Option, none, some}
use Rattle.rules_plan.specs.Plan.{Plan, blank}
use Rattle.rules_plan.specs.Canon.{canonical}
use Rattle.rules_plan.specs.Good.{Good}
use Rattle.memory_plan.specs.Memory.{Holds}

pub record HoldsPlan (p : Plan) (sets ends rows reach paths spans aims numbers : List ℕ) : Type 0 where
  pub good : Good p
  pub ordered : canonical p ≡ p
  pub holds : Holds p sets ends rows reach paths spans aims numbers

abbrev pub PlanHeld : Option Plan → (sets ends rows reach paths spans aims numbers : List ℕ) → Type 0
PlanHeld none = Holds blank
PlanHeld (some p) = HoldsPlan p
