-- Plan memory that came from a clear or a load, as events and questions read it.
use Rattle.std.specs.Prelude.{List, ℕ}
use Rattle.std.proofs.Math.Option.{Option, none, some}
use Rattle.lists.specs.laws.Bools.{none-some, some-some}
use Rattle.rules_plan.specs.Plan.{Plan}
use Rattle.rules_plan.specs.laws.GoodSound.{good-sound}
use Rattle.rules_plan.specs.laws.Runs.{sound-blank}
use Rattle.memory_plan.specs.PlanHeld.{PlanHeld}
use Rattle.memory_plan.specs.View.{Shown}
use Rattle.memory_plan.specs.laws.BlankMemory.{good-greatest}

pub held-shown : (o : Option Plan) (sets ends rows reach paths spans aims numbers : List ℕ) → PlanHeld o sets ends rows reach paths spans aims numbers
    → Shown o rows spans aims numbers
held-shown none sets ends rows reach paths spans aims numbers h = record {
  sound = sound-blank;
  rows = h.rows;
  spans = h.spans;
  aims = h.aims;
  timed = record { numbers = h.numbers; some-interval = λ p e. none-some e };
}
held-shown (some p) sets ends rows reach paths spans aims numbers h = record {
  sound = good-sound p h.good;
  rows = h.holds.rows;
  spans = h.holds.spans;
  aims = h.holds.aims;
  timed = record { numbers = h.holds.numbers; some-interval = λ q e. rw (some-some e) at (good-greatest p h.good) };
}
