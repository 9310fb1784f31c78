-- The whole box in memory that the caller lends.
use Rattle.std.specs.Prelude.{ℕ, List}
use Rattle.memory_plan.specs.Memory as plan
use Rattle.rules_box.specs.State.{Box, the_plan}
use Rattle.memory_run.specs.Run.{Runs}

-- the arrays hold the box, every number of it
pub record Holds (b : Box) (sets ends rows reach paths spans aims numbers run last : List ℕ) : Type 0 where
  pub plan : plan.Holds (the_plan b) sets ends rows reach paths spans aims numbers
  pub runs : Runs b run last
