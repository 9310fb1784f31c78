-- `numbers` while the fixed times of the paths are stored: those of the first k paths, in the order of memory, behind twelve numbers. No reply is
-- there yet, so that each comes home over its path.
use Rattle.std.specs.Prelude.{◌≡◌, List, [], ◌++◌, ℕ, length, take}
use Rattle.rules_plan.specs.Plan.{nth, Times, Plan}
use Rattle.rules_plan.specs.Meaning.{initiators}
use Rattle.memory_plan.specs.Memory.{paths_in_order, costs_among}

pub record Filling (p : Plan) (x : Times) (front : List ℕ) (k : ℕ) (numbers' : List ℕ) : Type 0 where
  pub twelve : length front ≡ 12
  pub rows : nth front 2 ≡ length (initiators p)
  pub paths : nth front 3 ≡ length p.paths
  pub no-replies : p.replies ≡ []
  pub numbers : numbers' ≡ front ++ costs_among p x p.replies (take k (paths_in_order p))
