-- `put_costs` meets its contract: before each turn the first k paths have their fixed times. Assumes nothing.
use mathlib.Core.Path.{◌≡◌}
use mathlib.Core.List.{List}
use Prim.Native.Nat.{ℕ}
use Rattle.rules_plan.specs.Plan.{Plan}
use Rattle.rules_plan.specs.laws.Fair.{Fair}
use Rattle.memory_plan.specs.Memory.{rows_of, paths_of}
use Rattle.load_times.specs.Filling.{Filling}
use Rattle.load_times.proofs.put_costs.Given as goal

abbrev pub invariant-loop-k : goal.invariant-loop-k
invariant-loop-k l =
    (p : Plan) (front : List ℕ) → Fair p → l.rows ≡ rows_of p → l.paths ≡ paths_of p → Filling p l.pace front 0 l.initial.numbers → Filling p l.pace front l.k l.numbers
