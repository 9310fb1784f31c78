-- The arrays of a box that one program owns.
use Rattle.std.specs.Prelude.{ℕ, replicate}
use Rattle.box_calls.specs.declared.memory.PlanMemory.{PlanMemory}
use Rattle.box_calls.specs.declared.memory.BoxMemory.{BoxMemory}
use Rattle.box_calls.specs.Calls.{Memory, memory}

-- the ten arrays
abbrev pub memory_of : BoxMemory → Memory
memory_of m = memory m.plan.sets m.plan.ends m.plan.rows m.plan.reach m.plan.paths m.plan.spans m.plan.aims m.plan.numbers m.run m.last

-- every number 0
abbrev pub plan_zeros : PlanMemory
plan_zeros = record {
  sets = replicate 3 0;
  ends = replicate 128 0;
  rows = replicate 8 0;
  reach = replicate 8 0;
  paths = replicate 2_816 0;
  spans = replicate 512 0;
  aims = replicate 1_152 0;
  numbers = replicate 524 0;
}

abbrev pub box_zeros : BoxMemory
box_zeros = record { plan = plan_zeros; run = replicate 96 0; last = replicate 1 0 }
