-- Reading the fields of a file into memory: what memory holds on the way, which field may come next, and what came of it.
use Rattle.std.specs.Prelude.{◌≡◌, List, [], ℕ, ◌≤◌, length, Result, IfErr, OnOk}
use Rattle.rules_plan.specs.Plan.{Plan, Item}
use Rattle.rules_plan.specs.Numbers.{fault_number}
use Rattle.rules_plan.specs.Judge.{plan, fault, read_file}
use Rattle.rules_plan.specs.Canon.{given}
use Rattle.rules_plan.specs.laws.Items.{UpTo}
use Rattle.load_fields.specs.declared.FaultAt.{FaultAt}
use Rattle.memory_plan.specs.Memory.{rows_of, reach_of, paths_of, numbers_with, HoldsSized, Holds}
use Rattle.memory_plan.specs.Take.{item_fault, taken}

-- a field with the tag may come after plan p: none of its items has a greater tag, and intervals and times come once
pub record Awaits (p : Plan) (tag : ℕ) : Type 0 where
  pub up_to : UpTo p tag
  pub timings : tag ≡ 5 → p.timings ≡ []
  pub times : tag ≡ 6 → p.times ≡ []

-- the item was judged after plan p with the answer r, and memory is that of the plan with it
pub record Takes (size : ℕ) (p : Plan) (x : Item) (r : ℕ) (sets' ends' rows' reach' paths' spans' aims' numbers' : List ℕ) : Type 0 where
  pub answer : r ≡ item_fault p x
  pub memory : HoldsSized size (taken p x) sets' ends' rows' reach' paths' spans' aims' numbers'

-- the same of a path or a reply, of the arrays that it is kept in
pub record TakesRoute (size : ℕ) (p : Plan) (x : Item) (r : ℕ) (rows' reach' paths' numbers' : List ℕ) : Type 0 where
  pub answer : r ≡ item_fault p x
  pub rows : rows' ≡ rows_of (taken p x)
  pub reach : reach' ≡ reach_of (taken p x)
  pub paths : paths' ≡ paths_of (taken p x)
  pub numbers : numbers' ≡ numbers_with size (taken p x)

-- file s was read with the answer r: its first fault and the offset of that field; or memory has its plan
pub record ReadIn (s : List ℕ) (r : Result (Unit {0}) FaultAt) (sets' ends' rows' reach' paths' spans' aims' numbers' : List ℕ) : Type 0 where
  pub within : IfErr r (λ f. f.at ≤ length s)
  pub faulty : IfErr r (λ f. read_file s ≡ fault (fault_number f.fault) f.at)
  pub whole : OnOk r (read_file s ≡ plan (given s))
  pub memory : OnOk r (Holds (given s) sets' ends' rows' reach' paths' spans' aims' numbers')
