-- The calls of the box as their contracts state them, and the memory that comes of them.
use Rattle.std.specs.Prelude.{◌≡◌, ℕ, List, [], ◌∷◌, length}
use Rattle.rules_plan.specs.declared.Verdict.{Verdict}
use Rattle.rules_plan.specs.Judge.{judge}
use Rattle.rules_plan.specs.Good.{Bytes}
use Rattle.memory_plan.specs.Lent.{Array, SharedArray, at_entry, at_exit, at_now}
use Rattle.rules_box.specs.declared.Event.{Event}
use Rattle.rules_box.specs.Answer.{Answer}
use Rattle.rules_box.specs.declared.Watchdog.{Watchdog}
use Rattle.rules_box.specs.State.{Box, cleared, loaded, watchdog_cleared, watchdog_loaded}
use Rattle.rules_box.specs.Step.{step}
use Rattle.memory_run.specs.Memory.{Steps}
use Rattle.box_calls.specs.Box.{Holds}

-- the ten arrays that the caller lends
pub record Memory : Type 0 where
  pub sets : List ℕ
  pub ends : List ℕ
  pub rows : List ℕ
  pub reach : List ℕ
  pub paths : List ℕ
  pub spans : List ℕ
  pub aims : List ℕ
  pub numbers : List ℕ
  pub run : List ℕ
  pub last : List ℕ

-- the arrays as one
abbrev pub memory : (sets' ends' rows' reach' paths' spans' aims' numbers' run' last' : List ℕ) → Memory
memory sets' ends' rows' reach' paths' spans' aims' numbers' run' last' = record {
  sets = sets';
  ends = ends';
  rows = rows';
  reach = reach';
  paths = paths';
  spans = spans';
  aims = aims';
  numbers = numbers';
  run = run';
  last = last';
}

-- memory as a contract names it: what it holds when a function is called, where a function only reads it, and when it returns
abbrev pub lent_in : (sets ends rows reach paths spans aims numbers run last : Array) → Memory
lent_in sets ends rows reach paths spans aims numbers run last = at_entry memory sets ends rows reach paths spans aims numbers run.entry.now last.entry.now

abbrev pub shown_in : (sets ends rows reach paths spans aims numbers run last : SharedArray) → Memory
shown_in sets ends rows reach paths spans aims numbers run last = at_now memory sets ends rows reach paths spans aims numbers run.entry.now last.entry.now

abbrev pub left_in : (sets ends rows reach paths spans aims numbers run last : Array) → Memory
left_in sets ends rows reach paths spans aims numbers run last = at_exit memory sets ends rows reach paths spans aims numbers run.exit.now last.exit.now

-- memory holds the box, every number of it
abbrev pub At : Memory → Box → Type 0
At m b = Holds b m.sets m.ends m.rows m.reach m.paths m.spans m.aims m.numbers m.run m.last

-- what a clear leaves: the contract of `clear`
pub record ClearLeaves (m : Memory) (w : Watchdog) : Type 0 where
  pub holds : At m cleared
  pub five : w ≡ watchdog_cleared

-- what a load answers and leaves: the contract of `load`. What is lent as a file is bytes.
pub record LoadLeaves (file : List ℕ) (v : Verdict) (m : Memory) (w : Watchdog) : Type 0 where
  pub bytes : Bytes file
  pub verdict : v ≡ judge file
  pub holds : At m (loaded file)
  pub five : w ≡ watchdog_loaded file

-- what is lent to an event: memory, the five numbers, the record buffer
pub record Lent : Type 0 where
  pub memory : Memory
  pub five : Watchdog
  pub records : List ℕ

-- memory with other run memory
unfoldable pub with_run : Memory → List ℕ → List ℕ → Memory
with_run m run' last' = memory m.sets m.ends m.rows m.reach m.paths m.spans m.aims m.numbers run' last'

-- the same of all memory: plan memory is lent to be read
pub record StepLeaves (before : Lent) (e : Event) (answer : Answer) (after : Lent) : Type 0 where
  pub plan : after.memory ≡ with_run before.memory after.memory.run after.memory.last
  pub does : Steps before.memory.rows before.memory.spans before.memory.aims before.memory.numbers before.memory.run before.memory.last
      before.five before.records e answer after.memory.run after.memory.last after.five after.records

-- memory that came from a clear, a load or an event, and the box of the definitions after the same calls
pub data Came : Memory → Box → Type 0 where
  by-clear : {m : Memory} {w : Watchdog} → ClearLeaves m w → Came m cleared
  by-load : {m : Memory} {w : Watchdog} {v : Verdict} (file : List ℕ) → LoadLeaves file v m w → Came m (loaded file)
  by-event : {before after : Lent} {answer : Answer} {b : Box} → Came before.memory b → (e : Event) → StepLeaves before e answer after
      → Came after.memory (step (length before.records) b before.five e).box

-- an event that was answered
pub record Done : Type 0 where
  pub before : Lent
  pub event : Event
  pub answer : Answer
  pub after : Lent

-- events one after the other, each on the memory that the one before left; between them the caller may lend other five numbers and
-- another buffer
pub data Follow : Memory → List Done → Type 0 where
  nothing : {m : Memory} → Follow m []
  then : {d : Done} {ds : List Done} → StepLeaves d.before d.event d.answer d.after → Follow d.after.memory ds → Follow d.before.memory (d ∷ ds)
