-- The memory that an event finds, and what it leaves there.
use Rattle.std.specs.Prelude.{◌≡◌, ℕ, List, length}
use Rattle.memory_plan.specs.View.{Shown}
use Rattle.rules_box.specs.declared.Event.{Event}
use Rattle.rules_box.specs.Answer.{Answer}
use Rattle.rules_box.specs.declared.Watchdog.{Watchdog}
use Rattle.rules_box.specs.State.{Box}
use Rattle.rules_box.specs.Records.{recorded}
use Rattle.rules_box.specs.Step.{Outcome, step, clock_of}
use Rattle.rules_box.specs.laws.Fit.{Fit}
use Rattle.memory_run.specs.Run.{Runs}

-- memory holds the box
pub record Finds (b : Box) (rows spans aims numbers run last : List ℕ) : Type 0 where
  pub fit : Fit b
  pub plan : Shown b.plan rows spans aims numbers
  pub runs : Runs b run last

-- the answer is the outcome's, and run memory holds the outcome's box
pub record Answers (o : Outcome) (answer' : Answer) (run last : List ℕ) : Type 0 where
  pub answer : answer' ≡ o.answer
  pub runs : Runs o.box run last

-- the same, with the five numbers and the records
pub record Does (o : Outcome) (clock : ℕ) (answer' : Answer) (watchdog' : Watchdog) (run last before after : List ℕ) : Type 0 where
  pub answers : Answers o answer' run last
  pub watchdog : watchdog' ≡ o.watchdog
  pub records : after ≡ recorded clock o.records before

-- what an event answers and leaves, in what is lent to it: the contract of `run_events::step`
abbrev pub Steps : (rows spans aims numbers run last : List ℕ) → Watchdog → List ℕ → Event → Answer → (run' last' : List ℕ) → Watchdog → List ℕ → Type 0
Steps rows spans aims numbers run last w records e answer run' last' w' records' =
    (b : Box) → Finds b rows spans aims numbers run last → Does (step (length records) b w e) (clock_of e) answer w' run' last' records records'
