-- What each export answers and leaves: its contract. A name with ' is what an array holds afterwards; what has none is what it held
-- before, or what is lent only to be read.
use Rattle.std.specs.Prelude.{◌≡◌, ◌↔◌, Bool, true, false, ℕ, ◌≤◌, List, ◌++◌, length, drop}
use Rattle.rules_plan.specs.Copy.{Copied}
use Rattle.rules_plan.specs.Plan.{nth}
use Rattle.rules_plan.specs.Sheet.{sheet_answer, sheet_numbers}
use Rattle.rules_plan.specs.Next.{Next, next_numbers}
use Rattle.rules_plan.specs.Judge.{judge}
use Rattle.rules_plan.specs.Print as print
use Rattle.memory_plan.specs.Memory as plan
use Rattle.out_plan.specs.Out.{WritesOut}
use Rattle.ask_next.specs.Asked.{TellsNext}
use Rattle.load_plan.specs.Load.{plan_left, HoldsPlanOf}
use Rattle.rules_box.specs.declared.Event.TheVariants.{TimeCode, Request, Reply, Reading}
use Rattle.rules_box.specs.Answer.{Answer, values}
use Rattle.rules_box.specs.declared.Watchdog.{Watchdog}
use Rattle.rules_box.specs.State.{cleared, watchdog_cleared}
use Rattle.run_events.specs.Values.{listed}
use Rattle.box_calls.specs.Calls.{Memory, At, LoadLeaves}
use Rattle.memory_run.specs.Memory.{Steps}
use Rattle.time_sheet.specs.Paced.{paced}
use Rattle.c_numbers.specs.Numbers.{verdict_numbers, verdict_of, sized_numbers}

-- `spwd_c_version`: one more with each change of what is lent, of the numbers that calls take and give back, or of the bytes of a plan file
-- or a record. `c/spwd.h` and `rust/spwd` name the version that they are written for.
abbrev pub interface_version : ℕ
interface_version = 5

-- `spwd_c_load`
pub record Loads (file : List ℕ) (m' : Memory) (w' : Watchdog) (verdict' : List ℕ) : Type 0 where
  pub leaves : LoadLeaves file (judge file) m' w'
  pub verdict : verdict' ≡ verdict_numbers (judge file)

-- document 01's eight numbers of an answer; which one, `Steps` says where memory holds a box
pub record EventAnswered (answer' : List ℕ) (Does : Answer → Type 0) : Type 0 where
  pub answer : Answer
  pub numbers : answer' ≡ listed (values answer)
  pub does : Does answer

-- `spwd_c_time_code`. It is lent no rows: run memory has the initiators of what it tells.
pub record TimeCodes (spans aims numbers run last : List ℕ) (w : Watchdog) (byte clock : ℕ) (records run' last' : List ℕ) (w' : Watchdog) (records' answer' : List ℕ) : Type 0 where
  pub steps : EventAnswered answer' λ a.
      (rows : List ℕ) → Steps rows spans aims numbers run last w records (TimeCode byte clock) a run' last' w' records'

-- `spwd_c_request`. It is lent no spans, no last time-code, no five numbers and no record buffer: it is the step with any of these, and they stay.
pub record Requests (rows aims numbers run : List ℕ) (initiator target kind size : ℕ) (run' answer' : List ℕ) : Type 0 where
  pub steps : EventAnswered answer' λ a.
      (spans last : List ℕ) (w : Watchdog) (records : List ℕ) → Steps rows spans aims numbers run last w records (Request initiator target kind size) a run' last w records

-- `spwd_c_reply`. The same, and it is not lent the entries either.
pub record Replies (rows numbers run : List ℕ) (initiator transaction status : ℕ) (run' answer' : List ℕ) : Type 0 where
  pub steps : EventAnswered answer' λ a.
      (spans aims last : List ℕ) (w : Watchdog) (records : List ℕ) → Steps rows spans aims numbers run last w records (Reply initiator transaction status) a run' last w records

-- `spwd_c_reading`. It is lent only whether there is a plan, and the five numbers.
pub record Readings (numbers : List ℕ) (w : Watchdog) (clock : ℕ) (w' : Watchdog) (answer' : List ℕ) : Type 0 where
  pub steps : EventAnswered answer' λ a.
      (rows spans aims run last records : List ℕ) → Steps rows spans aims numbers run last w records (Reading clock) a run last w' records

-- `spwd_c_write_out`: document 01's two numbers of the answer of writing out
pub record OutWritten (sets ends rows paths spans aims numbers out out' answer' : List ℕ) : Type 0 where
  pub answer : Copied
  pub listed-as : answer' ≡ sized_numbers answer
  pub does : WritesOut sets ends rows paths spans aims numbers out answer out'

-- `spwd_c_print`: the line of the verdict of these numbers; those of a verdict on a file are of no other verdict
pub record Prints (verdict line line' : List ℕ) (r : ℕ) : Type 0 where
  pub size : r ≡ length (print.line (verdict_of verdict))
  pub bytes : line' ≡ print.line (verdict_of verdict) ++ drop (length (print.line (verdict_of verdict))) line
  pub judged : (file : List ℕ) → verdict ≡ verdict_numbers (judge file) → verdict_of verdict ≡ judge file

-- `spwd_c_is_blank`: 1 where every number of the box is that of a clear, 0 where one is not
pub record IsBlank (m : Memory) (w : Watchdog) (r : ℕ) : Type 0 where
  pub most : r ≤ 1
  pub says : (r ≡ 1) ↔ ((w ≡ watchdog_cleared) × At m cleared)

-- `spwd_c_holds`: 1 where the file is accepted and memory is that of its plan, every number of it, else 0. The memory beside the box's has
-- the file's plan afterwards.
pub record HoldsIt (file : List ℕ) (r : ℕ) (sets ends rows reach paths spans aims numbers sets' ends' rows' reach' paths' spans' aims' numbers' : List ℕ) : Type 0 where
  pub most : r ≤ 1
  pub says : (r ≡ 1) ↔ HoldsPlanOf file sets ends rows reach paths spans aims numbers
  pub beside : plan.Holds (plan_left file) sets' ends' rows' reach' paths' spans' aims' numbers'

-- `spwd_c_sheet`: the seven numbers of the sheet over so many routers there and back, at a rate and with the latencies a, d, f and g. It is lent no
-- box.
pub record SheetTold (out home rate size : ℕ) (latencies answer' : List ℕ) : Type 0 where
  pub numbers : answer' ≡ sheet_numbers (sheet_answer (paced rate (nth latencies 0) (nth latencies 1) (nth latencies 2) (nth latencies 3)) out home size)

-- `spwd_c_next`: the two numbers of the answer to the question for the next turn. It is lent the rows, the summary and the numbers of a plan.
pub record NextTold (rows aims numbers : List ℕ) (initiator target size slot : ℕ) (answer' : List ℕ) : Type 0 where
  pub answer : Next
  pub listed-as : answer' ≡ next_numbers answer
  pub tells : TellsNext rows aims numbers initiator target size slot answer
