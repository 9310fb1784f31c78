-- One line of a script answered: what it prints, and the box and the five numbers after it, command by command of REPLAY.md's table.
use Rattle.std.specs.Prelude.{◌≡◌, List, [], Bool, true, ◌↔◌, ℕ, drop, replicate}
use Rattle.std.proofs.Math.Option.{Option, some}
use Rattle.rules_plan.specs.Plan.{Plan}
use Rattle.rules_plan.specs.Judge.{judge}
use Rattle.rules_plan.specs.Print.{text}
use Rattle.rules_plan.specs.Print as print
use Rattle.rules_plan.specs.Copy.{sized, copy_answer, copied}
use Rattle.rules_plan.specs.Sheet.{sheet_answer}
use Rattle.rules_plan.specs.Next.{next_answer}
use Rattle.time_sheet.specs.Paced.{paced}
use Rattle.memory_plan.specs.PlanHeld.{PlanHeld}
use Rattle.load_plan.specs.Load.{HoldsPlanOf}
use Rattle.rules_box.specs.declared.Event.{Event}
use Rattle.rules_box.specs.declared.Event.TheVariants as event
use Rattle.rules_box.specs.Answer.{Answer, values}
use Rattle.rules_box.specs.declared.Watchdog as five
use Rattle.box_calls.specs.Calls.{Memory, ClearLeaves, LoadLeaves, StepLeaves}
use Rattle.script_hex.specs.Hex.{bytes_of}
use Rattle.script_commands.specs.declared.command.Command.{Command}
use Rattle.script_commands.specs.declared.command.Command.TheVariants.{Skip, Bad, Load, Clear, TimeCode, Request, Reply, Reading, Out, Watchdog, SetWatchdog, Sheet, Next, Blank, Holds}
use Rattle.script_answers.specs.Texts.{ended, error_line, event_line, out_line, watchdog_line, sheet_line, next_line, flag_line, Prints}

-- what is kept between commands: "The program keeps the five numbers between commands, as a box's caller does."
pub record Kept : Type 0 where
  pub memory : Memory
  pub five : five.Watchdog

abbrev pub kept : Memory → five.Watchdog → Kept
kept m w = record { memory = m; five = w }

-- "a caller may lend any five numbers": they are kept as given
abbrev pub five_of : ℕ → ℕ → ℕ → ℕ → ℕ → five.Watchdog
five_of last seen reported least greatest = record { last = last; seen = seen; reported = reported; least = least; greatest = greatest }

-- the load of a file
pub record Loaded (file : List ℕ) (after : Kept) (printed : List ℕ) : Type 0 where
  pub leaves : LoadLeaves file (judge file) after.memory after.five
  pub prints : printed ≡ print.line (judge file)

-- an event, with a record buffer that is lent
pub record Stepped (e : Event) (lent : List ℕ) (before after : Kept) (printed : List ℕ) : Type 0 where
  pub answer : Answer
  pub records : List ℕ
  pub leaves : StepLeaves (record { memory = before.memory; five = before.five; records = lent }) e answer
      (record { memory = after.memory; five = after.five; records = records })
  pub prints : printed ≡ event_line e (values answer) records

-- memory holds a plan, or none, as a clear or a load leaves it
abbrev pub HeldIn : Memory → Option Plan → Type 0
HeldIn m o = PlanHeld o m.sets m.ends m.rows m.reach m.paths m.spans m.aims m.numbers

-- writing out, into a buffer of some room that is all 0
abbrev pub WrittenOut : ℕ → Memory → List ℕ → Type 0
WrittenOut room m printed = (o : Option Plan) → HeldIn m o → printed ≡ out_line (sized (copy_answer room o)) (copied o (replicate room 0))

-- the question for the next turn
abbrev pub NextAsked : (i t n s : ℕ) → Memory → List ℕ → Type 0
NextAsked i t n s m printed = (o : Option Plan) → HeldIn m o → printed ≡ next_line (next_answer o i t n s)

-- a question of yes or no: 1 exactly where it is so
pub record Says (Fact : Type 0) (printed : List ℕ) : Type 0 where
  pub flag : Bool
  pub exactly : (flag ≡ true) ↔ Fact
  pub prints : printed ≡ flag_line flag

-- memory is that of a file's plan
abbrev pub HasPlanOf : List ℕ → Memory → Type 0
HasPlanOf file m = HoldsPlanOf file m.sets m.ends m.rows m.reach m.paths m.spans m.aims m.numbers

-- "A line that is none of these … prints `ERROR line N` … and changes nothing."
unfoldable pub Replied : Command → List ℕ → ℕ → Kept → Kept → List ℕ → Type 0
Replied Skip line n before after printed = (after ≡ before) × (printed ≡ [])
Replied Bad line n before after printed = (after ≡ before) × (printed ≡ error_line n)
Replied (Load at) line n before after printed = (file : List ℕ) × (bytes_of (drop at line) ≡ some file) × Loaded file after printed
Replied Clear line n before after printed = ClearLeaves after.memory after.five × (printed ≡ ended (text "CLEARED"))
Replied (TimeCode byte clock room) line n before after printed = Stepped (event.TimeCode byte clock) (replicate room 0) before after printed
Replied (Request i t k size) line n before after printed = Stepped (event.Request i t k size) [] before after printed
Replied (Reply i m status) line n before after printed = Stepped (event.Reply i m status) [] before after printed
Replied (Reading clock) line n before after printed = Stepped (event.Reading clock) [] before after printed
Replied (Out room) line n before after printed = (after ≡ before) × WrittenOut room before.memory printed
Replied Watchdog line n before after printed = (after ≡ before) × (printed ≡ watchdog_line before.five)
Replied (SetWatchdog last seen reported least greatest) line n before after printed =
    (after ≡ kept before.memory (five_of last seen reported least greatest)) × (printed ≡ ended (text "OK"))
Replied (Sheet there home s size a d f g) line n before after printed = (after ≡ before) × (printed ≡ sheet_line (sheet_answer (paced s a d f g) there home size))
Replied (Next i t size s) line n before after printed = (after ≡ before) × NextAsked i t size s before.memory printed
Replied Blank line n before after printed = (after ≡ before) × Says (ClearLeaves before.memory before.five) printed
Replied (Holds at) line n before after printed =
    (after ≡ before) × (file : List ℕ) × (bytes_of (drop at line) ≡ some file) × Says (HasPlanOf file before.memory) printed

-- what is printed stands at the front of a buffer
pub record Answers (Told : List ℕ → Type 0) (before after : List ℕ) (end : ℕ) : Type 0 where
  pub printed : List ℕ
  pub told : Told printed
  pub prints : Prints printed before after end
