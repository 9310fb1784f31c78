-- The step: each event gets its answer, its records, and the box and the watchdog after it.
use Rattle.std.specs.Prelude.{ℕ, List, [], true, false, cond, length, eqb}
use Rattle.std.proofs.Math.Option.{Option, none, some}
use Rattle.rules_box.specs.declared.Event.{Event}
use Rattle.rules_box.specs.declared.Event.TheVariants.{TimeCode, Request, Reply, Reading}
use Rattle.rules_box.specs.Answer.{Answer, Refused, Recorded, Joined, Ended, Told}
use Rattle.rules_box.specs.declared.Watchdog.{Watchdog}
use Rattle.rules_box.specs.State.{Box, with_last, with_sides, Side, Live, the_plan}
use Rattle.rules_box.specs.Refuse.{refusal}
use Rattle.rules_box.specs.Watch.{is_overdue, told, fed}
use Rattle.rules_box.specs.Turn.{join, finish, class, in_sequence, turned}
use Rattle.rules_box.specs.Records.{Record, records}

pub record Outcome : Type 0 where
  pub answer : Answer
  pub box : Box
  pub watchdog : Watchdog
  pub records : List Record

-- one side changed, the others as they were
unfoldable pub with_side : Box → ℕ → (Side → Side) → Box
with_side b i f = with_sides (λ j. cond (eqb j i) (f (b.side j)) (b.side j)) b

-- every side at a time-code
unfoldable pub ticked : Box → ℕ → Box
ticked b byte = with_last (some byte) (with_sides (λ i. turned (the_plan b) (in_sequence b.last byte) byte i (b.side i)) b)

-- "hands on the status byte and its class"
unfoldable pub ended_by : ℕ → Option Live → Answer
ended_by status none = Refused 27
ended_by status (some l) = Ended l.request.target l.request.length status (class status)

unfoldable pub accepts : Box → Watchdog → Event → Outcome
accepts b w (TimeCode byte clock) =
    let rs = records b w byte clock in
    record { answer = Recorded (length rs); box = ticked b byte; watchdog = fed w clock; records = rs }
accepts b w (Request i t k n) =
    record { answer = Joined (b.side i).next; box = with_side b i (join t k n); watchdog = w; records = [] }
accepts b w (Reply i m status) =
    record { answer = ended_by status (b.side i).live; box = with_side b i finish; watchdog = w; records = [] }
accepts b w (Reading clock) =
    record { answer = Told (cond (is_overdue w clock) 1 0); box = b; watchdog = cond (is_overdue w clock) (told w) w; records = [] }

-- "A refusal leaves state, buffers and watchdog numbers untouched and answers its number, all else 0."
unfoldable pub step : ℕ → Box → Watchdog → Event → Outcome
step room b w e =
    elim (eqb (refusal room b e) 0) [
      | true ↦ accepts b w e
      | false ↦ record { answer = Refused (refusal room b e); box = b; watchdog = w; records = [] }
    ]

-- the clock that comes with an event, 0 for none
unfoldable pub clock_of : Event → ℕ
clock_of (TimeCode byte clock) = clock
clock_of (Request i t k n) = 0
clock_of (Reply i m status) = 0
clock_of (Reading clock) = clock
