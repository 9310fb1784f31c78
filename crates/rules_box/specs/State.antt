-- The state of the box, a clear, and a load.
use Rattle.std.specs.Prelude.{ℕ, List, [], Bool, not, cond, eqb}
use Rattle.std.proofs.Math.Option.{Option, none, some, get_or}
use Rattle.lists.specs.Search.{is_some}
use Rattle.rules_plan.specs.Plan.{Plan, blank}
use Rattle.rules_plan.specs.Meaning.{least_of, greatest_of}
use Rattle.rules_plan.specs.Verdict.{number}
use Rattle.rules_plan.specs.Judge.{judge}
use Rattle.rules_plan.specs.Canon.{plan_of}
use Rattle.rules_box.specs.declared.Watchdog.{Watchdog}

pub record Request : Type 0 where
  pub target : ℕ
  pub kind : ℕ
  pub length : ℕ
  pub number : ℕ

-- a request as it joins a line
abbrev pub request : (target kind length number : ℕ) → Request
request t k n m = record { target = t; kind = k; length = n; number = m }

-- a live transaction: the request, the span of the entry that it started at, and the accepted time-codes since
pub record Live : Type 0 where
  pub request : Request
  pub span : ℕ
  pub age : ℕ

abbrev pub with_age : ℕ → Live → Live
with_age n l = record { request = l.request; span = l.span; age = n }

-- one initiator's side: its next transaction number, its line (oldest first), its live transaction
pub record Side : Type 0 where
  pub next : ℕ
  pub line : List Request
  pub live : Option Live

-- the side with one field replaced
abbrev pub with_next : ℕ → Side → Side
with_next n s = record { next = n; line = s.line; live = s.live }

abbrev pub with_line : List Request → Side → Side
with_line rs s = record { next = s.next; line = rs; live = s.live }

abbrev pub with_live : Option Live → Side → Side
with_live l s = record { next = s.next; line = s.line; live = l }

-- the plan; the byte of the last accepted time-code; each initiator's side
pub record Box : Type 0 where
  pub plan : Option Plan
  pub last : Option ℕ
  pub side : ℕ → Side

-- the box with one field replaced
abbrev pub with_last : Option ℕ → Box → Box
with_last l b = record { plan = b.plan; last = l; side = b.side }

abbrev pub with_sides : (ℕ → Side) → Box → Box
with_sides f b = record { plan = b.plan; last = b.last; side = f }

-- "nothing waiting or live, transaction numbers from 0"
unfoldable pub idle : Side
idle = record { next = 0; line = []; live = none }

-- "Clear. The state is then the one before any load, every number of it."
unfoldable pub cleared : Box
cleared = record { plan = none; last = none; side = λ i. idle }

-- "a clear or a refused load sets all to 0"
unfoldable pub watchdog_cleared : Watchdog
watchdog_cleared = record { last = 0; seen = 0; reported = 0; least = 0; greatest = 0 }

-- "An accepted load replaces everything: no time-code seen, nothing waiting or live, transaction numbers from 0."
unfoldable pub holding : Plan → Box
holding p = record { plan = some p; last = none; side = λ i. idle }

-- "An accepted load sets the last two from the plan and the others to 0"
unfoldable pub watchdog_for : Plan → Watchdog
watchdog_for p = record { last = 0; seen = 0; reported = 0; least = least_of p.timings; greatest = greatest_of p.timings }

unfoldable pub is_accepted : List ℕ → Bool
is_accepted file = eqb (number (judge file)) 0

-- "A refused load leaves the state of a clear."
unfoldable pub loaded : List ℕ → Box
loaded file = cond (is_accepted file) (holding (plan_of file)) cleared

unfoldable pub watchdog_loaded : List ℕ → Watchdog
watchdog_loaded file = cond (is_accepted file) (watchdog_for (plan_of file)) watchdog_cleared

unfoldable pub no_plan : Box → Bool
no_plan b = not (is_some b.plan)

-- the plan of a box that has one
unfoldable pub the_plan : Box → Plan
the_plan b = get_or b.plan blank
