-- The watchdog: early, late, and told.
use Rattle.std.specs.Prelude.{ℕ, ◌+◌, ◌-◌, ◌%◌, ◌^◌, Bool, not, ◌&&◌, ltb, eqb}
use Rattle.rules_box.specs.declared.Watchdog.{Watchdog}

unfoldable pub yes? : ℕ → Bool
yes? n = not (eqb n 0)

-- "Elapsed is the reading less the last time-code's clock, modulo 2 to the 32; in a time-code its own clock is the reading."
unfoldable pub elapsed : Watchdog → ℕ → ℕ
elapsed w clock = (clock + 2 ^ 32 - w.last) % 2 ^ 32

-- "kind 1 early if elapsed < least"; "neither if none was seen"
unfoldable pub is_early : Watchdog → ℕ → Bool
is_early w clock = yes? w.seen && ltb (elapsed w clock) w.least

-- "if a time-code was seen, elapsed > greatest, and it was not yet reported"
unfoldable pub is_overdue : Watchdog → ℕ → Bool
is_overdue w clock = yes? w.seen && ltb w.greatest (elapsed w clock) && not (yes? w.reported)

-- "and reported becomes yes"
unfoldable pub told : Watchdog → Watchdog
told w = record { last = w.last; seen = w.seen; reported = 1; least = w.least; greatest = w.greatest }

-- "Then its clock is the last, seen is yes and reported no"
unfoldable pub fed : Watchdog → ℕ → Watchdog
fed w clock = record { last = clock; seen = 1; reported = 0; least = w.least; greatest = w.greatest }
