-- A load with its verdict as numbers.
use mathlib.Core.Path.{◌≡◌}
use mathlib.Core.List.{List}
use Prim.Native.Nat.{ℕ}
use Rattle.rules_plan.specs.declared.Verdict.{Verdict}
use Rattle.rules_box.specs.declared.Watchdog.{Watchdog}
use Rattle.box_calls.specs.Calls.{Memory, LoadLeaves}
use Rattle.c_numbers.specs.Numbers.{verdict_numbers}
use Rattle.spwd_c.specs.Exports.{Loads}

pub loads : {m : Memory} {w : Watchdog} {file verdict : List ℕ} {v : Verdict} → LoadLeaves file v m w → verdict ≡ verdict_numbers v → Loads file m w verdict
loads l n = record { leaves = rw l.verdict at l; verdict = rw (← l.verdict) n }
