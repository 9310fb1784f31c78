-- An answer that is yes or no as the number 1 or 0.
use mathlib.Core.Path.{◌≡◌, refl}
use mathlib.Core.Logic.{◌↔◌}
use mathlib.Core.Bool.{Bool, true, false}
use mathlib.Core.List.{List}
use Prim.Native.Nat.{ℕ, ◌≤◌}
use native.Mathlib.Omega.{arith}
use mir.Val.{bool_byte}
use Rattle.lists.specs.laws.Bools.{not-both}
use Rattle.memory_plan.specs.Memory.{Holds}
use Rattle.load_plan.specs.Load.{plan_left, HoldsPlanOf}
use Rattle.rules_box.specs.declared.Watchdog.{Watchdog}
use Rattle.rules_box.specs.State.{cleared, watchdog_cleared}
use Rattle.box_calls.specs.Calls.{Memory, At}
use Rattle.spwd_c.specs.Exports.{IsBlank, HoldsIt}

at-most-1 : (b : Bool) → bool_byte b ≤ 1
at-most-1 true = omega arith
at-most-1 false = omega arith

as_number : (b : Bool) {P : Type 0} → (b ≡ true) ↔ P → (bool_byte b ≡ 1) ↔ P
as_number true f = (λ e. f.0 refl, λ p. refl)
as_number false f = (λ e. absurd (omega arith), λ p. not-both (f.1 p) refl)

pub is-blank : (m : Memory) {w : Watchdog} (b : Bool) → (b ≡ true) ↔ ((w ≡ watchdog_cleared) × At m cleared) → IsBlank m w (bool_byte b)
is-blank m b f = record { most = at-most-1 b; says = as_number b f }

pub holds-it : {file sets ends rows reach paths spans aims numbers sets' ends' rows' reach' paths' spans' aims' numbers' : List ℕ} (b : Bool)
    → (b ≡ true) ↔ HoldsPlanOf file sets ends rows reach paths spans aims numbers
    → Holds (plan_left file) sets' ends' rows' reach' paths' spans' aims' numbers'
    → HoldsIt file (bool_byte b) sets ends rows reach paths spans aims numbers sets' ends' rows' reach' paths' spans' aims' numbers'
holds-it b f h = record { most = at-most-1 b; says = as_number b f; beside = h }
