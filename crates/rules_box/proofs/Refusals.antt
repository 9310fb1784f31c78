-- A refused event changes nothing, a refused load is a clear, and a clear is a box never loaded.
use mathlib.Core.Path.{◌≡◌, refl, fun_ext}
use Prim.Native.Nat.{ℕ}
use borrow.Author.Tests.{ne_eqb}
use Rattle.rules_plan.specs.Verdict.{number}
use Rattle.rules_plan.specs.Judge.{judge}
use Rattle.rules_box.specs.declared.Watchdog.{Watchdog}
use Rattle.rules_box.specs.State.{Box, idle, cleared, watchdog_cleared, loaded, watchdog_loaded, is_accepted}
use Rattle.rules_box.specs.Promises.{RefusedEventChangesNothing, RefusedLoadIsAClear, NeverLoaded, ClearIsNeverLoaded}
use Rattle.rules_box.specs.laws.Steps.{step-refused}

pub refused-event : RefusedEventChangesNothing
unfolding RefusedEventChangesNothing
refused-event room b w e h = step-refused room b w e h

pub refused-load : RefusedLoadIsAClear
unfolding RefusedLoadIsAClear loaded watchdog_loaded is_accepted
refused-load file h = let no-plan = ne_eqb (number (judge file)) 0 h in (rw no-plan, rw no-plan)

clear-never : NeverLoaded cleared watchdog_cleared
unfolding cleared idle watchdog_cleared
clear-never = record { plan = refl; last = refl; next = λ i. refl; line = λ i. refl; live = λ i. refl; five = refl }

never-clear : (b : Box) (w : Watchdog) → NeverLoaded b w → b ≡ cleared
unfolding cleared idle
never-clear b w n = λ z. record { plan = n.plan z; last = n.last z; side = fun_ext each z }
  where
    each : (i : ℕ) → b.side i ≡ idle
    each i = λ z. record { next = n.next i z; line = n.line i z; live = n.live i z }

pub clear-is-never-loaded : ClearIsNeverLoaded
unfolding ClearIsNeverLoaded watchdog_cleared
clear-is-never-loaded b w = (λ n. (never-clear b w n, n.five), λ e. rw (e.0, e.1) clear-never)
