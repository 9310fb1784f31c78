-- A clock reading: no plan, overdue, or in time.
use mathlib.Core.Path.{◌≡◌, refl, sym, ap, ◌∙◌}
use mathlib.Core.Bool.{Bool, true, false, cond}
use Prim.Native.Nat.{ℕ}
use borrow.Author.Tests.{eqb-false}
use Rattle.lists.specs.Search.{is_some}
use Rattle.lists.specs.Rows.{first_of}
use Rattle.rules_box.specs.declared.Event.TheVariants.{Reading}
use Rattle.rules_box.specs.Answer.{Answer, Refused, told_late}
use Rattle.rules_box.specs.declared.Watchdog.{Watchdog}
use Rattle.rules_box.specs.State.{Box, no_plan}
use Rattle.rules_box.specs.Refuse.{refusal, refusals}
use Rattle.rules_box.specs.Watch.{is_overdue, told}
use Rattle.rules_box.specs.Step.{step, accepts}
use Rattle.rules_box.specs.laws.Steps.{step-accepted, step-refused}

module _ (room : ℕ) (b : Box) (w : Watchdog) (clock : ℕ) where
  abbrev Gives : Answer → Watchdog → Type 0
  Gives r v = (r ≡ (step room b w (Reading clock)).answer) × (v ≡ (step room b w (Reading clock)).watchdog)

  refused : is_some b.plan ≡ false → refusal room b (Reading clock) ≡ 20
  unfolding refusal refusals first_of no_plan
  refused h = rw h

  pub no-plan : is_some b.plan ≡ false → Gives (Refused 20) w
  no-plan h = rw (step-refused room b w (Reading clock) (λ z. eqb-false 20 0 refl (sym (refused h) ∙ z))) (ap Refused (sym (refused h)), refl)

  module _ (loaded : is_some b.plan ≡ true) where
    accepted : step room b w (Reading clock) ≡ accepts b w (Reading clock)
    unfolding refusal refusals first_of no_plan
    accepted = step-accepted room b w (Reading clock) (rw loaded)

    pub told-late : (late : Bool) → late ≡ is_overdue w clock → (v : Watchdog) → v ≡ cond late (told w) w → Gives (told_late late) v
    unfolding accepts
    told-late late is v e = (rw (accepted, is), rw (accepted, ← is) e)
