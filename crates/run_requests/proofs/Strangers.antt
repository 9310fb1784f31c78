-- A request or a reply whose initiator has no row: 20 without a plan, else 22.
use mathlib.Core.Path.{◌≡◌, refl}
use mathlib.Core.List.{List}
use mathlib.Core.Option.{Option}
use mathlib.Core.Bool.{Bool, true, false, cond}
use Prim.Native.Nat.{ℕ}
use Rattle.lists.specs.Search.{is_some}
use Rattle.rules_plan.specs.Plan.{Plan}
use Rattle.memory_plan.specs.View.{Timed}
use Rattle.rules_box.specs.declared.Event.{Event}
use Rattle.rules_box.specs.Answer.{Refused}
use Rattle.rules_box.specs.declared.Watchdog.{Watchdog}
use Rattle.rules_box.specs.State.{Box}
use Rattle.rules_box.specs.Refuse.{refusal}
use Rattle.rules_box.specs.Step.{step}
use Rattle.memory_run.specs.Memory.{Finds, Answers}
use Rattle.memory_run.specs.laws.Refused.{refuses}
use Rattle.ask_next.specs.Refused.{no_row}

pub refused-strange : {b : Box} {rows spans aims numbers run last : List ℕ} → Finds b rows spans aims numbers run last → (room : ℕ) (w : Watchdog) (e : Event)
    → ((x : Bool) → is_some b.plan ≡ x → refusal room b e ≡ cond x 22 20) → (m : ℕ) → ((o : Option Plan) → Timed o numbers → m ≡ no_row o)
    → Answers (step room b w e) (Refused m) run last
unfolding no_row
refused-strange {b} {run = run} {last = last} f room w e is m told = go (is_some b.plan) refl
  where
    go : (x : Bool) → is_some b.plan ≡ x → Answers (step room b w e) (Refused m) run last
    go true h = rw (told b.plan f.plan.timed, h) (refuses room b w e 22 refl (is true h) run last f.runs)
    go false h = rw (told b.plan f.plan.timed, h) (refuses room b w e 20 refl (is false h) run last f.runs)
