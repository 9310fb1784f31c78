-- An event that is refused: its number, and run memory as it was.
use Rattle.std.specs.Prelude.{◌≡◌, List, false, ℕ, eqb}
use Rattle.std.proofs.Common.{sym, ap, ◌∙◌}
use Rattle.std.proofs.lemmas.Bool.{eqb-false}
use Rattle.rules_box.specs.declared.Event.{Event}
use Rattle.rules_box.specs.Answer.{Refused}
use Rattle.rules_box.specs.declared.Watchdog.{Watchdog}
use Rattle.rules_box.specs.State.{Box}
use Rattle.rules_box.specs.Refuse.{refusal}
use Rattle.rules_box.specs.Step.{step}
use Rattle.rules_box.specs.laws.Steps.{step-refused}
use Rattle.memory_run.specs.Run.{Runs}
use Rattle.memory_run.specs.Memory.{Answers}

pub refuses : (room : ℕ) (b : Box) (w : Watchdog) (e : Event) (n : ℕ) → eqb n 0 ≡ false → refusal room b e ≡ n
    → (run last : List ℕ) → Runs b run last → Answers (step room b w e) (Refused n) run last
refuses room b w e n some is run last holds =
    rw (step-refused room b w e (λ z. eqb-false n 0 some (sym is ∙ z))) (record { answer = ap Refused (sym is); runs = holds })
