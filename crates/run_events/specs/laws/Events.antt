-- Each event as the step finds it. One that is no time-code records nothing, so that the lent buffer keeps its bytes.
use Rattle.std.specs.Prelude.{◌≡◌, refl, ℕ}
use mathlib.Core.List.{List, [], flat_map}
use Rattle.rules_box.specs.declared.Event.{Event}
use Rattle.rules_box.specs.declared.Event.TheVariants.{TimeCode, Request, Reply, Reading}
use Rattle.rules_box.specs.Answer.{Answer}
use Rattle.rules_box.specs.declared.Watchdog.{Watchdog}
use Rattle.rules_box.specs.State.{Box}
use Rattle.rules_box.specs.Records.{recorded}
use Rattle.rules_box.specs.Step.{Outcome, step, accepts, clock_of}
use Rattle.rules_box.specs.laws.Steps.{step-cases}
use Rattle.memory_run.specs.Run.{Runs}
use Rattle.memory_run.specs.Memory.{Answers, Does}

nothing-recorded : (clock : ℕ) (buffer : List ℕ) → buffer ≡ recorded clock [] buffer
unfolding recorded flat_map
nothing-recorded clock buffer = refl

module _ (room : ℕ) (b : Box) (w : Watchdog) (e : Event) (r : Answer) (run last buffer : List ℕ) where
  quiet : (x : Event) (clock : ℕ) → (accepts b w x).records ≡ [] → buffer ≡ recorded clock (step room b w x).records buffer
  quiet x clock none =
      step-cases room b w x (λ (o : Outcome). buffer ≡ recorded clock o.records buffer)
      (λ _. rw none (nothing-recorded clock buffer)) (λ _. nothing-recorded clock buffer)

  pub by-time-code : (byte clock : ℕ) (v : Watchdog) (after : List ℕ) → e ≡ TimeCode byte clock
      → Does (step room b w (TimeCode byte clock)) clock r v run last buffer after → Does (step room b w e) (clock_of e) r v run last buffer after
  unfolding clock_of
  by-time-code byte clock v after is h = rw is h

  pub by-request : (i t k n : ℕ) → e ≡ Request i t k n
      → Answers (step room b w (Request i t k n)) r run last → Does (step room b w e) (clock_of e) r w run last buffer buffer
  unfolding accepts
  by-request i t k n is h = rw is (record {
    answers = h;
    watchdog = step-cases room b w (Request i t k n) (λ (o : Outcome). w ≡ o.watchdog) (λ _. refl) (λ _. refl);
    records = quiet (Request i t k n) _ refl;
  })

  pub by-reply : (i m status : ℕ) → e ≡ Reply i m status
      → Answers (step room b w (Reply i m status)) r run last → Does (step room b w e) (clock_of e) r w run last buffer buffer
  unfolding accepts
  by-reply i m status is h = rw is (record {
    answers = h;
    watchdog = step-cases room b w (Reply i m status) (λ (o : Outcome). w ≡ o.watchdog) (λ _. refl) (λ _. refl);
    records = quiet (Reply i m status) _ refl;
  })

  pub by-reading : (clock : ℕ) (v : Watchdog) → e ≡ Reading clock → Runs b run last
      → (r ≡ (step room b w (Reading clock)).answer) × (v ≡ (step room b w (Reading clock)).watchdog) → Does (step room b w e) (clock_of e) r v run last buffer buffer
  unfolding accepts
  by-reading clock v is holds h = rw is (record {
    answers = record { answer = h.0; runs = step-cases room b w (Reading clock) (λ (o : Outcome). Runs o.box run last) (λ _. holds) (λ _. holds) };
    watchdog = h.1;
    records = quiet (Reading clock) _ refl;
  })
