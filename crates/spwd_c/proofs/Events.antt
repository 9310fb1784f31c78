-- The four events with the five numbers and the answer as numbers.
use mathlib.Core.Path.{◌≡◌, refl, ap, ◌∙◌}
use mathlib.Core.Bool.{Bool, true, false, not, ◌&&◌}
use mathlib.Core.List.{List}
use Prim.Native.Nat.{ℕ}
use lib.ListN.{length}
use lib.Dec.{eqb, ltb}
use borrow.Author.Tests.{eqb-true, eq-eqb}
use Rattle.lists.specs.laws.Bools.{cond_cases}
use Rattle.memory_plan.specs.View.{Timed}
use Rattle.rules_box.specs.declared.Event.TheVariants.{TimeCode, Request, Reply, Reading}
use Rattle.rules_box.specs.Answer.{Answer, values}
use Rattle.rules_box.specs.declared.Watchdog.{Watchdog}
use Rattle.rules_box.specs.State.{Box}
use Rattle.rules_box.specs.Watch.{yes?, elapsed, is_overdue, told as told_of, fed}
use Rattle.rules_box.specs.Step.{step, accepts, Outcome}
use Rattle.rules_box.specs.laws.Steps.{step-cases}
use Rattle.memory_run.specs.Memory.{Finds, Answers, Does}
use Rattle.run_events.specs.Values.{listed}
use Rattle.run_events.specs.laws.Events.{by-time-code, by-request, by-reply, by-reading}
use Rattle.spwd_c.specs.Exports.{TimeCodes, Requests, Replies, Readings}

module _ {eight : List ℕ} (a : Answer) (told : eight ≡ listed (values a)) where
  pub readings : {numbers : List ℕ} {w w' : Watchdog} {clock : ℕ}
      → ((b : Box) → Timed b.plan numbers → (room : ℕ) → (a ≡ (step room b w (Reading clock)).answer) × (w' ≡ (step room b w (Reading clock)).watchdog))
      → Readings numbers w clock w' eight
  readings {w = w} {w' = w'} {clock = clock} does = record {
    steps = record {
      answer = a;
      numbers = told;
      does = λ rows spans aims run last records b f. by-reading (length records) b w _ a run last records clock w' refl f.runs (does b f.plan.timed (length records));
    };
  }

  pub time-codes : {w w' : Watchdog} {spans aims numbers run last : List ℕ} {byte clock : ℕ} {records run' last' records' : List ℕ}
      → ((b : Box) (rows : List ℕ) → Finds b rows spans aims numbers run last → Does (step (length records) b w (TimeCode byte clock)) clock a w' run' last' records records')
      → TimeCodes spans aims numbers run last w byte clock records run' last' w' records' eight
  time-codes {w = w} {w' = w'} {records = records} {run' = run'} {last' = last'} does = record {
    steps = record {
      answer = a;
      numbers = told;
      does = λ rows b f. by-time-code (length records) b w _ a run' last' records _ _ w' _ refl (does b rows f);
    };
  }

  pub requests : {rows aims numbers run run' : List ℕ} {i t k n : ℕ}
      → ((b : Box) (spans last : List ℕ) → Finds b rows spans aims numbers run last → (room : ℕ) (w : Watchdog) → Answers (step room b w (Request i t k n)) a run' last)
      → Requests rows aims numbers run i t k n run' eight
  requests {run' = run'} does = record {
    steps = record {
      answer = a;
      numbers = told;
      does = λ spans last w records b f. by-request (length records) b w _ a run' last records _ _ _ _ refl (does b spans last f (length records) w);
    };
  }

  pub replies : {rows numbers run run' : List ℕ} {i m status : ℕ}
      → ((b : Box) (spans aims last : List ℕ) → Finds b rows spans aims numbers run last → (room : ℕ) (w : Watchdog) → Answers (step room b w (Reply i m status)) a run' last)
      → Replies rows numbers run i m status run' eight
  replies {run' = run'} does = record {
    steps = record {
      answer = a;
      numbers = told;
      does = λ spans aims last w records b f. by-reply (length records) b w _ a run' last records _ _ _ refl (does b spans aims last f (length records) w);
    };
  }
