-- Memory that came of calls holds the box that the definitions reach by the same calls.
use mathlib.Core.Path.{◌≡◌, refl, sym, ap, ◌∙◌}
use mathlib.Core.List.{List}
use mathlib.Core.Option.{Option, none, some}
use Prim.Native.Nat.{ℕ}
use lib.ListN.{length}
use borrow.Author.Tests.{eqb-true}
use Rattle.lists.specs.laws.Bools.{none-some, some-some, cond_cases}
use Rattle.rules_plan.specs.Plan.{Plan}
use Rattle.rules_plan.specs.Verdict.{number}
use Rattle.rules_plan.specs.Judge.{judge}
use Rattle.rules_plan.specs.Canon.{canonical, given, plan_of}
use Rattle.rules_plan.specs.Good.{Good}
use Rattle.rules_plan.specs.Promises.{AcceptedIsSound}
use Rattle.rules_plan.specs.laws.Accepted.{accepted-good}
use Rattle.rules_plan.specs.laws.Canonical.{good-canonical, canonical-twice}
use Rattle.memory_plan.specs.PlanHeld.{PlanHeld}
use Rattle.memory_plan.specs.Memory.{sets_of, ends_of, rows_of, reach_of, paths_of, spans_of, aims_of, numbers_of}
use Rattle.memory_plan.specs.laws.BlankMemory.{good-greatest}
use Rattle.rules_box.specs.declared.Event.{Event}
use Rattle.rules_box.specs.declared.Event.TheVariants.{TimeCode, Request, Reply, Reading}
use Rattle.rules_box.specs.Answer.{Answer}
use Rattle.rules_box.specs.declared.Watchdog.{Watchdog}
use Rattle.rules_box.specs.State.{Box, cleared, holding, loaded, is_accepted, the_plan}
use Rattle.rules_box.specs.Step.{step, accepts, Outcome, with_side, ticked}
use Rattle.rules_box.specs.History as history
use Rattle.rules_box.specs.History.{Reached}
use Rattle.rules_box.specs.laws.Steps.{step-cases, plan-kept}
use Rattle.rules_box.specs.laws.Fit.{reached-fit}
use Rattle.memory_run.specs.Memory.{Finds}
use Rattle.box_calls.specs.Calls.{Memory, At, Lent, with_run, StepLeaves, Came, by-clear, by-load, by-event}
use Rattle.box_promises.specs.Promises.{HeldBy, HoldsTheBox, OutcomeOf, EventsOfTheRules}

-- no event changes whether there is a plan
plan-stays : (room : ℕ) (b : Box) (w : Watchdog) (e : Event) → (step room b w e).box.plan ≡ b.plan
unfolding accepts ticked with_side
plan-stays room b w e = step-cases room b w e (λ (o : Outcome). o.box.plan ≡ b.plan) (λ _. by e) (λ _. refl)
  where
    by : (x : Event) → (accepts b w x).box.plan ≡ b.plan
    by (TimeCode byte clock) = refl
    by (Request i t k n) = refl
    by (Reply i m status) = refl
    by (Reading clock) = refl

-- the plan of a box is that of an accepted file
pub record OfFile (p : Plan) : Type 0 where
  pub file : List ℕ
  pub accepted : number (judge file) ≡ 0
  pub is : p ≡ plan_of file

abbrev HasFile : Box → Type 0
HasFile b = (p : Plan) → b.plan ≡ some p → OfFile p

loaded-file : (file : List ℕ) → HasFile (loaded file)
unfolding loaded is_accepted holding cleared
loaded-file file =
    cond_cases HasFile (is_accepted file) (holding (plan_of file)) cleared
    (λ h p e. record { file = file; accepted = eqb-true (number (judge file)) 0 h; is = sym (some-some e) }) (λ _ p e. none-some e)

pub reached-file : (b : Box) → Reached b → HasFile b
unfolding cleared
reached-file b history.by-clear p e = none-some e
reached-file b (history.by-load file) p e = loaded-file file p e
reached-file b (history.by-event {b = c} r room w e) p is = reached-file c r p (sym (plan-stays room c w e) ∙ is)

-- so it is a good one, in canonical order
pub plan_of-good : (file : List ℕ) → number (judge file) ≡ 0 → Good (plan_of file)
unfolding plan_of
plan_of-good file h = good-canonical (given file) (accepted-good file h)

pub file-ordered : (p : Plan) → OfFile p → canonical p ≡ p
unfolding plan_of
file-ordered p f = rw f.is (canonical-twice (given f.file) (accepted-good f.file f.accepted))

pub reached-good : (b : Box) → Reached b → (p : Plan) → b.plan ≡ some p → Good p
reached-good b r p e = let f = reached-file b r p e in rw f.is (plan_of-good f.file f.accepted)

-- memory that holds a reached box is what writing out asks for
plan-held : (m : Memory) (b : Box) → Reached b → At m b → PlanHeld b.plan m.sets m.ends m.rows m.reach m.paths m.spans m.aims m.numbers
unfolding the_plan
plan-held m b r at = go b.plan refl
  where
    go : (o : Option Plan) → b.plan ≡ o → PlanHeld o m.sets m.ends m.rows m.reach m.paths m.spans m.aims m.numbers
    go none is = rw is at at.plan
    go (some p) is = record { good = reached-good b r p is; ordered = file-ordered p (reached-file b r p is); holds = rw is at at.plan }

module _ (ok : AcceptedIsSound) where
  -- memory that holds a reached box is what an event asks for
  finds : (m : Memory) (b : Box) → Reached b → At m b → Finds b m.rows m.spans m.aims m.numbers m.run m.last
  unfolding the_plan
  finds m b r at =
      let fit = reached-fit ok b r in
      record {
        fit = fit;
        plan =
            record {
              sound = fit.sound;
              rows = at.plan.rows;
              spans = at.plan.spans;
              aims = at.plan.aims;
              timed = record { numbers = at.plan.numbers; some-interval = λ p e. good-greatest p (reached-good b r p e) };
            };
        runs = at.runs;
      }

  -- an event leaves what the rules say
  pub outcome : {before after : Lent} {answer : Answer} (b : Box) (e : Event) → StepLeaves before e answer after → HeldBy before.memory b
      → OutcomeOf (step (length before.records) b before.five e) before e answer after
  unfolding with_run
  outcome {before} {after} b e s h =
      let does = s.does b h.finds in
      let at = h.at.plan in
      let room = length before.records in
      let w = before.five in
      let kept : the_plan b ≡ the_plan (step room b w e).box = sym (plan-kept room b w e) in
      record {
        answer = does.answers.answer;
        memory =
            record {
              plan =
                  record {
                    sets = ap (λ (m : Memory). m.sets) s.plan ∙ at.sets ∙ ap sets_of kept;
                    ends = ap (λ (m : Memory). m.ends) s.plan ∙ at.ends ∙ ap ends_of kept;
                    rows = ap (λ (m : Memory). m.rows) s.plan ∙ at.rows ∙ ap rows_of kept;
                    reach = ap (λ (m : Memory). m.reach) s.plan ∙ at.reach ∙ ap reach_of kept;
                    paths = ap (λ (m : Memory). m.paths) s.plan ∙ at.paths ∙ ap paths_of kept;
                    spans = ap (λ (m : Memory). m.spans) s.plan ∙ at.spans ∙ ap spans_of kept;
                    aims = ap (λ (m : Memory). m.aims) s.plan ∙ at.aims ∙ ap aims_of kept;
                    numbers = ap (λ (m : Memory). m.numbers) s.plan ∙ at.numbers ∙ ap numbers_of kept;
                  };
              runs = does.answers.runs;
            };
        five = does.watchdog;
        records = does.records;
      }

  held_by : (m : Memory) (b : Box) → Reached b → At m b → HeldBy m b
  held_by m b r at = record { reached = r; at = at; finds = finds m b r at; plan = plan-held m b r at }

  pub held : (m : Memory) (b : Box) → Came m b → HeldBy m b
  held m b (by-clear c) = held_by m b history.by-clear c.holds
  held m b (by-load file l) = held_by m b (history.by-load file) l.holds
  held m b (by-event {before} {after} {answer} {b = c} r e s) =
      let h = held before.memory c r in
      held_by m b (history.by-event h.reached (length before.records) before.five e) (outcome c e s h).memory

  pub holds-the-box : HoldsTheBox
  unfolding HoldsTheBox
  holds-the-box = held

  pub events-of-the-rules : EventsOfTheRules
  unfolding EventsOfTheRules
  events-of-the-rules before after e answer b c s = outcome b e s (held before.memory b c)
