-- What holds one box is one memory: a clear and a refused load leave every number 0, and a refused event leaves all as it was.
use mathlib.Core.Path.{◌≡◌, refl, sym, ap, ◌∙◌}
use mathlib.Core.Logic.{◌≢◌}
use mathlib.Core.List.{flat_map}
use mathlib.Core.Option.{Option, none, some}
use mathlib.Core.Bool.{true}
use Prim.Native.Nat.{ℕ}
use native.Mathlib.Decide.{ℕ_discrete}
use lib.ListN.{length, replicate}
use borrow.Author.Tests.{not-false}
use Rattle.lists.specs.Search.{any, keep, is_some, up_from, below64}
use Rattle.lists.specs.Place.{at_place}
use Rattle.lists.specs.Rows.{test_of}
use Rattle.lists.specs.Cells.{padded}
use Rattle.lists.specs.laws.Bools.{not-both}
use Rattle.lists.specs.laws.Rows.{rise, no_row}
use Rattle.rules_plan.specs.Plan.{blank}
use Rattle.rules_plan.specs.Meaning.{is_initiator, initiators}
use Rattle.rules_plan.specs.Promises.{AcceptedIsSound}
use Rattle.memory_plan.specs.laws.BlankMemory.{holds-blank}
use Rattle.rules_box.specs.declared.Event.{Event}
use Rattle.rules_box.specs.declared.Event.TheVariants.{TimeCode, Request, Reply, Reading}
use Rattle.rules_box.specs.declared.Watchdog.{Watchdog}
use Rattle.rules_box.specs.Answer.{values}
use Rattle.rules_box.specs.State.{Box, Live, idle, cleared, watchdog_cleared, the_plan}
use Rattle.rules_box.specs.Refuse.{refusal, refusals}
use Rattle.rules_box.specs.Records.{recorded}
use Rattle.rules_box.specs.Step.{step, accepts, ended_by}
use Rattle.rules_box.specs.Promises.{RefusedLoadIsAClear}
use Rattle.rules_box.specs.laws.Steps.{step-accepted, step-refused, refused}
use Rattle.memory_run.specs.Run.{live_word, live_time, row_of, side_of, rows_with, run_of, last_of}
use Rattle.box_calls.specs.Calls.{Memory, At, Lent}
use Rattle.box_promises.specs.Words.{blank_memory, number_of}
use Rattle.box_promises.specs.Promises.{Nothing, ClearLeavesNothing, RefusedLoadLeavesNothing, RefusedEventChangesNothing}
use Rattle.box_promises.proofs.Held.{held, outcome}

-- a box has one memory
pub one-memory : (m n : Memory) (b : Box) → At m b → At n b → m ≡ n
one-memory m n b x y = λ z. record {
  sets = (x.plan.sets ∙ sym y.plan.sets) z;
  ends = (x.plan.ends ∙ sym y.plan.ends) z;
  rows = (x.plan.rows ∙ sym y.plan.rows) z;
  reach = (x.plan.reach ∙ sym y.plan.reach) z;
  paths = (x.plan.paths ∙ sym y.plan.paths) z;
  spans = (x.plan.spans ∙ sym y.plan.spans) z;
  aims = (x.plan.aims ∙ sym y.plan.aims) z;
  numbers = (x.plan.numbers ∙ sym y.plan.numbers) z;
  run = (x.runs.run ∙ sym y.runs.run) z;
  last = (x.runs.last ∙ sym y.runs.last) z;
}

-- that of a cleared box is all 0
no-runs : replicate 96 0 ≡ run_of (the_plan cleared) cleared.side
unfolding cleared idle the_plan blank initiators is_initiator keep any below64 run_of rows_with side_of row_of live_word live_time padded up_from at_place flat_map
no-runs = refl

blank-at : At blank_memory cleared
unfolding blank_memory cleared the_plan last_of
blank-at = record { plan = holds-blank; runs = record { run = no-runs; last = refl } }

nothing : (m : Memory) (w : Watchdog) → At m cleared → w ≡ watchdog_cleared → Nothing m w
unfolding watchdog_cleared
nothing m w at five = record { memory = one-memory m blank_memory cleared at blank-at; five = five }

pub clear-leaves-nothing : ClearLeavesNothing
unfolding ClearLeavesNothing
clear-leaves-nothing m w l = nothing m w l.holds l.five

pub refused-load : RefusedLoadIsAClear → RefusedLoadLeavesNothing
unfolding RefusedLoadLeavesNothing RefusedLoadIsAClear
refused-load clear file v m w l h =
    let (box, five) = clear file (rw l.verdict at h) in
    nothing m w (rw box at l.holds) (l.five ∙ five)

-- an accepted event answers 0
ended-number : (status : ℕ) (o : Option Live) → is_some o ≡ true → (values (ended_by status o)).number ≡ 0
unfolding is_some ended_by values
ended-number status none h = not-both h refl
ended-number status (some l) h = refl

accepted-number : (room : ℕ) (b : Box) (w : Watchdog) (e : Event) → refusal room b e ≡ 0 → number_of (accepts b w e).answer ≡ 0
unfolding accepts values refusal refusals rise test_of
accepted-number room b w (TimeCode byte clock) h = refl
accepted-number room b w (Request i t k n) h = refl
accepted-number room b w (Reply i m status) h =
    ended-number status (b.side i).live (not-false (is_some (b.side i).live) (no_row 27 (refusals room b (Reply i m status)) 0 refl h))
accepted-number room b w (Reading clock) h = refl

-- so an event is refused exactly when its answer's number is not 0
pub accepted-by : (room : ℕ) (b : Box) (w : Watchdog) (e : Event) → number_of (step room b w e).answer ≡ 0 → refusal room b e ≡ 0
unfolding values
accepted-by room b w e h = go (ℕ_discrete (refusal room b e) 0)
  where
    go : Dec (refusal room b e ≡ 0) → refusal room b e ≡ 0
    go (yes k) = k
    go (no k) = rw (step-refused room b w e k) at h

pub accepts-by : (room : ℕ) (b : Box) (w : Watchdog) (e : Event) → refusal room b e ≡ 0 → number_of (step room b w e).answer ≡ 0
accepts-by room b w e h = rw (step-accepted room b w e h) (accepted-number room b w e h)

same-lent : (before after : Lent) → after.memory ≡ before.memory → after.five ≡ before.five → after.records ≡ before.records → after ≡ before
same-lent before after m f r = λ z. record { memory = m z; five = f z; records = r z }

module _ (ok : AcceptedIsSound) where
  pub refused-event : RefusedEventChangesNothing
  unfolding RefusedEventChangesNothing recorded flat_map
  refused-event before after e answer b came s h =
      let held-before = held ok before.memory b came in
      let room = length before.records in
      let w = before.five in
      let o = outcome ok b e s held-before in
      let no-accept : refusal room b e ≢ 0 = λ z. h (ap number_of o.answer ∙ accepts-by room b w e z) in
      let is : step room b w e ≡ refused room b w e = step-refused room b w e no-accept in
      same-lent before after (one-memory after.memory before.memory b (rw is at o.memory) held-before.at) (rw is at o.five) (rw is at o.records)
