-- A reply, row by row of the refusals; of an initiator, what is told of its row.
use mathlib.Core.Path.{◌≡◌, refl}
use mathlib.Core.List.{List, ◌++◌}
use mathlib.Core.Option.{Option, some}
use mathlib.Core.Bool.{Bool, true, false, not, cond}
use Prim.Native.Nat.{ℕ, ◌*◌, ◌≤◌, ◌<◌}
use lib.ListN.{take, drop}
use Rattle.lists.specs.Search.{is_some}
use Rattle.lists.specs.Rows.{first_of}
use Rattle.lists.specs.Place.{at_place}
use Rattle.rules_plan.specs.Plan.{Plan}
use Rattle.rules_plan.specs.Meaning.{initiators}
use Rattle.memory_plan.specs.View.{Timed, Owner, owner, owner_of}
use Rattle.rules_box.specs.declared.Event.TheVariants.{Reply}
use Rattle.rules_box.specs.Answer.{Answer, Refused}
use Rattle.rules_box.specs.declared.Watchdog.{Watchdog}
use Rattle.rules_box.specs.State.{Box, Side, no_plan, the_plan}
use Rattle.rules_box.specs.Turn.{finish}
use Rattle.rules_box.specs.Refuse.{refusal, refusals, is_live_number}
use Rattle.rules_box.specs.Step.{step, accepts}
use Rattle.rules_box.specs.laws.Steps.{step-accepted}
use Rattle.rules_box.specs.laws.Fit.{FitSide}
use Rattle.memory_run.specs.Run.{row_of, side_of, changed, rows_with}
use Rattle.memory_run.specs.laws.RunSides.{on_row, runs-kept, runs-changed}
use Rattle.run_requests.specs.Replied.{replied_answer, replied_side}
use Rattle.memory_run.specs.Memory.{Finds, Answers}
use Rattle.memory_plan.specs.laws.Found.{Rowed}
use Rattle.memory_run.specs.laws.Found.{plan-by-row, is-initiator, its-row, no-initiator}
use Rattle.memory_run.specs.laws.Refused.{refuses}
use Rattle.ask_next.specs.Refused.{no_row}
use Rattle.run_requests.proofs.Strangers.{refused-strange}
use Rattle.run_requests.specs.laws.Live.{no_number}

module _
    {b : Box}
    {rows spans aims numbers run last : List ℕ}
    (f : Finds b rows spans aims numbers run last)
    (room : ℕ)
    (w : Watchdog)
    (i m status : ℕ)
    (row : ℕ)
    (rowed : Rowed rows numbers i row)
  where
    abbrev Gives : Answer → List ℕ → Type 0
    Gives r run' = Answers (step room b w (Reply i m status)) r run' last

    pub stranger : 8 ≤ row → (n : ℕ) → ((o : Option Plan) → Timed o numbers → n ≡ no_row o) → Gives (Refused n) run
    unfolding refusal refusals first_of no_plan
    stranger h = refused-strange f room w (Reply i m status) by
      where
        by : (x : Bool) → is_some b.plan ≡ x → refusal room b (Reply i m status) ≡ cond x 22 20
        by true e = rw (e, no-initiator f i row rowed h)
        by false e = rw e

    module _ (low : row < 8) where
      there : is_some b.plan ≡ true
      there = plan-by-row f i row rowed low

      last-rows : refusal room b (Reply i m status) ≡ cond (not (is_some (b.side i).live)) 27 (cond (not (is_live_number m (b.side i).live)) 28 0)
      unfolding refusal refusals first_of no_plan
      last-rows = rw (there, is-initiator f i row rowed low)

      at : at_place row (initiators (the_plan b)) ≡ some i
      at = its-row f i row rowed low

      -- the reply's row, lent and back
      pub ends : (r : Answer) (size : ℕ) (part : List ℕ) → size ≡ 12
          → ((o : Owner) (s : Side) → FitSide s → take size (drop (row * 12) run) ≡ row_of o s → (r ≡ replied_answer m status s) × (part ≡ row_of o (replied_side m s)))
          → Gives r (take (row * 12) run ++ (part ++ drop size (drop (row * 12) run)))
      unfolding replied_answer replied_side accepts
      ends r size part twelve does =
          go (is_some (b.side i).live) refl (is_live_number m (b.side i).live) refl
          (on_row b run last f.runs i row at (replied_answer m status) (replied_side m) r size part f.fit low twelve (does (owner (the_plan b) i)))
        where
          go : (y : Bool) → is_some (b.side i).live ≡ y → (z : Bool) → is_live_number m (b.side i).live ≡ z
              → (r ≡ replied_answer m status (b.side i)) × (take (row * 12) run ++ (part ++ drop size (drop (row * 12) run)) ≡ rows_with (owner_of (the_plan b)) (changed row (replied_side m (b.side i)) (side_of (the_plan b) b.side)))
              → Gives r (take (row * 12) run ++ (part ++ drop size (drop (row * 12) run)))
          go false e z d h =
              let (a, n) = rw (e, replied_answer, no_number m (b.side i).live e, replied_side) at h in
              rw a (refuses room b w (Reply i m status) 27 refl (rw (last-rows, e)) _ last (runs-kept b run last f.runs i row at _ n))
          go true e false d h =
              let (a, n) = rw (e, d, replied_answer, replied_side) at h in
              rw a (refuses room b w (Reply i m status) 28 refl (rw (last-rows, e, d)) _ last (runs-kept b run last f.runs i row at _ n))
          go true e true d h =
              let (a, n) = rw (e, d, replied_answer, replied_side) at h in
              rw (step-accepted room b w (Reply i m status) (rw (last-rows, e, d)), a)
              (record { answer = refl; runs = runs-changed b run last f.runs i row at finish _ n })
