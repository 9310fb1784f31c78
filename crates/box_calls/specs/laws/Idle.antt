-- Run memory where nothing waits, nothing is live, and no time-code was seen: all 0, whatever the plan.
use Rattle.std.specs.Prelude.{◌≡◌, refl, ℕ, replicate}
use Rattle.std.proofs.Common.{ap, ◌∙◌}
use Rattle.std.proofs.Math.Path.{fun_ext}
use mathlib.Core.List.{flat_map}
use Rattle.std.proofs.Math.Option.{Option, none, some}
use Rattle.lists.specs.Search.{up_from}
use Rattle.lists.specs.Place.{at_place}
use Rattle.lists.specs.Cells.{padded}
use Rattle.rules_plan.specs.Plan.{Plan}
use Rattle.rules_plan.specs.Meaning.{initiators}
use Rattle.memory_plan.specs.View.{Owner, owner_of}
use Rattle.rules_box.specs.State.{idle}
use Rattle.memory_run.specs.Run.{live_word, live_time, row_of, side_of, rows_with, run_of}

all-idle : (n : ℕ → Owner) → rows_with n (λ r. idle) ≡ replicate 96 0
unfolding rows_with row_of idle live_word live_time padded up_from flat_map
all-idle n = refl

pub idle-run : (p : Plan) → run_of p (λ i. idle) ≡ replicate 96 0
unfolding run_of side_of
idle-run p = ap (rows_with (owner_of p)) (fun_ext (λ r. go (at_place r (initiators p)))) ∙ all-idle (owner_of p)
  where
    go : (o : Option ℕ) → elim o [ none ↦ idle | some i ↦ idle ] ≡ idle
    go none = refl
    go (some i) = refl
