-- A row once what is live has ended.
use mathlib.Core.Path.{◌≡◌}
use mathlib.Core.List.{List}
use Prim.Native.Nat.{ℕ}
use Rattle.memory_plan.specs.View.{Owner}
use lib.ListN.{set}
use Rattle.rules_box.specs.State.{Side}
use Rattle.rules_box.specs.Turn.{finish}
use Rattle.rules_box.specs.laws.Fit.{FitSide}
use Rattle.memory_run.specs.Run.{live_word, live_time, row_of}
use Rattle.memory_run.specs.laws.RowWords.{live-set}

module _ (i : Owner) (s : Side) (f : FitSide s) (row : List ℕ) (is : row ≡ row_of i s) where
  pub finished : set (set row 10 0) 11 0 ≡ row_of i (finish s)
  unfolding row_of finish live_word live_time
  finished = live-set i s f row is 0 0
