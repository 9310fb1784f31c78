-- A path: what is asked of memory before it is judged, and what the arrays hold once it is kept.
use Rattle.std.specs.Prelude.{◌≡◌, ℕ, ◌+◌, ◌*◌, ◌≤◌, ◌<◌, List, Bool, false, ◌||◌, set, leb}
use Rattle.lists.specs.Insert.{put_in}
use Rattle.bitsets.specs.Set.{packed, added, member}
use Rattle.rules_plan.specs.Plan.{nth, Route}
use Rattle.memory_plan.specs.Memory.{path_row}
use Rattle.memory_plan.specs.Rows.{row_among}
use Rattle.load_path_places.specs.Places.{own_row, with_row, with_count}

-- a path from i to t, which rows 7 and 9 ask of by memory: its initiator's row, whether that reaches the target, and whether one path more is too many
pub record PathAsked (rows reach numbers : List ℕ) (i t start end place : ℕ) (again many alone : Bool) : Type 0 where
  pub from : start ≡ i
  pub to : end ≡ t
  pub row : place ≡ row_among rows (nth numbers 2) i
  pub reached : (8 ≤ place → again ≡ false) × (place < 8 → again ≡ member t (nth reach place))
  pub counted : many ≡ (leb 8 place || leb 128 (nth numbers 3))
  pub no-reply : alone ≡ false

-- with the path: its target in the reach of its row, its eleven bytes at the place m, one path more
unfoldable pub kept_reach : List ℕ → List ℕ → ℕ → Route → List ℕ
kept_reach rows reach count x =
    let r = own_row rows count x.start in
    let own = with_row rows count x.start 0 reach in
    set own r (packed (added x.end (nth own r)))

unfoldable pub kept_paths : List ℕ → ℕ → ℕ → Route → List ℕ
kept_paths paths count m x = put_in (m * 11) (count * 11) (path_row x) paths

unfoldable pub kept_numbers : List ℕ → List ℕ → ℕ → List ℕ
kept_numbers rows numbers i = set (with_count rows numbers i) 3 (nth numbers 3 + 1)
