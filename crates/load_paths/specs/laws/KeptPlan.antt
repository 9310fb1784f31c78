-- Memory that holds a plan holds, once a path without a fault is kept, the plan with the path.
use Rattle.std.specs.Prelude.{◌≡◌, List, [], ℕ, ◌≤◌, length}
use Rattle.std.proofs.Common.{sym, ap, ◌∙◌}
use Rattle.lists.specs.laws.Cells.{length-padded}
use Rattle.rules_plan.specs.Plan.{nth, Route, Plan, path}
use Rattle.rules_plan.specs.laws.Fair.{Fair}
use Rattle.memory_plan.specs.Memory.{rows_of, reach_of, paths_of, numbers_with}
use Rattle.memory_plan.specs.laws.PathRows.{all-length}
use Rattle.memory_plan.specs.Take.{item_fault, taken}
use Rattle.load_paths.specs.Keep.{kept_reach, kept_paths, kept_numbers}
use Rattle.load_path_places.specs.Places.{IsPlace, with_row}
use Rattle.load_paths.specs.laws.Passed.{faultless, taken-grows}
use Rattle.load_paths.specs.laws.KeptRows.{rows-kept, numbers-kept}
use Rattle.load_paths.specs.laws.KeptReach.{reach-length, reach-kept}
use Rattle.load_paths.specs.laws.KeptPaths.{inserted-path, path-place, paths-kept}

-- the arrays have their lengths
module _ (p : Plan) (f : Fair p) where
  pub rows-length : length (rows_of p) ≡ 8
  unfolding rows_of
  rows-length = length-padded 8 0 _ f.lists.paths.eight

  pub paths-length : length (paths_of p) ≡ 2816
  paths-length = all-length p f.lengths f.ranges f.lists.paths.most

-- what keeping a path leaves in the arrays
abbrev pub Kept : List ℕ → List ℕ → List ℕ → List ℕ → Route → List ℕ → List ℕ → List ℕ → List ℕ → Type 0
Kept rows reach paths numbers x rows' reach' paths' numbers' =
    (rows' ≡ with_row rows (nth numbers 2) x.start x.start rows)
    × (reach' ≡ kept_reach rows reach (nth numbers 2) x)
    × ((m : ℕ) → IsPlace paths (nth numbers 3) x.start x.end m → paths' ≡ kept_paths paths (nth numbers 3) m x)
    × (numbers' ≡ kept_numbers rows numbers x.start)

pub kept-plan : (size : ℕ) (p : Plan) → Fair p → (x : Route) → 0 ≡ item_fault p (path x) → length x.links ≤ 8
    → {rows reach paths numbers rows' reach' paths' numbers' : List ℕ} → rows ≡ rows_of p → reach ≡ reach_of p → paths ≡ paths_of p → numbers ≡ numbers_with size p → p.times ≡ [] → p.replies ≡ []
    → (length rows ≡ 8 → length reach ≡ 8 → length paths ≡ 2816 → Kept rows reach paths numbers x rows' reach' paths' numbers')
    → (0 ≡ item_fault p (path x))
    × (rows' ≡ rows_of (taken p (path x)))
    × (reach' ≡ reach_of (taken p (path x)))
    × (paths' ≡ paths_of (taken p (path x)))
    × (numbers' ≡ numbers_with size (taken p (path x)))
unfolding numbers_with
kept-plan size p f x z l a b c d none_yet no-reply h =
    let g = faultless p (path x) (sym z) in
    let k = h (ap length a ∙ rows-length p f) (ap length b ∙ reach-length p) (ap length c ∙ paths-length p f) in
    rw (taken-grows p (path x) (sym z)) (
      z,
      k.0 ∙ (rw (a, d) (rows-kept p f x g)),
      k.1 ∙ (rw (a, b, d) (reach-kept p f x g)),
      k.2 (inserted-path p f x g).place (rw (c, d) (path-place p f x g)) ∙ (rw (c, d) (paths-kept p f x g no-reply l)),
      k.3 ∙ (rw (a, d) (numbers-kept p f x g none_yet size)),
    )
