-- Where a path goes in memory, and where that of a pair stands: the row of its initiator, and its place among the paths.
use Rattle.std.specs.Prelude.{◌≡◌, ℕ, ◌+◌, ◌*◌, ◌≤◌, ◌<◌, List, [], ◌∷◌, Bool, true, false, ◌&&◌, ◌||◌, cond, set, ltb, eqb}
use Rattle.std.proofs.Math.Option.{some}
use Rattle.lists.specs.Insert.{put_in, past_last}
use Rattle.lists.specs.Place.{at_place}
use Rattle.rules_plan.specs.Plan.{nth, Route, Plan}
use Rattle.rules_plan.specs.Meaning.{has_path}
use Rattle.memory_plan.specs.Memory.{paths_in_order}
use Rattle.memory_plan.specs.Rows.{row_among}

-- where a row of i goes among the first count rows: behind the last with a smaller initiator
abbrev pub row_place : List ℕ → ℕ → ℕ → ℕ
row_place rows count i = past_last count (λ (k : ℕ). ltb (nth rows k) i)

-- i has no row yet
abbrev pub is_new : List ℕ → ℕ → ℕ → Bool
is_new rows count i = eqb (row_among rows count i) count

-- once i has its row: the row, an array of the rows, in which a new row holds v, and the numbers
unfoldable pub own_row : List ℕ → ℕ → ℕ → ℕ
own_row rows count i = cond (is_new rows count i) (row_place rows count i) (row_among rows count i)

unfoldable pub with_row : List ℕ → ℕ → ℕ → ℕ → List ℕ → List ℕ
with_row rows count i v xs = cond (is_new rows count i) (put_in (row_place rows count i) count (v ∷ []) xs) xs

unfoldable pub with_count : List ℕ → List ℕ → ℕ → List ℕ
with_count rows numbers i = cond (is_new rows (nth numbers 2) i) (set numbers 2 (nth numbers 2 + 1)) numbers

-- a path from i to t stands before one from j to u
unfoldable pub precedes : ℕ → ℕ → ℕ → ℕ → Bool
precedes i t j u = ltb i j || eqb i j && ltb t u

-- it stands before path k
abbrev pub precedes_at : List ℕ → ℕ → ℕ → ℕ → Bool
precedes_at paths i t k = precedes i t (nth paths (k * 11)) (nth paths (k * 11 + 1))

-- m is its place among the first count paths: it stands behind the first m and before the others
pub record IsPlace (paths : List ℕ) (count i t m : ℕ) : Type 0 where
  pub within : m ≤ count
  pub less : (k : ℕ) → k < m → precedes_at paths i t k ≡ false
  pub more : (k : ℕ) → m ≤ k → k < count → precedes_at paths i t k ≡ true

-- r is the place of the path from i to t, 128 where plan p has none
pub record PathAt (p : Plan) (i t r : ℕ) : Type 0 where
  pub found : r < 128 → (x : Route) × (at_place r (paths_in_order p) ≡ some x) × (x.start ≡ i) × (x.end ≡ t)
  pub missed : 128 ≤ r → has_path p i t ≡ false
