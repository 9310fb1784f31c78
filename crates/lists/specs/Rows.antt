-- A table as rows: a number, and whether it is to be given. The first row that holds decides.
-- The laws look a row up by its number, so that a new row breaks no proof.
use Rattle.std.specs.Prelude.{List, [], ◌∷◌, Bool, false, cond, ℕ, eqb}

abbrev pub Row : Type 0
Row = ℕ × Bool

-- the number of the first row that holds; 0 where none does
unfoldable pub first_of : List Row → ℕ
first_of [] = 0
first_of (r ∷ rs) = cond r.1 r.0 (first_of rs)

-- the test of the row with number n
unfoldable pub test_of : ℕ → List Row → Bool
test_of n [] = false
test_of n (r ∷ rs) = cond (eqb r.0 n) r.1 (test_of n rs)
