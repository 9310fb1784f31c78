-- The numbers of an answer line.
use Rattle.std.specs.Prelude.{List, [], ◌∷◌, ◌++◌, ℕ}
use Rattle.rules_plan.specs.Print.{decimal, numbers}

-- numbers with one space between
unfoldable pub in_row : List ℕ → List ℕ
in_row [] = []
in_row (n ∷ ns) = decimal n ++ numbers ns
