-- Lists of a fixed length: cells given by their index, and a list filled up to a length.
use Rattle.std.specs.Prelude.{ℕ, ◌-◌, List, ◌++◌, map, length, replicate}
use Rattle.lists.specs.Search.{up_from}

module _ {A : Type 0} where
  -- f 0, f 1, .. f (n - 1)
  unfoldable pub cells : ℕ → (ℕ → A) → List A
  cells n f = map f (up_from n 0)

  -- the list, filled up with d to n places
  unfoldable pub padded : ℕ → A → List A → List A
  padded n d xs = xs ++ replicate (n - length xs) d
