-- Bytes put into a lent buffer by code that stores nothing beyond its end.
use Rattle.std.specs.Prelude.{List, ℕ, ◌+◌, ◌≤◌, length}
use Rattle.lists.specs.Stores.{Put}

-- where ys has room from place i on, after is before with ys stored there, and k is the next place
pub record Puts (before : List ℕ) (i : ℕ) (ys after : List ℕ) (k : ℕ) : Type 0 where
  pub fitting : i + length ys ≤ length before → Put before i ys after k
