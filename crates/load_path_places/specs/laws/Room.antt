-- Room made in a list by a copy within it.
use Rattle.std.specs.Prelude.{◌≡◌, List, ℕ, ◌+◌, ◌-◌, ◌≤◌}
use Rattle.std.proofs.Common.{append_assoc, arith}
use Rattle.std.specs.List.{copy_within}
use Rattle.lists.specs.Insert.{moved}

module _ {A : Type 0} where
  -- the elements from k to n copied to w places further on
  pub copied-moved : (w k n at : ℕ) (xs : List A) → at ≡ k + w → k ≤ n → copy_within xs k n at ≡ moved w k n xs
  unfolding moved
  copied-moved w k n at xs e h = let f : k + w + (n - k) ≡ n + w = omega arith in rw (e, f) (simp append_assoc)
