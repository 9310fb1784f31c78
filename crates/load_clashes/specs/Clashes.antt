-- Two sets of links compared.
use Rattle.std.specs.Prelude.{List, Bool, not, ℕ, get_or}
use Rattle.lists.specs.Numbers.{first_from}
use Rattle.bitsets.specs.Set.{common, disjoint_of}

-- the sets of two rows have a link in common
unfoldable pub meets : List ℕ → ℕ → ℕ → Bool
meets lanes i j = not (disjoint_of (get_or lanes i 0) (get_or lanes j 0))

-- the least link that two sets have in common; 64 for none
unfoldable pub least_common : ℕ → ℕ → ℕ
least_common a b = first_from 64 0 (common a b)
