-- A number stands for a set of numbers: k is in the set s where the binary digit of s at the place k is 1.
-- The contracts cite these definitions, and each of them computes. Assumes nothing.
use Rattle.std.specs.Prelude.{ℕ, zero, suc, ◌+◌, ◌*◌, ◌/◌, ◌%◌, ◌^◌, Bool, not, ◌&&◌, ◌||◌, List, eqb, ltb}
use Rattle.lists.specs.Search.{is_in}
use Rattle.lists.specs.Numbers.{digit, any_below, count_below, first_from}

-- The number k is in the set s.
unfoldable pub member : ℕ → ℕ → Bool
member k s = eqb (s / 2 ^ k % 2) 1

-- The set s as a test of numbers, which is what the searches below take.
abbrev pub members : ℕ → ℕ → Bool
members s k = member k s

-- The number k is in the set of t alone. A number of 64 or more has no place in a word and is left out.
abbrev pub alone : ℕ → ℕ → Bool
alone t k = eqb k t && ltb k 64

-- The number k is in s once t is put in.
abbrev pub added : ℕ → ℕ → ℕ → Bool
added t s k = alone t k || member k s

-- The number k is in both sets.
abbrev pub common : ℕ → ℕ → ℕ → Bool
common a b k = member k a && member k b

-- The number k is in the set of a list's numbers. Those of 64 and more are left out.
abbrev pub listed : List ℕ → ℕ → Bool
listed xs k = is_in k xs && ltb k 64

-- No number is in both sets.
unfoldable pub disjoint_of : ℕ → ℕ → Bool
disjoint_of a b = not (any_below 64 (common a b))

-- The number k is in a but not in b.
abbrev pub only_in : ℕ → ℕ → ℕ → Bool
only_in a b k = member k a && not (member k b)

-- Every number of a is in b.
unfoldable pub within_of : ℕ → ℕ → Bool
within_of a b = not (any_below 64 (only_in a b))

-- The least member of a set, and 64 for the empty set.
unfoldable pub least_of : ℕ → ℕ
least_of s = first_from 64 0 (members s)

-- How many members a set has.
unfoldable pub size_of : ℕ → ℕ
size_of s = count_below 64 (members s)

-- The number whose digits below n say which numbers pass the test; and the set of all that pass.
unfoldable pub packed_below : ℕ → (ℕ → Bool) → ℕ
packed_below zero t = 0
packed_below (suc n) t = digit (t 0) + 2 * packed_below n (λ (k : ℕ). t (suc k))

unfoldable pub packed : (ℕ → Bool) → ℕ
packed t = packed_below 64 t
