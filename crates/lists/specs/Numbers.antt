-- Searches and counts through the numbers below a bound, over any test.
use Rattle.std.specs.Prelude.{ℕ, zero, suc, ◌+◌, Bool, true, false}

-- Some number below n passes the test.
unfoldable pub any_below : ℕ → (ℕ → Bool) → Bool
any_below zero p = false
any_below (suc n) p = elim (p n) [ true ↦ true | false ↦ any_below n p ]

-- The binary digit that says whether a test is passed.
unfoldable pub digit : Bool → ℕ
digit true = 1
digit false = 0

-- How many numbers below n pass the test.
unfoldable pub count_below : ℕ → (ℕ → Bool) → ℕ
count_below zero p = 0
count_below (suc n) p = digit (p n) + count_below n p

-- The least of the n numbers from k on that passes the test; k + n where none does.
unfoldable pub first_from : ℕ → ℕ → (ℕ → Bool) → ℕ
first_from zero k p = k
first_from (suc n) k p = elim (p k) [ true ↦ k | false ↦ first_from n (suc k) p ]
