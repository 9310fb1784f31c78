-- Something put into a list of a fixed length, of which the first n places are in use: what stands behind it moves up.
use Rattle.std.specs.Prelude.{ℕ, zero, suc, ◌+◌, ◌-◌, List, ◌++◌, Bool, cond, length, take, drop}

module _ {A : Type 0} where
  -- the elements from k to n stand w places further on too
  unfoldable pub moved : ℕ → ℕ → ℕ → List A → List A
  moved w k n xs = take (k + w) xs ++ (take (n - k) (drop k xs) ++ drop (n + w) xs)

  -- vs at k, and the elements from k to n behind it
  unfoldable pub put_in : ℕ → ℕ → List A → List A → List A
  put_in k n vs xs = take k xs ++ (vs ++ (take (n - k) (drop k xs) ++ drop (n + length vs) xs))

-- one more than the greatest number below n that passes the test; 0 where none does
unfoldable pub past_last : ℕ → (ℕ → Bool) → ℕ
past_last zero t = 0
past_last (suc n) t = cond (t n) (suc n) (past_last n t)
