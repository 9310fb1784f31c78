-- Tests over lists, and searches through the numbers below 64: what the other definitions share.
-- They compute: a test answers true or false, a search gives what it finds first.
use Rattle.std.specs.Prelude.{ℕ, zero, suc, List, [], ◌∷◌, Bool, true, false, ◌&&◌, ◌||◌, cond, eqb}
use Rattle.std.proofs.Math.Option.{Option, none, some}

module _ {A : Type 0} where
  -- some element passes; every element passes
  unfoldable pub any : (A → Bool) → List A → Bool
  any t [] = false
  any t (x ∷ xs) = t x || any t xs

  unfoldable pub all : (A → Bool) → List A → Bool
  all t [] = true
  all t (x ∷ xs) = t x && all t xs

  -- the elements that pass, in their order
  unfoldable pub keep : (A → Bool) → List A → List A
  keep t [] = []
  keep t (x ∷ xs) = cond (t x) (x ∷ keep t xs) (keep t xs)

  -- the first element that passes
  unfoldable pub find : (A → Bool) → List A → Option A
  find t [] = none
  find t (x ∷ xs) = cond (t x) (some x) (find t xs)

  -- x where the test holds, else nothing: as a list, and as an answer
  unfoldable pub only : Bool → A → List A
  only true x = x ∷ []
  only false x = []

  unfoldable pub when : Bool → A → Option A
  when true x = some x
  when false x = none

  unfoldable pub is_some : Option A → Bool
  is_some none = false
  is_some (some x) = true

  -- the first answer that is one, or d
  unfoldable pub first_some : List (Option A) → A → A
  first_some [] d = d
  first_some (o ∷ os) d = elim o [ none ↦ first_some os d | some x ↦ x ]

  -- the first answer of f i, f (i + 1), .. (k of them)
  unfoldable pub seek : ℕ → ℕ → (ℕ → Option A) → Option A
  seek zero i f = none
  seek (suc k) i f = elim (f i) [ none ↦ seek k (suc i) f | some x ↦ some x ]

  -- the answer of f at the least number below 64 that has one
  unfoldable pub least : (ℕ → Option A) → Option A
  least f = seek 64 0 f

  -- some element stands before one that is the same
  unfoldable pub repeats : (A → A → Bool) → List A → Bool
  repeats same [] = false
  repeats same (x ∷ xs) = any (same x) xs || repeats same xs

unfoldable pub is_in : ℕ → List ℕ → Bool
is_in x = any (eqb x)

-- some number stands twice in the list
unfoldable pub twice : List ℕ → Bool
twice = repeats eqb

-- k numbers from i on
unfoldable pub up_from : ℕ → ℕ → List ℕ
up_from zero i = []
up_from (suc k) i = i ∷ up_from k (suc i)

-- 0 to 63
unfoldable pub below64 : List ℕ
below64 = up_from 64 0
