-- Places in a list: the first element that passes, with its place, and the list without the element at a place.
use Rattle.std.specs.Prelude.{ℕ, zero, suc, List, [], ◌∷◌, Bool, true, false}
use Rattle.std.proofs.Math.Option.{Option, none, some}

-- an element of a list, and how many stand before it
pub record Found (A : Type 0) : Type 0 where
  pub place : ℕ
  pub what : A

module _ {A : Type 0} where
  unfoldable pub further : Option (Found A) → Option (Found A)
  further none = none
  further (some f) = some (record { place = suc f.place; what = f.what })

  -- the first that passes
  unfoldable pub first : (A → Bool) → List A → Option (Found A)
  first t [] = none
  first t (x ∷ xs) = elim (t x) [ true ↦ some (record { place = 0; what = x }) | false ↦ further (first t xs) ]

  -- the element at place k
  unfoldable pub at_place : ℕ → List A → Option A
  at_place k [] = none
  at_place zero (x ∷ xs) = some x
  at_place (suc k) (x ∷ xs) = at_place k xs

  -- the list without it: those behind move up
  unfoldable pub without : ℕ → List A → List A
  without k [] = []
  without zero (x ∷ xs) = xs
  without (suc k) (x ∷ xs) = x ∷ without k xs
