-- What stands at each place of a list that is filled up, and of a list whose elements are changed one by one.
use Rattle.std.specs.Prelude.{◌≡◌, refl, List, [], ◌∷◌, ◌++◌, map, ℕ, zero, suc, ◌-◌, ◌≤◌, get_or, take, drop, replicate}
use Rattle.std.proofs.Common.{ap, ◌∙◌, arith}
use Rattle.std.proofs.Math.Option.{none, some}
use Rattle.std.proofs.Math.ListN.{length}
use Rattle.std.proofs.lemmas.List.{length-map}
use Rattle.lists.specs.Place.{at_place}
use Rattle.lists.specs.Cells.{cells, padded}
use Rattle.lists.specs.laws.Cells.{cells_are, length-padded}

module _ {A : Type 0} where
  filled_at : (xs : List A) (m : ℕ) (d : A) (i : ℕ) → get_or (xs ++ replicate m d) i d ≡ get_or xs i d
  filled_at [] zero d i = refl
  filled_at [] (suc m) d zero = refl
  filled_at [] (suc m) d (suc i) = filled_at [] m d i
  filled_at (x ∷ xs) m d zero = refl
  filled_at (x ∷ xs) m d (suc i) = filled_at xs m d i

  -- beyond the list stands what it is filled up with
  pub padded-at : (n : ℕ) (d : A) (xs : List A) (i : ℕ) → get_or (padded n d xs) i d ≡ get_or xs i d
  unfolding padded
  padded-at n d xs i = filled_at xs (n - length xs) d i

-- a function on each element of the first k, and of those behind them
module _ {A B : Type 0} (f : A → B) where
  pub map-take : (k : ℕ) (xs : List A) → map f (take k xs) ≡ take k (map f xs)
  map-take zero xs = refl
  map-take (suc k) [] = refl
  map-take (suc k) (x ∷ xs) = ap (λ l. f x ∷ l) (map-take k xs)

  pub map-drop : (k : ℕ) (xs : List A) → map f (drop k xs) ≡ drop k (map f xs)
  map-drop zero xs = refl
  map-drop (suc k) [] = refl
  map-drop (suc k) (x ∷ xs) = map-drop k xs

-- cells that hold what f gives for the element at their place, or d
pub cells-padded : {A B : Type 0} (n : ℕ) (d : B) (f : A → B) (xs : List A) → length xs ≤ n
    → padded n d (map f xs) ≡ cells n (λ (r : ℕ). elim (at_place r xs) [ none ↦ d | some x ↦ f x ])
unfolding at_place
cells-padded {A} {B} n d f xs h = cells_are n _ d (padded n d (map f xs)) (length-padded n d (map f xs) (omega (arith, length-map xs f))) (λ r l. padded-at n d (map f xs) r ∙ at xs r)
  where
    at : (ys : List A) (r : ℕ) → get_or (map f ys) r d ≡ elim (at_place r ys) [ none ↦ d | some x ↦ f x ]
    at [] r = refl
    at (y ∷ ys) zero = refl
    at (y ∷ ys) (suc r) = at ys r
