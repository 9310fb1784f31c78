-- Orders: a list brought into the order of a key by going through the numbers 0 to 63, lists that differ in their order only, and
-- numbers that rise.
use mathlib.Core.List.{List, [], ◌∷◌, flat_map, Memᴰ}
use Rattle.std.specs.Prelude.{ℕ, ◌<◌, eqb}
use Rattle.lists.specs.Search.{keep, below64}

module _ {A : Type 0} where
  -- for each number the elements with that key
  unfoldable pub in_order : (A → ℕ) → List A → List A
  in_order key xs = flat_map (λ (n : ℕ). keep (λ (x : A). eqb n (key x)) xs) below64

  -- the lists are the same up to their order and to the relation R between their elements
  pub data Shuffled (R : A → A → Type 0) : List A → List A → Type 0 where
    done : Shuffled R [] []
    next : {x y : A} {xs ys : List A} → R x y → Shuffled R xs ys → Shuffled R (x ∷ xs) (y ∷ ys)
    swap : (x y : A) (xs : List A) → Shuffled R (x ∷ y ∷ xs) (y ∷ x ∷ xs)
    then : {xs ys zs : List A} → Shuffled R xs ys → Shuffled R ys zs → Shuffled R xs zs

-- each number is smaller than those behind it
unfoldable pub Rising : List ℕ → Type 0
Rising [] = Unit {0}
Rising (x ∷ xs) = ((y : ℕ) → Memᴰ y xs → x < y) × Rising xs
