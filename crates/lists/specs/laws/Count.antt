-- How long a list is that is made of parts, and what a length says of being empty.
use Rattle.std.specs.Prelude.{◌≡◌, refl, ◌≢◌, ◌↔◌, Bool, true, false, ℕ, ◌*◌, ◌≤◌, length}
use mathlib.Core.List.{List, [], ◌∷◌, cons≢nil, flat_map}
use native.Mathlib.Omega.{arith}
use Rattle.std.proofs.Math.Nat.{mul-suc, mul-zero}
use Rattle.std.proofs.Math.ListN.{length-append}
use Rattle.lists.specs.Search.{only}

module _ {A B : Type 0} (f : A → List B) where
  -- all parts have the same length
  pub parts-length : (n : ℕ) → ((x : A) → length (f x) ≡ n) → (xs : List A) → length (flat_map f xs) ≡ n * length xs
  unfolding flat_map
  parts-length n h [] = omega (arith, mul-zero n)
  parts-length n h (x ∷ xs) = omega (arith, length-append (f x) (flat_map f xs), h x, parts-length n h xs, mul-suc n (length xs))

  -- no part has more than one element
  pub parts-short : ((x : A) → length (f x) ≤ 1) → (xs : List A) → length (flat_map f xs) ≤ length xs
  unfolding flat_map
  parts-short h [] = omega arith
  parts-short h (x ∷ xs) = omega (arith, length-append (f x) (flat_map f xs), h x, parts-short h xs)

pub only-short : {A : Type 0} (b : Bool) (x : A) → length (only b x) ≤ 1
unfolding only
only-short true x = omega arith
only-short false x = omega arith

pub none-counted : {A : Type 0} (xs : List A) → length xs ≡ 0 → xs ≡ []
none-counted [] e = refl
none-counted (x ∷ xs) e = absurd (omega (arith, e))

pub some-counted : {A : Type 0} (xs : List A) → (xs ≢ []) ↔ (1 ≤ length xs)
some-counted [] = (λ h. absurd (h refl), λ h. absurd (omega (arith, h)))
some-counted (x ∷ xs) = (λ h. omega arith, λ h. cons≢nil)
