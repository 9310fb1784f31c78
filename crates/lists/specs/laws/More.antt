-- Laws of a list with one more at its end: a test that some element passes, and the first that passes; and of tests that agree.
use Rattle.std.specs.Prelude.{◌≡◌, refl, Bool, true, false, ◌||◌}
use Rattle.std.proofs.Math.Path.{ap}
use Rattle.std.proofs.Common.{◌∙◌}
use mathlib.Core.List.{List, [], ◌∷◌, ◌++◌, Memᴰ}
use Rattle.std.proofs.Math.Option.{some}
use Rattle.std.proofs.Math.Bool.{or-false}
use Rattle.lists.specs.Search.{any, all, find}
use Rattle.lists.specs.laws.Bools.{neither}
use Rattle.lists.specs.laws.Search.{any_append}

-- every member passes the one test where it passes the other
pub all_same : {A : Type 0} (t u : A → Bool) (xs : List A) → ((x : A) → Memᴰ x xs → t x ≡ u x) → all t xs ≡ all u xs
unfolding all
all_same t u [] h = refl
all_same t u (x ∷ xs) h = rw (h x (Memᴰ.head refl), all_same t u xs (λ y m. h y (Memᴰ.tail m)))

module _ {A : Type 0} (t : A → Bool) where
  pub any-more : (xs : List A) (y : A) → any t (xs ++ (y ∷ [])) ≡ any t xs || t y
  unfolding any
  any-more xs y = any_append t xs (y ∷ []) ∙ ap (λ (b : Bool). any t xs || b) (or-false (t y))

  -- it passes, and none before it does: it is found
  pub find-more : (xs : List A) (y : A) → any t xs ≡ false → t y ≡ true → find t (xs ++ (y ∷ [])) ≡ some y
  unfolding any find
  find-more [] y n e = rw e
  find-more (x ∷ xs) y n e = let m = neither (t x) (any t xs) n in rw m.0 (find-more xs y m.1 e)

  -- it does not pass: what was found is found
  pub find-same : (xs : List A) (y : A) → t y ≡ false → find t (xs ++ (y ∷ [])) ≡ find t xs
  unfolding find
  find-same [] y e = rw e
  find-same (x ∷ xs) y e = rw (find-same xs y e)
