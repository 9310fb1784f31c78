-- Lists all of whose items are one.
use Rattle.std.specs.Prelude.{◌≡◌, Bool, ◌&&◌, List, [], ◌∷◌, length, replicate, refl}
use Rattle.std.specs.Bool.{Decides}
use Rattle.std.specs.List.{list_all}
use Rattle.std.proofs.lemmas.Bool.Decides.{Decides-and, Decides-like}
use Rattle.lists.specs.laws.Answers.{it-is}

-- a test for z at every item decides whether the list is as many of z
pub all-one : {A : Type 0} (z : A) (p : A → Bool) → ((x : A) → Decides (p x) (x ≡ z)) → (xs : List A) → Decides (list_all p xs) (xs ≡ replicate (length xs) z)
all-one z p each [] = it-is refl
all-one z p each (x ∷ xs) = Decides-like (p x && list_all p xs) (λ b. cc (b.0, b.1)) (λ e. (cc e, cc e)) (Decides-and (p x) (list_all p xs) (each x) (all-one z p each xs))
