-- Laws of what a search finds where at most one element passes, and of what is read off it; a member has a place.
use Rattle.std.specs.Prelude.{◌≡◌, refl, Bool, true, ℕ, suc, ◌≤◌, ◌<◌, length}
use Rattle.std.proofs.Common.{sym, ◌∙◌, arith}
use mathlib.Core.List.Memᴰ
use mathlib.Core.List.{List, [], ◌∷◌, Memᴰ}
use Rattle.std.proofs.Math.Option.{Option, none, some, map}
use Rattle.lists.specs.Search.{keep, find}
use Rattle.lists.specs.Place.{at_place}
use Rattle.lists.specs.Order.{Shuffled}
use Rattle.lists.specs.laws.Bools.{none-some, some-some}
use Rattle.lists.specs.laws.Search.{find-some, find-has, keep-intro}
use Rattle.lists.specs.laws.Shuffle.{Respects, find-shuffled}

-- one reading of what is found, and of nothing
pub read_same : {A B : Type 0} (g : Option A → B) (o r : Option A) → map (λ (x : A). g (some x)) o ≡ map (λ (x : A). g (some x)) r → g o ≡ g r
read_same g none none e = refl
read_same g none (some y) e = none-some e
read_same g (some x) none e = none-some (sym e)
read_same g (some x) (some y) e = some-some e

-- lists that differ in their order only: what is read off the one element that passes is the same
pub read-shuffled : {A B : Type 0} {R : A → A → Type 0} (t : A → Bool) → Respects R t → (g : Option A → B) → Respects R (λ (x : A). g (some x)) → ((x : A) → R x x)
    → {xs ys : List A} → Shuffled R xs ys → length (keep t xs) ≤ 1 → g (find t xs) ≡ g (find t ys)
read-shuffled t c g d i {xs} {ys} s l = read_same g (find t xs) (find t ys) (find-shuffled t c (λ x. g (some x)) d i s l)

-- members of a list of one element at most are one
short-one : {A : Type 0} (xs : List A) (x y : A) → length xs ≤ 1 → Memᴰ x xs → Memᴰ y xs → x ≡ y
short-one [] x y l m n = absurd (Memᴰ.not-nil m)
short-one (z ∷ []) x y l m n = Memᴰ.eq_of_singleton m ∙ sym (Memᴰ.eq_of_singleton n)
short-one (z ∷ w ∷ zs) x y l m n = absurd (omega arith)

-- the one element that passes is the one that is found
pub find-one : {A : Type 0} (t : A → Bool) (xs : List A) (x : A) → length (keep t xs) ≤ 1 → Memᴰ x xs → t x ≡ true → find t xs ≡ some x
find-one t xs x l m e =
    let (y, f) = find-has t xs x m e in
    let (n, g) = find-some t xs y f in
    rw (short-one (keep t xs) x y l (keep-intro t xs x m e) (keep-intro t xs y n g)) f

-- a member stands at some place
pub place_of : {A : Type 0} (xs : List A) (x : A) → Memᴰ x xs → (k : ℕ) × (k < length xs) × (at_place k xs ≡ some x)
unfolding at_place
place_of {A = A} [] x x3 = elim x3 [ ]
place_of (y ∷ ys) x (Memᴰ.head e) = (0, omega arith, rw e)
place_of (y ∷ ys) x (Memᴰ.tail m) = let (k, l, e) = place_of ys x m in (suc k, omega arith, e)
