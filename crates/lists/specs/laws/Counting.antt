-- How many numbers below a bound pass a test: as many as there are elements, where the test asks for their keys and no key comes twice.
use Rattle.std.specs.Prelude.{◌≡◌, refl, Bool, true, false, ◌||◌, ℕ, zero, suc, ◌+◌, ◌<◌, length, eqb}
use Rattle.std.proofs.Common.{ap, ◌∙◌, arith, eq-eqb, ne_eqb}
use mathlib.Core.List.{List, [], ◌∷◌, Memᴰ}
use Rattle.std.proofs.Math.Decide.{ℕ_discrete}
use Rattle.lists.specs.Search.{any, repeats}
use Rattle.lists.specs.Numbers.{digit, count_below}
use Rattle.lists.specs.laws.Bools.{neither, not-both}
use Rattle.lists.specs.laws.Search.{any_false, any_none}

-- tests that agree are passed by as many
pub count_same : (n : ℕ) (t u : ℕ → Bool) → ((k : ℕ) → k < n → t k ≡ u k) → count_below n t ≡ count_below n u
unfolding count_below
count_same zero t u h = refl
count_same (suc n) t u h = rw (h n (omega arith), count_same n t u (λ k l. h k (omega arith)))

count_none : (n : ℕ) → count_below n (λ (k : ℕ). false) ≡ 0
unfolding count_below digit
count_none zero = refl
count_none (suc n) = omega (arith, count_none n)

-- one number more passes
count-more : (n x : ℕ) (t : ℕ → Bool) → x < n → t x ≡ false → count_below n (λ (k : ℕ). eqb k x || t k) ≡ suc (count_below n t)
unfolding count_below digit
count-more zero x t h f = absurd (omega arith)
count-more (suc n) x t h f = go (count-more n x t) (ℕ_discrete n x)
  where
    go : (x < n → t x ≡ false → count_below n (λ (k : ℕ). eqb k x || t k) ≡ suc (count_below n t)) → Dec (n ≡ x)
        → digit (eqb n x || t n) + count_below n (λ (k : ℕ). eqb k x || t k) ≡ suc (digit (t n) + count_below n t)
    go ih (yes e) =
        let others = count_same n (λ (k : ℕ). eqb k x || t k) t (λ k l. rw (ne_eqb k x (omega arith))) in
        let mine : t n ≡ false = ap t e ∙ f in
        rw (eq-eqb n x e, mine, others) (omega arith)
    go ih (no e) = rw (ne_eqb n x e, ih (omega arith) f) (omega arith)

-- the numbers that are an element's key
pub count-keys : {A : Type 0} (same : A → A → Bool) (key : A → ℕ) (n : ℕ) (xs : List A)
    → ((x y : A) → key x ≡ key y → same x y ≡ true) → ((x : A) → Memᴰ x xs → key x < n)
    → repeats same xs ≡ false → count_below n (λ (k : ℕ). any (λ (x : A). eqb k (key x)) xs) ≡ length xs
unfolding any repeats
count-keys same key n [] k f h = count_none n
count-keys {A} same key n (x ∷ xs) k f h =
    let r = neither (any (same x) xs) (repeats same xs) h in
    count-more n (key x) _ (f x (Memᴰ.head refl)) (any_none _ xs (λ y m. apart y m r.0))
    ∙ ap suc (count-keys same key n xs k (λ y m. f y (Memᴰ.tail m)) r.1)
  where
    apart : (y : A) → Memᴰ y xs → any (same x) xs ≡ false → eqb (key x) (key y) ≡ false
    apart y m a = ne_eqb (key x) (key y) (λ e. not-both (k x y e) (any_false (same x) xs y a m))
