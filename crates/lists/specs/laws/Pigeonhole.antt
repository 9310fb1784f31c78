-- Counting: a list without repetitions is no longer than the list that its elements' keys come from.
use Rattle.std.specs.Prelude.{◌≡◌, Bool, true, false, not, eqb}
use Rattle.std.proofs.Math.Path.{refl}
use Rattle.std.proofs.Common.{◌∙◌, suc-mul, le_of_eq, arith, length-append, eq-eqb, ne_eqb}
use mathlib.Core.List.Memᴰ
use mathlib.Core.List.{List, [], ◌∷◌, map, flat_map, Memᴰ}
use Prim.Native.Nat.{ℕ, suc, ◌+◌, ◌*◌, ◌≤◌, ◌<◌}
use Rattle.std.proofs.Math.ListN.{length}
use Rattle.std.proofs.lemmas.List.{length-map}
use Rattle.lists.specs.Search.{any, keep, repeats, twice, below64}
use Rattle.lists.specs.laws.Bools.{neither, false-either, not-both, cond_cases}
use Rattle.lists.specs.laws.Search.{any_false, any_none, keep-short, keep-elim, keep-intro, in-below64, flat-intro}

module _ {A : Type 0} (t : A → Bool) where
  -- one element fails: fewer are kept
  pub keep-fewer : (xs : List A) (x : A) → Memᴰ x xs → t x ≡ false → length (keep t xs) < length xs
  unfolding keep
  keep-fewer [] x x4 h = elim x4 [ ]
  keep-fewer (y ∷ ys) x (Memᴰ.head e) h = rw (rw e at h) (omega (arith, keep-short t ys))
  keep-fewer (y ∷ ys) x (Memᴰ.tail m) h =
      let ih = keep-fewer ys x m h in
      cond_cases (λ (l : List A). length l < suc (length ys)) (t y) (y ∷ keep t ys) (keep t ys) (λ _. omega arith) (λ _. omega arith)

  pub keep-repeats : (same : A → A → Bool) (xs : List A) → repeats same xs ≡ false → repeats same (keep t xs) ≡ false
  unfolding repeats keep
  keep-repeats same [] h = refl
  keep-repeats same (x ∷ xs) h =
      let n = neither (any (same x) xs) (repeats same xs) h in
      let ih = keep-repeats same xs n.1 in
      cond_cases (λ (l : List A). repeats same l ≡ false) (t x) (x ∷ keep t xs) (keep t xs)
      (λ _. false-either (any_none (same x) (keep t xs) (λ y m. any_false (same x) xs y n.0 (keep-elim t xs y m).0)) ih) (λ _. ih)

-- the elements' keys are among ys, and elements with one key are the same: there are no more elements than ys
pub pigeonhole : {A : Type 0} (same : A → A → Bool) (key : A → ℕ) (xs : List A) (ys : List ℕ)
    → ((x y : A) → Memᴰ x xs → Memᴰ y xs → key x ≡ key y → same x y ≡ true)
    → ((x : A) → Memᴰ x xs → Memᴰ (key x) ys)
    → repeats same xs ≡ false → length xs ≤ length ys
unfolding repeats
pigeonhole same key [] ys k f h = omega arith
pigeonhole {A} same key (x ∷ xs) ys k f h =
    let n = neither (any (same x) xs) (repeats same xs) h in
    let ih = pigeonhole same key xs (keep other ys) (λ a b m o e. k a b (Memᴰ.tail m) (Memᴰ.tail o) e) (λ y m. apart y m n.0) n.1 in
    omega (arith, keep-fewer other ys (key x) (f x (Memᴰ.head refl)) mine)
  where
    other : ℕ → Bool
    other n = not (eqb (key x) n)

    mine : other (key x) ≡ false
    mine = rw (eq-eqb (key x) (key x) refl)

    apart : (y : A) → Memᴰ y xs → any (same x) xs ≡ false → Memᴰ (key y) (keep other ys)
    apart y m a = keep-intro other ys (key y) (f y (Memᴰ.tail m)) (rw (ne_eqb (key x) (key y) (λ e. not-both (k x y (Memᴰ.head refl) (Memᴰ.tail m) e) (any_false (same x) xs y a m))))

-- the same for numbers
pub fewer : (xs ys : List ℕ) → ((n : ℕ) → Memᴰ n xs → Memᴰ n ys) → twice xs ≡ false → length xs ≤ length ys
unfolding twice
fewer xs ys f h = pigeonhole eqb (λ (n : ℕ). n) xs ys (λ a b m o e. eq-eqb a b e) f h

-- a list made of parts
pub flat-most : {A B : Type 0} (f : A → List B) (most : ℕ) (xs : List A) → ((x : A) → Memᴰ x xs → length (f x) ≤ most) → length (flat_map f xs) ≤ length xs * most
unfolding flat_map
flat-most f most [] h = omega arith
flat-most f most (x ∷ xs) h = rw (length-append, suc-mul) (omega (arith, h x (Memᴰ.head refl), flat-most f most xs (λ y m. h y (Memᴰ.tail m))))

-- 0 to 63 are 64 numbers, each once
pub below64-length : length below64 ≡ 64
unfolding below64 Rattle.lists.specs.Search.up_from
below64-length = refl

pub below64-once : twice below64 ≡ false
unfolding twice repeats any below64 Rattle.lists.specs.Search.up_from
below64-once = refl

-- keys below 64
pub below64-most : {A : Type 0} (same : A → A → Bool) (key : A → ℕ) (xs : List A)
    → ((x y : A) → key x ≡ key y → same x y ≡ true)
    → ((x : A) → Memᴰ x xs → key x < 64)
    → repeats same xs ≡ false → length xs ≤ 64
below64-most same key xs k f h = rw below64-length at (pigeonhole same key xs below64 (λ x y _ _ e. k x y e) (λ x m. in-below64 (key x) (f x m)) h)

-- two keys, the first among ys and the second below 64
pub pairs-most : {A : Type 0} (same : A → A → Bool) (one two : A → ℕ) (xs : List A) (ys : List ℕ)
    → ((x y : A) → one x ≡ one y → two x ≡ two y → same x y ≡ true)
    → ((x : A) → Memᴰ x xs → Memᴰ (one x) ys)
    → ((x : A) → Memᴰ x xs → two x < 64)
    → repeats same xs ≡ false → length xs ≤ length ys * 64
pairs-most {A} same one two xs ys k f g h =
    omega (
      arith,
      pigeonhole same both xs pairs apart (λ x m. flat-intro row ys (one x) (both x) (f x m) (Memᴰ.map _ (in-below64 (two x) (g x m)))) h,
      flat-most row 64 ys (λ n _. le_of_eq (length-map below64 _ ∙ below64-length)),
    )
  where
    both : A → ℕ
    both x = one x * 64 + two x

    row : ℕ → List ℕ
    row n = map (λ (m : ℕ). n * 64 + m) below64

    pairs : List ℕ
    pairs = flat_map row ys

    apart : (x y : A) → Memᴰ x xs → Memᴰ y xs → both x ≡ both y → same x y ≡ true
    apart x y m n e = k x y (omega (arith, g x m, g y n)) (omega (arith, g x m, g y n))
