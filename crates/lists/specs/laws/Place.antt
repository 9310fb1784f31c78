-- Laws of places in a list: what the first search finds, and where an element stands once one more has come or one has left.
use Rattle.std.specs.Prelude.{◌≡◌, ◌≢◌, ◌⊎◌, Bool, cond, length, ltb}
use Rattle.std.proofs.Math.Path.{refl, sym, ap}
use Rattle.std.proofs.Common.{inl, inr, ltb-true, ltb-false}
use mathlib.Core.List.Memᴰ
use mathlib.Core.List.{List, [], ◌∷◌, ◌++◌, Memᴰ}
use Rattle.std.proofs.Math.Option.{Option, none, some}
use Rattle.std.proofs.Math.Bool.{true, false}
use Prim.Native.Nat.{ℕ, zero, suc, ◌-◌, ◌≤◌, ◌<◌}
use native.Mathlib.Omega.{arith}
use Rattle.lists.specs.Place.{Found, further, first, at_place, without}
use Rattle.lists.specs.laws.Bools.{cond_cases, none-some, some-some}

module _ {A : Type 0} where
  -- what is found one further
  further-some : (o : Option (Found A)) (g : Found A) → further o ≡ some g → (f : Found A) × (o ≡ some f) × (g.place ≡ suc f.place) × (g.what ≡ f.what)
  unfolding further
  further-some none g h = none-some h
  further-some (some f) g h = let e = sym (some-some h) in (f, refl, ap (λ (x : Found A). x.place) e, ap (λ (x : Found A). x.what) e)

  module _ (t : A → Bool) where
    -- what the first search finds passes, and stands at its place
    pub first_some_lem : (xs : List A) (f : Found A) → first t xs ≡ some f → (at_place f.place xs ≡ some f.what) × (t f.what ≡ true)
    unfolding first at_place
    first_some_lem [] f h = none-some h
    first_some_lem (x ∷ xs) f h = go (first_some_lem xs) (t x) refl
      where
        go : ((g : Found A) → first t xs ≡ some g → (at_place g.place xs ≡ some g.what) × (t g.what ≡ true)) → (b : Bool) → t x ≡ b
            → (at_place f.place (x ∷ xs) ≡ some f.what) × (t f.what ≡ true)
        go ih true e = let k = some-some (rw (e, first) at h) in rw (← k) (refl, e)
        go ih false e = on (further-some (first t xs) f (rw (e, first) at h))
          where
            on : (g : Found A) × (first t xs ≡ some g) × (f.place ≡ suc g.place) × (f.what ≡ g.what) → (at_place f.place (x ∷ xs) ≡ some f.what) × (t f.what ≡ true)
            on r = rw (r.2, r.3) (ih r.0 r.1)

    -- an element that passes: the first search finds one no further back
    pub first-has : (xs : List A) (k : ℕ) (x : A) → at_place k xs ≡ some x → t x ≡ true → (f : Found A) × (first t xs ≡ some f) × (f.place ≤ k)
    unfolding first at_place further
    first-has [] k x h e = none-some h
    first-has (y ∷ ys) zero x h e = let q : t y ≡ true = rw (some-some h) e in (record { place = 0; what = y }, rw (q, first), omega arith)
    first-has (y ∷ ys) (suc k) x h e = go (first-has ys k x h e) (t y) refl
      where
        go : (f : Found A) × (first t ys ≡ some f) × (f.place ≤ k) → (b : Bool) → t y ≡ b → (f : Found A) × (first t (y ∷ ys) ≡ some f) × (f.place ≤ suc k)
        go ih true q = (record { place = 0; what = y }, rw (q, first), omega arith)
        go ih false q = (record { place = suc ih.0.place; what = ih.0.what }, rw (q, first, ih.1), omega (arith, ih.2))

  -- one leaves: those before it keep their places, those behind move up
  without-before : (xs : List A) (n k : ℕ) (x : A) → at_place k xs ≡ some x → k < n → at_place k (without n xs) ≡ some x
  unfolding at_place without
  without-before [] n k x h l = h
  without-before (y ∷ ys) zero k x h l = absurd (omega arith)
  without-before (y ∷ ys) (suc n) zero x h l = h
  without-before (y ∷ ys) (suc n) (suc k) x h l = without-before ys n k x h (omega arith)

  without-behind : (xs : List A) (n k : ℕ) (x : A) → at_place (suc k) xs ≡ some x → n ≤ k → at_place k (without n xs) ≡ some x
  unfolding at_place without
  without-behind [] n k x h l = none-some h
  without-behind (y ∷ ys) zero k x h l = h
  without-behind (y ∷ ys) (suc n) zero x h l = absurd (omega arith)
  without-behind (y ∷ ys) (suc n) (suc k) x h l = without-behind ys n k x h (omega arith)

  pub at-without : (xs : List A) (n k : ℕ) (x : A) → at_place k xs ≡ some x → n ≢ k → at_place (cond (ltb n k) (k - 1) k) (without n xs) ≡ some x
  at-without xs n k x h d = cond_cases (λ (j : ℕ). at_place j (without n xs) ≡ some x) (ltb n k) (k - 1) k
      (λ b. let l = ltb-true n k b in let e : k ≡ suc (k - 1) = omega arith in without-behind xs n (k - 1) x (rw e at h) (omega arith))
      (λ b. without-before xs n k x h (omega (arith, ltb-false n k b)))

  -- more come behind: all keep their places, and the next stands at the old end
  pub at-append : (xs ys : List A) (k : ℕ) (x : A) → at_place k xs ≡ some x → at_place k (xs ++ ys) ≡ some x
  unfolding at_place
  at-append [] ys k x h = none-some h
  at-append (z ∷ zs) ys zero x h = h
  at-append (z ∷ zs) ys (suc k) x h = at-append zs ys k x h

  pub at-seam : (xs : List A) (x : A) (ys : List A) → at_place (length xs) (xs ++ (x ∷ ys)) ≡ some x
  unfolding at_place
  at-seam [] x ys = refl
  at-seam (z ∷ zs) x ys = at-seam zs x ys

  pub at-end : (xs : List A) (x : A) → at_place (length xs) (xs ++ (x ∷ [])) ≡ some x
  at-end xs x = at-seam xs x []

  -- what is left was in the list, and is no longer
  pub without-member : (xs : List A) (k : ℕ) (x : A) → Memᴰ x (without k xs) → Memᴰ x xs
  unfolding without
  without-member [] k x m = m
  without-member (y ∷ ys) zero x m = Memᴰ.tail m
  without-member (y ∷ ys) (suc k) x m = go (Memᴰ.cases_cons m) (without-member ys k x)
    where
      go : (x ≡ y) ⊎ Memᴰ x (without k ys) → (Memᴰ x (without k ys) → Memᴰ x ys) → Memᴰ x (y ∷ ys)
      go (inl e) ih = Memᴰ.head e
      go (inr n) ih = Memᴰ.tail (ih n)

  pub without-short : (xs : List A) (k : ℕ) → length (without k xs) ≤ length xs
  unfolding without
  without-short [] k = omega arith
  without-short (y ∷ ys) zero = omega arith
  without-short (y ∷ ys) (suc k) = omega (arith, without-short ys k)
