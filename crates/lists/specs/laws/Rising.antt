-- Lists whose keys rise: joined one behind the other, made of parts over rising numbers; and no key stands twice.
use Rattle.std.specs.Prelude.{◌≡◌, ◌⊎◌, Bool, cond, length}
use Rattle.std.proofs.Math.Path.{refl}
use Rattle.std.proofs.Common.{inl, inr}
use mathlib.Core.List.Memᴰ
use mathlib.Core.List.{List, [], ◌∷◌, ◌++◌, map, flat_map, Memᴰ}
use Rattle.std.proofs.Math.Bool.{true, false}
use Prim.Native.Nat.{ℕ, zero, suc, ◌+◌, ◌≤◌, ◌<◌}
use native.Mathlib.Omega.{arith}
use Rattle.lists.specs.Search.{keep, up_from}
use Rattle.lists.specs.laws.Bools.{cond_cases}
use Rattle.lists.specs.laws.Search.{keep-elim, keep-none, up_from-range}
use Rattle.lists.specs.Order.{Rising}

-- of the numbers one after another those that are kept rise
pub rising-kept : (t : ℕ → Bool) (k i : ℕ) → Rising (keep t (up_from k i))
unfolding keep up_from Rising
rising-kept t zero i = tt
rising-kept t (suc k) i =
    cond_cases Rising (t i) (i ∷ keep t (up_from k (suc i))) (keep t (up_from k (suc i)))
    (λ _. (λ y m. (up_from-range k (suc i) y (keep-elim t (up_from k (suc i)) y m).0).0, rising-kept t k (suc i))) (λ _. rising-kept t k (suc i))

module _ {A : Type 0} (key : A → ℕ) where
  -- the keys rise, from low on and below high
  pub record Ordered (low high : ℕ) (xs : List A) : Type 0 where
    pub rises : Rising (map key xs)
    pub range : (x : A) → Memᴰ x xs → (low ≤ key x) × (key x < high)

  none-ordered : (low high : ℕ) → Ordered low high []
  unfolding Rising
  none-ordered low high = record { rises = tt; range = λ x m. absurd (Memᴰ.not-nil m) }

  cons-ordered : (low high : ℕ) (x : A) (xs : List A) → low ≤ key x → key x < high → Ordered (suc (key x)) high xs → Ordered low high (x ∷ xs)
  unfolding Rising
  cons-ordered low high x xs l h o = record {
    rises = (λ y m. let (z, n, e) = Memᴰ.of_map key xs m in omega (arith, (o.range z n).0, e), o.rises);
    range = λ y m. by y (Memᴰ.cases_cons m);
  }
    where
      by : (y : A) → (y ≡ x) ⊎ Memᴰ y xs → (low ≤ key y) × (key y < high)
      by y (inl e) = rw e (l, h)
      by y (inr m) = (omega (arith, (o.range y m).0), (o.range y m).1)

  tail-ordered : (low high : ℕ) (x : A) (xs : List A) → Ordered low high (x ∷ xs) → Ordered (suc (key x)) high xs
  unfolding Rising
  tail-ordered low high x xs o = record {
    rises = o.rises.1;
    range = λ y m. (o.rises.0 (key y) (Memᴰ.map key m), (o.range y (Memᴰ.tail m)).1);
  }

  pub wider : (low high low' high' : ℕ) (xs : List A) → low' ≤ low → high ≤ high' → Ordered low high xs → Ordered low' high' xs
  wider low high low' high' xs l h o = record { rises = o.rises; range = λ x m. (omega (arith, (o.range x m).0), omega (arith, (o.range x m).1)) }

  pub append-ordered : (low middle high : ℕ) (xs ys : List A) → low ≤ middle → middle ≤ high → Ordered low middle xs → Ordered middle high ys → Ordered low high (xs ++ ys)
  append-ordered low middle high [] ys l h o p = wider middle high low high ys l (omega arith) p
  append-ordered low middle high (x ∷ xs) ys l h o p =
      let here = o.range x (Memᴰ.head refl) in
      cons-ordered low high x (xs ++ ys) here.0 (omega (arith, here.1)) (append-ordered (suc (key x)) middle high xs ys here.1 h (tail-ordered low middle x xs o) p)

  -- at most one element
  pub short-ordered : (low high : ℕ) (xs : List A) → length xs ≤ 1 → ((x : A) → Memᴰ x xs → (low ≤ key x) × (key x < high)) → Ordered low high xs
  short-ordered low high [] s r = none-ordered low high
  short-ordered low high (x ∷ []) s r = let h = r x (Memᴰ.head refl) in cons-ordered low high x [] h.0 h.1 (none-ordered (suc (key x)) high)
  short-ordered low high (x ∷ y ∷ xs) s r = absurd (omega arith)

  -- parts over rising numbers, each of at most one element, whose key is the number beyond a start
  pub flat-ordered : (f : ℕ → List A) (start high : ℕ) → ((n : ℕ) → length (f n) ≤ 1) → ((n : ℕ) (x : A) → Memᴰ x (f n) → key x ≡ start + n)
      → (low : ℕ) (ns : List ℕ) → Rising ns → ((n : ℕ) → Memᴰ n ns → (low ≤ n) × (n < high)) → low ≤ high → Ordered (start + low) (start + high) (flat_map f ns)
  unfolding flat_map Rising
  flat-ordered f start high short keys low [] r within l = none-ordered (start + low) (start + high)
  flat-ordered f start high short keys low (n ∷ ns) r within l =
      let here = within n (Memᴰ.head refl) in
      append-ordered (start + low) (start + suc n) (start + high) (f n) (flat_map f ns) (omega (arith, here.0)) (omega (arith, here.1))
      (short-ordered (start + low) (start + suc n) (f n) (short n) (λ x m. (omega (arith, keys n x m, here.0), omega (arith, keys n x m))))
      (flat-ordered f start high short keys (suc n) ns r.1 (λ m i. (r.0 m i, (within m (Memᴰ.tail i)).1)) here.1)

  -- of a list with rising keys at most one element has a given key
  pub once : (t : A → Bool) (n : ℕ) → ((x : A) → t x ≡ true → key x ≡ n) → (xs : List A) → Rising (map key xs) → length (keep t xs) ≤ 1
  unfolding keep Rising
  once t n same [] r = omega arith
  once t n same (x ∷ xs) r = go (once t n same xs r.1) (t x) refl
    where
      other : t x ≡ true → (y : A) → Memᴰ y xs → (a : Bool) → t y ≡ a → t y ≡ false
      other e y m false h = h
      other e y m true h = absurd (omega (arith, r.0 (key y) (Memᴰ.map key m), same x e, same y h))

      go : length (keep t xs) ≤ 1 → (a : Bool) → t x ≡ a → length (cond (t x) (x ∷ keep t xs) (keep t xs)) ≤ 1
      go ih true e = rw (e, keep-none t xs (λ y m. other e y m (t y) refl)) (omega arith)
      go ih false e = rw e ih
