-- Laws of the order by a key: it is a shuffle, and lists that differ in their order only come to one order where no key is there twice.
use Rattle.std.specs.Prelude.{◌≡◌, Bool, ◌&&◌, ◌||◌, length}
use Rattle.std.proofs.Math.Path.{refl, sym, ap, fun_ext}
use Rattle.std.proofs.Common.{◌∙◌, eqb-true, eq-eqb, ne_eqb}
use mathlib.Core.List.{List, [], ◌∷◌, ◌++◌, map, flat_map, map-append, map-id, Memᴰ}
use Rattle.std.proofs.Math.Bool.{true, false, cond, and_comm}
use Prim.Native.Nat.{ℕ, zero, suc, ◌+◌, ◌≤◌, ◌<◌}
use native.Mathlib.Omega.{arith}
use Rattle.std.proofs.Math.Dec.{eqb}
use Rattle.std.proofs.lemmas.Bool.{eqb-false}
use Rattle.lists.specs.Search.{any, keep, only, repeats, is_in, twice, up_from, below64}
use Rattle.lists.specs.Order.{in_order, Shuffled, done, next, then}
use Rattle.lists.specs.laws.Bools.{both_true, true-both, neither, not-both, eqb-sym}
use Rattle.lists.specs.laws.Search.{any_false, keep_append, keep-none, keep_same, up_from-range}
use Rattle.lists.specs.laws.Shuffle.{Respects, eq-respects, each-shuffled, shuffled-refl, shuffled-behind, shuffled-middle, keep-shuffled, short-shuffled, repeats-shuffled}

one_number : (n a b : ℕ) → eqb n a ≡ true → eqb n b ≡ true → eqb a b ≡ true
one_number n a b e f = eq-eqb a b (sym (eqb-true n a e) ∙ eqb-true n b f)

-- lists made of parts
module _ {A B : Type 0} where
  pub flat-same : (f g : A → List B) (xs : List A) → ((x : A) → Memᴰ x xs → f x ≡ g x) → flat_map f xs ≡ flat_map g xs
  unfolding flat_map
  flat-same f g [] h = refl
  flat-same f g (x ∷ xs) h = rw (h x (Memᴰ.head refl), flat-same f g xs (λ y m. h y (Memᴰ.tail m)))

  pub map-flat : {C : Type 0} (h : B → C) (g : A → List B) (xs : List A) → map h (flat_map g xs) ≡ flat_map (λ (x : A). map h (g x)) xs
  unfolding flat_map
  map-flat h g [] = refl
  map-flat h g (x ∷ xs) = map-append h (g x) (flat_map g xs) ∙ ap (λ l. map h (g x) ++ l) (map-flat h g xs)

  pub keep-flat : (t : B → Bool) (g : A → List B) (xs : List A) → keep t (flat_map g xs) ≡ flat_map (λ (x : A). keep t (g x)) xs
  unfolding flat_map keep
  keep-flat t g [] = refl
  keep-flat t g (x ∷ xs) = keep_append t (g x) (flat_map g xs) ∙ ap (λ l. keep t (g x) ++ l) (keep-flat t g xs)

module _ {A : Type 0} where
  pub flat-only : (t : A → Bool) (xs : List A) → flat_map (λ (x : A). only (t x) x) xs ≡ keep t xs
  unfolding flat_map keep only
  flat-only t [] = refl
  flat-only t (x ∷ xs) = rw (flat-only t xs) (go (t x))
    where
      go : (b : Bool) → only b x ++ keep t xs ≡ cond b (x ∷ keep t xs) (keep t xs)
      go true = refl
      go false = refl

  pub keep-both : (t u : A → Bool) (xs : List A) → keep u (keep t xs) ≡ keep (λ (x : A). t x && u x) xs
  unfolding keep
  keep-both t u [] = refl
  keep-both t u (x ∷ xs) = go (t x) (keep-both t u xs)
    where
      go : (b : Bool) → keep u (keep t xs) ≡ keep (λ (y : A). t y && u y) xs
          → keep u (cond b (x ∷ keep t xs) (keep t xs)) ≡ cond (b && u x) (x ∷ keep (λ (y : A). t y && u y) xs) (keep (λ (y : A). t y && u y) xs)
      go true e = rw e
      go false e = e

  -- at most one passes a test that holds for the same only, where none stands before one that is the same
  pub keep_one : (same : A → A → Bool) (t : A → Bool) → ((x y : A) → t x ≡ true → t y ≡ true → same x y ≡ true)
      → (xs : List A) → repeats same xs ≡ false → length (keep t xs) ≤ 1
  unfolding keep repeats
  keep_one same t h [] r = omega arith
  keep_one same t h (x ∷ xs) r = go (keep_one same t h xs) (t x) refl
    where
      q : (any (same x) xs ≡ false) × (repeats same xs ≡ false)
      q = neither (any (same x) xs) (repeats same xs) r

      none-behind : t x ≡ true → (y : A) → Memᴰ y xs → (b : Bool) → t y ≡ b → b ≡ false
      none-behind e y m true f = not-both (h x y e f) (any_false (same x) xs y q.0 m)
      none-behind e y m false f = refl

      go : (repeats same xs ≡ false → length (keep t xs) ≤ 1) → (b : Bool) → t x ≡ b → length (cond b (x ∷ keep t xs) (keep t xs)) ≤ 1
      go ih true e = rw (keep-none t xs (λ y m. none-behind e y m (t y) refl)) (omega arith)
      go ih false e = ih q.1

  -- two tests may be made in either order
  keep-swap : (t u : A → Bool) (xs : List A) → keep t (keep u xs) ≡ keep u (keep t xs)
  keep-swap t u xs =
      keep-both u t xs ∙ keep_same (λ x. u x && t x) (λ x. t x && u x) xs (λ x m. and_comm (u x) (t x)) ∙ sym (keep-both t u xs)

  -- picking from an ordered list is ordering what is picked
  pub keep-in_order : (t : A → Bool) (key : A → ℕ) (xs : List A) → keep t (in_order key xs) ≡ in_order key (keep t xs)
  unfolding in_order
  keep-in_order t key xs = keep-flat t (λ n. keep (λ x. eqb n (key x)) xs) below64 ∙ flat-same _ _ below64 (λ n m. keep-swap t (λ x. eqb n (key x)) xs)

  -- the same element for each key: the same order
  same-order : {B : Type 0} (norm : A → B) (key : A → ℕ) (xs ys : List A)
      → ((n : ℕ) → map norm (keep (λ (x : A). eqb n (key x)) xs) ≡ map norm (keep (λ (x : A). eqb n (key x)) ys))
      → map norm (in_order key xs) ≡ map norm (in_order key ys)
  unfolding in_order
  same-order norm key xs ys h = map-flat norm _ below64 ∙ flat-same _ _ below64 (λ n m. h n) ∙ sym (map-flat norm _ below64)

  -- at most one element has a key, and a pair of keys, that is not there twice
  pub one_key : (key : A → ℕ) (xs : List A) → repeats (λ (x y : A). eqb (key x) (key y)) xs ≡ false
      → (n : ℕ) → length (keep (λ (x : A). eqb n (key x)) xs) ≤ 1
  one_key key xs u n = keep_one (λ x y. eqb (key x) (key y)) (λ x. eqb n (key x)) (λ x y e f. one_number n (key x) (key y) e f) xs u

  pub one-pair : (a b : A → ℕ) (xs : List A) → repeats (λ (x y : A). eqb (a x) (a y) && eqb (b x) (b y)) xs ≡ false
      → (m n : ℕ) → length (keep (λ (x : A). eqb m (a x) && eqb n (b x)) xs) ≤ 1
  one-pair a b xs u m n = keep_one (λ x y. eqb (a x) (a y) && eqb (b x) (b y)) (λ x. eqb m (a x) && eqb n (b x)) both xs u
    where
      both : (x y : A) → eqb m (a x) && eqb n (b x) ≡ true → eqb m (a y) && eqb n (b y) ≡ true → eqb (a x) (a y) && eqb (b x) (b y) ≡ true
      both x y e f =
          let (c, d) = both_true (eqb m (a x)) (eqb n (b x)) e in
          let (g, h) = both_true (eqb m (a y)) (eqb n (b y)) f in
          true-both (one_number m (a x) (a y) c g) (one_number n (b x) (b y) d h)

  -- a pair of keys is there twice whichever of them is named first
  pub pair-turned : (a b : A → ℕ) (xs : List A) → repeats (λ (x y : A). eqb (b x) (b y) && eqb (a x) (a y)) xs ≡ repeats (λ (x y : A). eqb (a x) (a y) && eqb (b x) (b y)) xs
  pair-turned a b xs = ap (λ same. repeats same xs) (fun_ext λ x. fun_ext λ y. and_comm (eqb (b x) (b y)) (eqb (a x) (a y)))

-- whether a key, or a pair of keys, is there twice is the same for lists that differ in their order only
module _ {A : Type 0} {R : A → A → Type 0} {xs ys : List A} (s : Shuffled R xs ys) where
  pub key-repeats : (key : A → ℕ) → Respects R key → repeats (λ (x y : A). eqb (key x) (key y)) xs ≡ repeats (λ (x y : A). eqb (key x) (key y)) ys
  key-repeats key k = repeats-shuffled _ (λ x y. eqb-sym (key x) (key y)) (λ z x y r. ap (eqb (key z)) (k x y r)) s

  pub pair-repeats : (a b : A → ℕ) → Respects R a → Respects R b
      → repeats (λ (x y : A). eqb (a x) (a y) && eqb (b x) (b y)) xs ≡ repeats (λ (x y : A). eqb (a x) (a y) && eqb (b x) (b y)) ys
  pair-repeats a b j k = repeats-shuffled _ (λ x y. rw (eqb-sym (a x) (a y), eqb-sym (b x) (b y))) (λ z x y r. rw (j x y r, k x y r)) s

-- Lists that differ in their order only have one order by a key, up to a function that does not tell related elements apart, where
-- no key is there twice; and by two keys where no pair of them is.
module _ {A B : Type 0} {R : A → A → Type 0} (i : (x : A) → R x x) (norm : A → B) (c : Respects R norm) where
  one-order : (key : A → ℕ) → Respects R key → {xs ys : List A} → Shuffled R xs ys
      → ((n : ℕ) → length (keep (λ (x : A). eqb n (key x)) xs) ≤ 1) → map norm (in_order key xs) ≡ map norm (in_order key ys)
  one-order key k {xs} {ys} s h = same-order norm key xs ys
      λ n. short-shuffled norm c (keep-shuffled (λ x. eqb n (key x)) (λ x y r. ap (eqb n) (k x y r)) s i) (h n)

  pub order-shuffled : (key : A → ℕ) → Respects R key → {xs ys : List A} → Shuffled R xs ys
      → repeats (λ (x y : A). eqb (key x) (key y)) xs ≡ false → map norm (in_order key xs) ≡ map norm (in_order key ys)
  order-shuffled key k {xs} s u = one-order key k s (one_key key xs u)

  pub orders-shuffled : (a b : A → ℕ) → Respects R a → Respects R b → {xs ys : List A} → Shuffled R xs ys
      → repeats (λ (x y : A). eqb (a x) (a y) && eqb (b x) (b y)) xs ≡ false
      → map norm (in_order a (in_order b xs)) ≡ map norm (in_order a (in_order b ys))
  orders-shuffled a b j k {xs} {ys} s u = same-order norm a (in_order b xs) (in_order b ys) by
    where
      at : ℕ → A → Bool
      at m x = eqb m (a x)

      by : (m : ℕ) → map norm (keep (at m) (in_order b xs)) ≡ map norm (keep (at m) (in_order b ys))
      by m = rw (keep-in_order (at m) b xs, keep-in_order (at m) b ys)
          (one-order b k (keep-shuffled (at m) (λ x y r. ap (eqb m) (j x y r)) s i) (λ n. rw (keep-both (at m) (λ x. eqb n (b x)) xs) (one-pair a b xs u m n)))

-- in particular the same elements come to the same order
module _ {A : Type 0} {xs ys : List A} (s : Shuffled ◌≡◌ xs ys) where
  pub order_same : (key : A → ℕ) → repeats (λ (x y : A). eqb (key x) (key y)) xs ≡ false → in_order key xs ≡ in_order key ys
  order_same key u = sym (map-id (in_order key xs)) ∙ order-shuffled (λ x. refl) (λ x. x) (eq-respects _) key (eq-respects key) s u ∙ map-id (in_order key ys)

  pub orders-same : (a b : A → ℕ) → repeats (λ (x y : A). eqb (a x) (a y) && eqb (b x) (b y)) xs ≡ false
      → in_order a (in_order b xs) ≡ in_order a (in_order b ys)
  orders-same a b u = sym (map-id _) ∙ orders-shuffled (λ x. refl) (λ x. x) (eq-respects _) a b (eq-respects a) (eq-respects b) s u ∙ map-id _

-- the order by keys below 64 is a shuffle
module _ {A : Type 0} where
  part : (A → ℕ) → List A → ℕ → List A
  part key xs n = keep (λ (x : A). eqb n (key x)) xs

  one_more : (key : A → ℕ) (k i : ℕ) (x : A) (xs : List A) → i ≤ key x → key x < i + k
      → Shuffled ◌≡◌ (x ∷ flat_map (part key xs) (up_from k i)) (flat_map (part key (x ∷ xs)) (up_from k i))
  unfolding part flat_map up_from keep
  one_more key zero i x xs l h = absurd (omega arith)
  one_more key (suc k) i x xs l h = go (one_more key k (suc i) x xs) (eqb i (key x)) refl
    where
      here : List A
      here = part key xs i

      rest : List A → List A
      rest ys = flat_map (part key ys) (up_from k (suc i))

      no_more : i ≡ key x → rest (x ∷ xs) ≡ rest xs
      no_more e = flat-same _ _ (up_from k (suc i)) λ n m. rw (ne_eqb n (key x) (λ f. let (g, _) = up_from-range k (suc i) n m in omega arith))

      go : (suc i ≤ key x → key x < suc i + k → Shuffled ◌≡◌ (x ∷ rest xs) (rest (x ∷ xs))) → (b : Bool) → eqb i (key x) ≡ b
          → Shuffled ◌≡◌ (x ∷ (here ++ rest xs)) (cond b (x ∷ here) here ++ rest (x ∷ xs))
      go ih true e = rw (no_more (eqb-true i (key x) e)) (shuffled-refl (λ y. refl) (x ∷ (here ++ rest xs)))
      go ih false e =
          let d : i ≡ key x → ⊥ = eqb-false i (key x) e in
          then (shuffled-middle (λ y. refl) here x (rest xs)) (shuffled-behind (λ y. refl) here (ih (omega arith) (omega arith)))

  pub in_order-shuffled : (key : A → ℕ) (xs : List A) → ((x : A) → Memᴰ x xs → key x < 64) → Shuffled ◌≡◌ xs (in_order key xs)
  unfolding in_order below64 part flat_map keep up_from
  in_order-shuffled key [] h = done
  in_order-shuffled key (x ∷ xs) h = then
      (next refl (in_order-shuffled key xs (λ y m. h y (Memᴰ.tail m))))
      (one_more key 64 0 x xs (omega arith) (omega (arith, h x (Memᴰ.head refl))))

  pub in_orders-shuffled : (a b : A → ℕ) (xs : List A) → ((x : A) → Memᴰ x xs → (a x < 64) × (b x < 64)) → Shuffled ◌≡◌ xs (in_order a (in_order b xs))
  in_orders-shuffled a b xs h =
      let s = in_order-shuffled b xs (λ x m. (h x m).1) in
      then s (in_order-shuffled a (in_order b xs) (each-shuffled (λ x. a x < 64) (λ x y e l. rw e at l) s (λ x m. (h x m).0)))

-- the numbers of a list in their order, where none is there twice: each number that is in the list
keep-number : (n : ℕ) (ts : List ℕ) → twice ts ≡ false → keep (eqb n) ts ≡ only (is_in n ts) n
unfolding keep only is_in any twice repeats
keep-number n [] h = refl
keep-number n (t ∷ ts) h = go (keep-number n ts) (eqb n t) refl
  where
    q : (any (eqb t) ts ≡ false) × (repeats eqb ts ≡ false)
    q = neither (any (eqb t) ts) (repeats eqb ts) h

    go : (repeats eqb ts ≡ false → keep (eqb n) ts ≡ only (any (eqb n) ts) n) → (b : Bool) → eqb n t ≡ b
        → cond b (t ∷ keep (eqb n) ts) (keep (eqb n) ts) ≡ only (b || any (eqb n) ts) n
    go ih true e = let g : n ≡ t = eqb-true n t e in rw (keep-none (eqb n) ts (λ u m. rw g (any_false (eqb t) ts u q.0 m)), g)
    go ih false e = ih q.1

pub in_order-numbers : (ts : List ℕ) → twice ts ≡ false → in_order (λ (t : ℕ). t) ts ≡ keep (λ (t : ℕ). is_in t ts) below64
unfolding in_order
in_order-numbers ts h = flat-same _ _ below64 (λ n m. keep-number n ts h) ∙ flat-only (λ t. is_in t ts) below64
