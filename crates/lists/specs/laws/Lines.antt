-- Laws of a line that is kept in a fixed number of places: one more joins, one leaves and those behind move up place by place; and
-- what the first search finds, told from the places that it passed.
use Rattle.std.specs.Prelude.{◌≡◌, Bool, false, get_or, take, drop}
use Rattle.std.proofs.Math.Path.{refl, sym, ap}
use Rattle.std.proofs.Common.{◌∙◌, length-append, length-take, take-append-drop, drop_of_length-le, take-suc, drop-cons, get_or-append-add, get_or-drop, take_all}
use mathlib.Core.List.{List, [], ◌∷◌, ◌++◌, map, append_assoc}
use Rattle.std.proofs.Math.Option.{none, some}
use Rattle.std.proofs.Math.Bool.{true}
use Prim.Native.Nat.{ℕ, zero, suc, ◌+◌, ◌-◌, ◌≤◌, ◌<◌}
use Rattle.std.proofs.Math.Numerals.{add-one}
use native.Mathlib.Omega.{arith}
use Rattle.std.proofs.Math.ListN.{length, set, replicate}
use Rattle.std.proofs.lemmas.List.{replicate-append-replicate}
use Rattle.std.proofs.Math.Seq.{set_at}
use Rattle.lists.specs.Place.{further, first, at_place, without}
use Rattle.lists.specs.Cells.{padded}
use Rattle.lists.specs.laws.Bools.{none-some, some-some}

module _ {A : Type 0} where
  -- one more joins a line that has room
  pub padded-join : (n : ℕ) (d : A) (xs : List A) (x : A) → length xs < n → set (padded n d xs) (length xs) x ≡ padded n d (xs ++ (x ∷ []))
  unfolding padded
  padded-join n d xs x h =
      ap (λ (m : ℕ). set (xs ++ replicate m d) (length xs) x) e
      ∙ set_at xs d (replicate (n - suc (length xs)) d) x (length xs) refl
      ∙ sym (append_assoc xs (x ∷ []) (replicate (n - suc (length xs)) d))
      ∙ ap (λ (m : ℕ). (xs ++ x ∷ []) ++ replicate (n - m) d) (sym (length-append xs (x ∷ []) ∙ add-one (length xs)))
    where
      e : n - length xs ≡ suc (n - suc (length xs))
      e = omega arith

  -- the list without the element at a place
  pub length_without : (k : ℕ) (xs : List A) → k < length xs → suc (length (without k xs)) ≡ length xs
  unfolding without
  length_without k [] h = absurd (omega arith)
  length_without zero (x ∷ xs) h = refl
  length_without (suc k) (x ∷ xs) h = ap suc (length_without k xs (omega arith))

  without-front : (k : ℕ) (xs : List A) → take k (without k xs) ≡ take k xs
  unfolding without
  without-front k [] = refl
  without-front zero (x ∷ xs) = refl
  without-front (suc k) (x ∷ xs) = ap (λ (l : List A). x ∷ l) (without-front k xs)

  without_at : (d : A) (k : ℕ) (xs : List A) (j : ℕ) → k ≤ j → get_or (without k xs) j d ≡ get_or xs (suc j) d
  unfolding without
  without_at d k [] j h = refl
  without_at d zero (x ∷ xs) j h = refl
  without_at d (suc k) (x ∷ xs) zero h = absurd (omega arith)
  without_at d (suc k) (x ∷ xs) (suc j) h = without_at d k xs j (omega arith)

  without-append : (k : ℕ) (xs ys : List A) → k < length xs → without k (xs ++ ys) ≡ without k xs ++ ys
  unfolding without
  without-append k [] ys h = absurd (omega arith)
  without-append zero (x ∷ xs) ys h = refl
  without-append (suc k) (x ∷ xs) ys h = ap (λ (l : List A). x ∷ l) (without-append k xs ys (omega arith))

  -- one leaves, and what is behind moves up
  pub padded-leave : (n : ℕ) (d : A) (xs : List A) (k : ℕ) → length xs ≤ n → k < length xs
      → without k (padded n d xs) ++ (d ∷ []) ≡ padded n d (without k xs)
  unfolding padded
  padded-leave n d xs k h g =
      ap (λ (l : List A). l ++ (d ∷ [])) (without-append k xs (replicate (n - length xs) d) g)
      ∙ append_assoc (without k xs) (replicate (n - length xs) d) (d ∷ [])
      ∙ ap (λ (l : List A). without k xs ++ l) (replicate-append-replicate (n - length xs) 1 d)
      ∙ ap (λ (m : ℕ). without k xs ++ replicate m d) e
    where
      e : n - length xs + 1 ≡ n - length (without k xs)
      e = omega (arith, length_without k xs g)

  -- the moving up, one place after the other: the first j are the new list's, the others still the old one's
  move-one : (d : A) (r q : List A) (j : ℕ) → j < length r → j < length q
      → set (take j r ++ drop j q) j (get_or r j d) ≡ take (suc j) r ++ drop (suc j) q
  move-one d r q j h g =
      ap (λ (l : List A). set (take j r ++ l) j (get_or r j d)) (drop-cons q j d g)
      ∙ set_at (take j r) (get_or q j d) (drop (suc j) q) (get_or r j d) j (length-take j r ∙ omega arith)
      ∙ sym (append_assoc (take j r) (get_or r j d ∷ []) (drop (suc j) q))
      ∙ ap (λ (l : List A). l ++ drop (suc j) q) (sym (take-suc r j d h))

  pub move-none : (k : ℕ) (q : List A) → q ≡ take k (without k q) ++ drop k q
  move-none k q = sym (ap (λ (l : List A). l ++ drop k q) (without-front k q) ∙ take-append-drop k q)

  pub move-next : (d : A) (k j : ℕ) (q m : List A) → k ≤ j → j + 1 < length q → m ≡ take j (without k q) ++ drop j q
      → set m j (get_or m (j + 1) d) ≡ take (j + 1) (without k q) ++ drop (j + 1) q
  move-next d k j q m h g e =
      ap (λ (x : A). set m j x) up ∙ ap (λ (l : List A). set l j (get_or (without k q) j d)) e
      ∙ move-one d (without k q) q j short (omega arith)
      ∙ ap (λ (i : ℕ). take i (without k q) ++ drop i q) (sym (add-one j))
    where
      short : j < length (without k q)
      short = omega (arith, length_without k q (omega arith))

      front : length (take j (without k q)) ≡ j
      front = length-take j (without k q) ∙ omega (arith, short)

      up : get_or m (j + 1) d ≡ get_or (without k q) j d
      up =
          ap (λ (l : List A). get_or l (j + 1) d) e
          ∙ ap (λ (i : ℕ). get_or (take j (without k q) ++ drop j q) (i + 1) d) (sym front)
          ∙ get_or-append-add (take j (without k q)) (drop j q) 1 d
          ∙ get_or-drop j q 1 d ∙ ap (λ (i : ℕ). get_or q i d) (add-one j)
          ∙ sym (without_at d k q j h)

  pub move-last : (d : A) (k n : ℕ) (q : List A) → length q ≡ n + 1 → k ≤ n → set (take n (without k q) ++ drop n q) n d ≡ without k q ++ (d ∷ [])
  move-last d k n q e h =
      ap (λ (l : List A). set (l ++ drop n q) n d) (take_all n (without k q) (omega (arith, short)))
      ∙ ap (λ (l : List A). set (without k q ++ l) n d) (drop-cons q n d (omega arith))
      ∙ set_at (without k q) (get_or q n d) (drop (suc n) q) d n short
      ∙ ap (λ (l : List A). without k q ++ (d ∷ l)) (drop_of_length-le q {i = suc n} (omega arith))
    where
      short : length (without k q) ≡ n
      short = omega (arith, length_without k q (omega arith))

  -- a place has an element exactly below the length
  pub placed : (k : ℕ) (xs : List A) → k < length xs → (x : A) × (at_place k xs ≡ some x)
  unfolding at_place
  placed k [] h = absurd (omega arith)
  placed zero (x ∷ xs) h = (x, refl)
  placed (suc k) (x ∷ xs) h = placed k xs (omega arith)

  pub at-below : (k : ℕ) (xs : List A) (x : A) → at_place k xs ≡ some x → k < length xs
  unfolding at_place
  at-below k [] x h = none-some h
  at-below zero (y ∷ ys) x h = omega arith
  at-below (suc k) (y ∷ ys) x h = omega (arith, at-below k ys x h)

  module _ (t : A → Bool) where
    -- none before the place passes
    abbrev pub Passed : List A → ℕ → Type 0
    Passed xs i = (k : ℕ) (x : A) → k < i → at_place k xs ≡ some x → t x ≡ false

    -- the search finds the element at the first place that passes
    pub first-at : (xs : List A) (i : ℕ) (x : A) → Passed xs i → at_place i xs ≡ some x → t x ≡ true → first t xs ≡ some (record { place = i; what = x })
    unfolding first at_place further
    first-at [] i x p h e = none-some h
    first-at (y ∷ ys) zero x p h e = let q : t y ≡ true = rw (some-some h) e in rw (q, first, some-some h)
    first-at (y ∷ ys) (suc i) x p h e =
        rw (p 0 y (omega arith) refl, first, first-at ys i x (λ k z l a. p (suc k) z (omega arith) a) h e)

    -- and nothing where every place was passed
    pub first-none : (xs : List A) (i : ℕ) → Passed xs i → length xs ≤ i → first t xs ≡ none
    unfolding first at_place further
    first-none [] i p l = refl
    first-none (y ∷ ys) zero p l = absurd (omega arith)
    first-none (y ∷ ys) (suc i) p l = rw (p 0 y (omega arith) refl, first, first-none ys i (λ k z m a. p (suc k) z (omega arith) a) (omega arith))

-- a list made of another's elements
module _ {A B : Type 0} (f : A → B) where
  pub map-without : (k : ℕ) (xs : List A) → map f (without k xs) ≡ without k (map f xs)
  unfolding without
  map-without k [] = refl
  map-without zero (x ∷ xs) = refl
  map-without (suc k) (x ∷ xs) = ap (λ (l : List B). f x ∷ l) (map-without k xs)

  pub map_at : (d : B) (k : ℕ) (xs : List A) (ys : List B) (x : A) → at_place k xs ≡ some x → get_or (map f xs ++ ys) k d ≡ f x
  unfolding at_place
  map_at d k [] ys x h = none-some h
  map_at d zero (z ∷ zs) ys x h = ap f (some-some h)
  map_at d (suc k) (z ∷ zs) ys x h = map_at d k zs ys x h
