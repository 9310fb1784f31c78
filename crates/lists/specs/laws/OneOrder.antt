-- Lists that have the same elements, up to a function, come to one order by a key that is not there twice.
use Rattle.std.specs.Prelude.{◌≡◌, refl, false, ◌&&◌, length}
use Rattle.std.proofs.Math.Path.{sym, ap}
use Rattle.std.proofs.Common.{◌∙◌, arith}
use mathlib.Core.List.Memᴰ
use mathlib.Core.List.{List, [], ◌∷◌, map, Memᴰ}
use Rattle.std.proofs.Math.Bool.{Bool}
use Prim.Native.Nat.{ℕ, ◌≤◌}
use Rattle.std.proofs.Math.Dec.{eqb}
use Rattle.lists.specs.Search.{keep, repeats, below64}
use Rattle.lists.specs.Order.{in_order}
use Rattle.lists.specs.laws.Search.{keep-elim, keep-intro}
use Rattle.lists.specs.laws.Order.{flat-same, map-flat, keep-both, keep-in_order, one_key, one-pair}

-- each element of xs has one of ys that norm does not tell from it
abbrev pub Among : {A B : Type 0} → (A → B) → List A → List A → Type 0
Among {A} norm xs ys = (x : A) → Memᴰ x xs → (y : A) × Memᴰ y ys × (norm x ≡ norm y)

module _ {A B : Type 0} (norm : A → B) where
  -- what norm does not tell apart has one value
  abbrev pub Tells : {C : Type 0} → (A → C) → Type 0
  Tells f = (x y : A) → norm x ≡ norm y → f x ≡ f y

  short-same : (xs ys : List A) → length xs ≤ 1 → length ys ≤ 1 → Among norm xs ys → Among norm ys xs → map norm xs ≡ map norm ys
  short-same [] [] l k f g = refl
  short-same [] (y ∷ ys) l k f g = let (x, m, e) = g y (Memᴰ.head refl) in absurd (Memᴰ.not-nil m)
  short-same (x ∷ xs) [] l k f g = let (y, m, e) = f x (Memᴰ.head refl) in absurd (Memᴰ.not-nil m)
  short-same (x ∷ []) (y ∷ []) l k f g = let (z, m, e) = f x (Memᴰ.head refl) in ap (λ w. w ∷ []) (e ∙ ap norm (Memᴰ.eq_of_singleton m))
  short-same (x ∷ []) (y ∷ z ∷ ys) l k f g = absurd (omega arith)
  short-same (x ∷ z ∷ xs) (y ∷ ys) l k f g = absurd (omega arith)

  kept-among : (t : A → Bool) → Tells t → (xs ys : List A) → Among norm xs ys → Among norm (keep t xs) (keep t ys)
  kept-among t c xs ys f x m =
      let (n, h) = keep-elim t xs x m in
      let (y, k, e) = f x n in
      (y, keep-intro t ys y k (sym (c x y e) ∙ h), e)

  order-told : (key : A → ℕ) → Tells key → (xs ys : List A)
      → ((n : ℕ) → length (keep (λ (x : A). eqb n (key x)) xs) ≤ 1) → ((n : ℕ) → length (keep (λ (x : A). eqb n (key x)) ys) ≤ 1)
      → Among norm xs ys → Among norm ys xs → map norm (in_order key xs) ≡ map norm (in_order key ys)
  unfolding in_order
  order-told key c xs ys h k f g = map-flat norm _ below64 ∙ flat-same _ _ below64 (λ n m. at n) ∙ sym (map-flat norm _ below64)
    where
      test : (n : ℕ) → Tells (λ (x : A). eqb n (key x))
      test n x y e = ap (eqb n) (c x y e)

      at : (n : ℕ) → map norm (keep (λ (x : A). eqb n (key x)) xs) ≡ map norm (keep (λ (x : A). eqb n (key x)) ys)
      at n = short-same _ _ (h n) (k n) (kept-among _ (test n) xs ys f) (kept-among _ (test n) ys xs g)

  module _ (xs ys : List A) (f : Among norm xs ys) (g : Among norm ys xs) where
    pub one-order : (key : A → ℕ) → Tells key
        → repeats (λ (x y : A). eqb (key x) (key y)) xs ≡ false → repeats (λ (x y : A). eqb (key x) (key y)) ys ≡ false
        → map norm (in_order key xs) ≡ map norm (in_order key ys)
    one-order key c u v = order-told key c xs ys (one_key key xs u) (one_key key ys v) f g

    pub one-orders : (a b : A → ℕ) → Tells a → Tells b
        → repeats (λ (x y : A). eqb (a x) (a y) && eqb (b x) (b y)) xs ≡ false → repeats (λ (x y : A). eqb (a x) (a y) && eqb (b x) (b y)) ys ≡ false
        → map norm (in_order a (in_order b xs)) ≡ map norm (in_order a (in_order b ys))
    unfolding in_order
    one-orders a b c d u v = map-flat norm _ below64 ∙ flat-same _ _ below64 (λ m _. at m) ∙ sym (map-flat norm _ below64)
      where
        first : ℕ → A → Bool
        first m x = eqb m (a x)

        test : (m : ℕ) → Tells (first m)
        test m x y e = ap (eqb m) (c x y e)

        one : (zs : List A) → repeats (λ (x y : A). eqb (a x) (a y) && eqb (b x) (b y)) zs ≡ false → (m n : ℕ) → length (keep (λ (x : A). eqb n (b x)) (keep (first m) zs)) ≤ 1
        one zs w m n = rw (keep-both (first m) (λ x. eqb n (b x)) zs) (one-pair a b zs w m n)

        at : (m : ℕ) → map norm (keep (first m) (in_order b xs)) ≡ map norm (keep (first m) (in_order b ys))
        at m = rw (keep-in_order (first m) b xs, keep-in_order (first m) b ys)
            (order-told b d _ _ (one xs u m) (one ys v m) (kept-among (first m) (test m) xs ys f) (kept-among (first m) (test m) ys xs g))
