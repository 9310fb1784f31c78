-- Laws of lists made of parts: parts of parts, parts in the order of one key or of two, in rows and columns, and at places.
use Rattle.std.specs.Prelude.{◌≡◌, Bool, ◌&&◌, cond, length}
use Rattle.std.proofs.Math.Path.{refl, sym, ap, ap₂}
use Rattle.std.proofs.Common.{◌∙◌, zero-add, mul-suc, mul-zero}
use mathlib.Core.List.{List, [], ◌∷◌, ◌++◌, map, flat_map, append-nil, append_assoc, Memᴰ}
use Rattle.std.proofs.Math.Option.{Option, none, some}
use Rattle.std.proofs.Math.Bool.{true, false}
use Prim.Native.Nat.{ℕ, zero, suc, ◌+◌, ◌*◌, ◌≤◌, ◌<◌}
use Rattle.std.proofs.Math.Nat.{add-zero, add-suc, suc-add}
use native.Mathlib.Omega.{arith}
use Rattle.std.proofs.Math.Dec.{eqb}
use Rattle.lists.specs.Search.{keep, up_from, below64}
use Rattle.lists.specs.Order.{in_order}
use Rattle.lists.specs.Place.{at_place}
use Rattle.lists.specs.laws.Search.{up_from-range}
use Rattle.lists.specs.laws.Order.{flat-same, keep-both, keep-in_order}
use Rattle.lists.specs.laws.Append.{flat_append}
use Rattle.lists.specs.laws.Puts.{flat_up}

module _ {A B : Type 0} where
  pub flat-map : {C : Type 0} (f : B → List C) (g : A → B) (xs : List A) → flat_map f (map g xs) ≡ flat_map (λ (x : A). f (g x)) xs
  unfolding flat_map
  flat-map f g [] = refl
  flat-map f g (x ∷ xs) = ap (λ l. f (g x) ++ l) (flat-map f g xs)

  pub flat-flat : {C : Type 0} (f : B → List C) (g : A → List B) (xs : List A) → flat_map f (flat_map g xs) ≡ flat_map (λ (x : A). flat_map f (g x)) xs
  unfolding flat_map
  flat-flat f g [] = refl
  flat-flat f g (x ∷ xs) = flat_append f (g x) (flat_map g xs) ∙ ap (λ l. flat_map f (g x) ++ l) (flat-flat f g xs)

  pub flat-none : (f : A → List B) (xs : List A) → ((x : A) → Memᴰ x xs → f x ≡ []) → flat_map f xs ≡ []
  unfolding flat_map
  flat-none f [] h = refl
  flat-none f (x ∷ xs) h = rw (h x (Memᴰ.head refl), flat-none f xs (λ y m. h y (Memᴰ.tail m)))

  pub flat-nil : (f : A → List B) → flat_map f [] ≡ []
  unfolding flat_map
  flat-nil f = refl

  pub flat-one : (f : A → List B) (x : A) → flat_map f (x ∷ []) ≡ f x
  unfolding flat_map
  flat-one f x = append-nil (f x)

  pub flat-singles : (g : A → B) (xs : List A) → flat_map (λ (x : A). g x ∷ []) xs ≡ map g xs
  unfolding flat_map
  flat-singles g [] = refl
  flat-singles g (x ∷ xs) = ap (λ l. g x ∷ l) (flat-singles g xs)

  -- what is left out gives nothing
  pub flat_keep : (t : A → Bool) (f : A → List B) (xs : List A) → ((x : A) → t x ≡ false → f x ≡ []) → flat_map f (keep t xs) ≡ flat_map f xs
  unfolding flat_map keep
  flat_keep t f [] h = refl
  flat_keep t f (x ∷ xs) h = go (t x) refl (flat_keep t f xs h)
    where
      go : (b : Bool) → t x ≡ b → flat_map f (keep t xs) ≡ flat_map f xs → flat_map f (cond b (x ∷ keep t xs) (keep t xs)) ≡ f x ++ flat_map f xs
      go true e ih = ap (λ l. f x ++ l) ih
      go false e ih = ih ∙ ap (λ l. l ++ flat_map f xs) (sym (h x e))

-- parts in the order of a key, and of two
module _ {A B : Type 0} where
  pub flat-order : (f : A → List B) (key : A → ℕ) (xs : List A) → flat_map f (in_order key xs) ≡ flat_map (λ (n : ℕ). flat_map f (keep (λ (x : A). eqb n (key x)) xs)) below64
  unfolding in_order
  flat-order f key xs = flat-flat f (λ (n : ℕ). keep (λ (x : A). eqb n (key x)) xs) below64

  pub flat-orders : (f : A → List B) (a b : A → ℕ) (xs : List A) → flat_map f (in_order a (in_order b xs))
      ≡ flat_map (λ (i : ℕ). flat_map (λ (j : ℕ). flat_map f (keep (λ (x : A). eqb i (a x) && eqb j (b x)) xs)) below64) below64
  flat-orders f a b xs = flat-order f a (in_order b xs) ∙ flat-same _ _ below64 (λ i m. by i)
    where
      by : (i : ℕ) → flat_map f (keep (λ (x : A). eqb i (a x)) (in_order b xs)) ≡ flat_map (λ (j : ℕ). flat_map f (keep (λ (x : A). eqb i (a x) && eqb j (b x)) xs)) below64
      by i =
          ap (flat_map f) (keep-in_order (λ x. eqb i (a x)) b xs) ∙ flat-order f b (keep (λ x. eqb i (a x)) xs)
          ∙ flat-same _ _ below64 (λ j m. ap (flat_map f) (keep-both (λ x. eqb i (a x)) (λ x. eqb j (b x)) xs))

module _ {B : Type 0} where
  flat-suc : (f : ℕ → List B) (k j : ℕ) → flat_map f (up_from k (suc j)) ≡ flat_map (λ (n : ℕ). f (suc n)) (up_from k j)
  unfolding flat_map up_from
  flat-suc f zero j = refl
  flat-suc f (suc k) j = ap (λ l. f (suc j) ++ l) (flat-suc f k (suc j))

  pub flat-from : (f : ℕ → List B) (k i j : ℕ) → flat_map f (up_from k (i + j)) ≡ flat_map (λ (n : ℕ). f (i + n)) (up_from k j)
  unfolding flat_map up_from
  flat-from f zero i j = refl
  flat-from f (suc k) i j = ap (λ l. f (i + j) ++ l) (rw (← add-suc i j) (flat-from f k i (suc j)))

  flat-both : (f : ℕ → List B) (a b i : ℕ) → flat_map f (up_from (a + b) i) ≡ flat_map f (up_from a i) ++ flat_map f (up_from b (i + a))
  unfolding flat_map up_from
  flat-both f zero b i = rw (zero-add b, add-zero i)
  flat-both f (suc a) b i = rw (suc-add a b, flat-both f a b (suc i), add-suc i a, suc-add i a, append_assoc (f i) (flat_map f (up_from a (suc i))) (flat_map f (up_from b (suc (i + a)))))

  row : (ℕ → List B) → ℕ → ℕ → List B
  row f w r = flat_map (λ (s : ℕ). f (w * r + s)) (up_from w 0)

  none-up : (f g : ℕ → List B) → flat_map f (up_from 0 0) ≡ flat_map g (up_from 0 0)
  unfolding flat_map up_from
  none-up f g = refl

  -- numbers in rows of w
  pub flat_rows : (f : ℕ → List B) (w k : ℕ) → flat_map f (up_from (w * k) 0) ≡ flat_map (λ (r : ℕ). flat_map (λ (s : ℕ). f (w * r + s)) (up_from w 0)) (up_from k 0)
  unfolding row
  flat_rows f w zero = rw (mul-zero w) (none-up f (row f w))
  flat_rows f w (suc k) =
      let z : 0 + w * k ≡ w * k + 0 = omega arith in
      let y : k ≡ 0 + k = omega arith in
      ap (λ m. flat_map f (up_from m 0)) (mul-suc w k) ∙ flat-both f (w * k) w 0
      ∙ ap₂ (λ (l m : List B). l ++ m) (flat_rows f w k) (ap (λ m. flat_map f (up_from w m)) z ∙ flat-from f w (w * k) 0 ∙ ap (row f w) y)
      ∙ sym (flat_up (row f w) k 0)

  -- a part for each place of a list
  unfoldable pub placed : {A : Type 0} → (A → List B) → Option A → List B
  placed g none = []
  placed g (some x) = g x

  pub flat-places : {A : Type 0} (g : A → List B) (xs : List A) (h : ℕ → List B) (k : ℕ) → length xs ≤ k → ((r : ℕ) → r < k → h r ≡ placed g (at_place r xs))
      → flat_map h (up_from k 0) ≡ flat_map g xs
  unfolding flat_map up_from at_place placed
  flat-places g [] h k l e = flat-none h (up_from k 0) (λ r m. e r (omega (arith, up_from-range k 0 r m)))
  flat-places g (x ∷ xs) h zero l e = absurd (omega arith)
  flat-places g (x ∷ xs) h (suc k) l e =
      ap₂ (λ (m n : List B). m ++ n) (e 0 (omega arith))
      (flat-suc h k 0 ∙ flat-places g xs (λ r. h (suc r)) k (omega arith) (λ r b. e (suc r) (omega arith)))
