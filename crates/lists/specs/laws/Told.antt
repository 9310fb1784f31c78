-- Lists can be told from what is made of them: from cells, from a list filled up, and from parts of one length put one behind the other.
use Rattle.std.specs.Prelude.{◌≡◌, ℕ, ◌*◌, ◌<◌, length, get_or, take, drop}
use Rattle.std.proofs.Math.Path.{refl, sym}
use Rattle.std.proofs.Common.{ap, ◌∙◌, take_at, drop_at}
use mathlib.Core.List.{List, [], ◌∷◌, ◌++◌, flat_map, Memᴰ}
use Rattle.std.proofs.Math.Nat.{mul-suc, mul-zero}
use native.Mathlib.Omega.{arith}
use Rattle.std.proofs.Math.ListN.{length-append}
use Rattle.lists.specs.Cells.{cells, padded}
use Rattle.lists.specs.laws.Cells.{cell_at}

module _ {A : Type 0} where
  pub cells_told : (n : ℕ) (f g : ℕ → A) → cells n f ≡ cells n g → (i : ℕ) → i < n → f i ≡ g i
  cells_told n f g e i h = sym (cell_at n f i (f i) h) ∙ ap (λ xs. get_or xs i (f i)) e ∙ cell_at n g i (f i) h

  -- the first parts are of one length
  pub append-told : (xs ys us vs : List A) → length xs ≡ length ys → xs ++ us ≡ ys ++ vs → (xs ≡ ys) × (us ≡ vs)
  append-told xs ys us vs l e = (
    sym (take_at xs us (length ys) l) ∙ ap (take (length ys)) e ∙ take_at ys vs (length ys) refl,
    sym (drop_at xs us (length ys) l) ∙ ap (drop (length ys)) e ∙ drop_at ys vs (length ys) refl,
  )

  pub padded-told : (n : ℕ) (d : A) (xs ys : List A) → length xs ≡ length ys → padded n d xs ≡ padded n d ys → xs ≡ ys
  unfolding padded
  padded-told n d xs ys l e = (append-told xs ys _ _ l e).0

-- parts that all have n elements, of the elements that P holds of
module _ {A B : Type 0} (f : A → List B) (n : ℕ) (P : A → Type 0) (sized : (x : A) → P x → length (f x) ≡ n) where
  pub even-length : (xs : List A) → ((x : A) → Memᴰ x xs → P x) → length (flat_map f xs) ≡ n * length xs
  unfolding flat_map
  even-length [] h = omega (arith, mul-zero n)
  even-length (x ∷ xs) h = omega (
    arith,
    length-append (f x) (flat_map f xs),
    sized x (h x (Memᴰ.head refl)),
    even-length xs (λ y m. h y (Memᴰ.tail m)),
    mul-suc n (length xs),
  )

  -- where each part tells its element, all of them tell the list
  pub parts-told : ((x y : A) → f x ≡ f y → x ≡ y) → (xs ys : List A)
      → ((x : A) → Memᴰ x xs → P x) → ((y : A) → Memᴰ y ys → P y) → length xs ≡ length ys → flat_map f xs ≡ flat_map f ys → xs ≡ ys
  unfolding flat_map
  parts-told c [] [] h k l e = refl
  parts-told c [] (y ∷ ys) h k l e = absurd (omega arith)
  parts-told c (x ∷ xs) [] h k l e = absurd (omega arith)
  parts-told c (x ∷ xs) (y ∷ ys) h k l e =
      let (d, g) = append-told (f x) (f y) _ _ (sized x (h x (Memᴰ.head refl)) ∙ sym (sized y (k y (Memᴰ.head refl)))) e in
      rw (c x y d, parts-told c xs ys (λ z m. h z (Memᴰ.tail m)) (λ z m. k z (Memᴰ.tail m)) (omega arith) g)
