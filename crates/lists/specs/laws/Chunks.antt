-- A list made of parts that all have one width: the parts in front, those behind, and what stands in a part.
use Rattle.std.specs.Prelude.{◌≡◌, refl, get_or, take, set}
use Rattle.std.proofs.Math.Path.{sym}
use mathlib.Core.List.{List, [], ◌∷◌, flat_map, append_assoc, Memᴰ}
use Prim.Native.Nat.{ℕ, zero, suc, ◌+◌, ◌*◌, ◌<◌}
use Rattle.std.proofs.Math.Nat.{zero-mul, suc-mul}
use Rattle.std.proofs.Common.{arith}
use Rattle.std.proofs.Math.ListN.{length, drop, length-append, get_or-append}
use Rattle.std.proofs.Math.Seq.{paste, take-nil, drop-nil, take_all, take-append-add, drop-append-add, get_or-append-add}
use Rattle.std.proofs.lemmas.List.{set_split}
use Rattle.lists.specs.laws.Append.{flat_append}

module _ {A B : Type 0} (f : A → List B) (w : ℕ) where
  -- every element's part has the width w
  abbrev pub Wide : List A → Type 0
  Wide xs = (x : A) → Memᴰ x xs → length (f x) ≡ w

  pub length-chunks : (xs : List A) → Wide xs → length (flat_map f xs) ≡ length xs * w
  unfolding flat_map
  length-chunks [] h = sym (zero-mul w)
  length-chunks (x ∷ xs) h =
      omega (arith, length-append (f x) (flat_map f xs), h x (Memᴰ.head refl), length-chunks xs (λ y m. h y (Memᴰ.tail m)), suc-mul (length xs) w)

  -- k + 1 parts are as long as one and k
  one_more : (k : ℕ) (x : A) → length (f x) ≡ w → suc k * w ≡ length (f x) + k * w
  one_more k x e = omega (arith, suc-mul k w)

  pub take_chunks : (k : ℕ) (xs : List A) → Wide xs → take (k * w) (flat_map f xs) ≡ flat_map f (take k xs)
  unfolding flat_map
  take_chunks zero xs h = rw zero-mul
  take_chunks (suc k) [] h = take-nil (suc k * w)
  take_chunks (suc k) (x ∷ xs) h =
      rw (one_more k x (h x (Memᴰ.head refl)), take-append-add (f x) (flat_map f xs) (k * w), take_chunks k xs (λ y m. h y (Memᴰ.tail m)))

  pub drop-chunks : (k : ℕ) (xs : List A) → Wide xs → drop (k * w) (flat_map f xs) ≡ flat_map f (drop k xs)
  unfolding flat_map
  drop-chunks zero xs h = rw zero-mul
  drop-chunks (suc k) [] h = drop-nil (suc k * w)
  drop-chunks (suc k) (x ∷ xs) h =
      rw (one_more k x (h x (Memᴰ.head refl)), drop-append-add (f x) (flat_map f xs) (k * w), drop-chunks k xs (λ y m. h y (Memᴰ.tail m)))

  -- one part stored anew
  pub chunk-set : (k : ℕ) (xs : List A) (v : A) → Wide xs → length (f v) ≡ w → k < length xs → flat_map f (set xs k v) ≡ paste (flat_map f xs) (k * w) (f v) w
  unfolding flat_map
  chunk-set k xs v h e l =
      let n : k * w + w ≡ suc k * w = omega (arith, suc-mul k w) in
      rw (set_split xs k v l, flat_append f (take k xs) (v ∷ drop (suc k) xs), n, take_all w (f v) (omega arith), take_chunks k xs h, drop-chunks (suc k) xs h)
      (sym (append_assoc (flat_map f (take k xs)) (f v) (flat_map f (drop (suc k) xs))))

  pub chunk-at : (k j : ℕ) (xs : List A) (a : A) (d : B) → Wide xs → k < length xs → j < w → get_or (flat_map f xs) (k * w + j) d ≡ get_or (f (get_or xs k a)) j d
  unfolding flat_map
  chunk-at k j [] a d h l g = absurd (omega arith)
  chunk-at zero j (x ∷ xs) a d h l g =
      let e : 0 * w + j ≡ j = omega (arith, zero-mul w) in
      rw e (get_or-append (f x) (flat_map f xs) d j (omega (arith, h x (Memᴰ.head refl))))
  chunk-at (suc k) j (x ∷ xs) a d h l g =
      let e : suc k * w + j ≡ length (f x) + (k * w + j) = omega (arith, one_more k x (h x (Memᴰ.head refl))) in
      rw (e, get_or-append-add (f x) (flat_map f xs) (k * w + j) d) (chunk-at k j xs a d (λ y m. h y (Memᴰ.tail m)) (omega arith) g)
