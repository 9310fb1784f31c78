-- Rows of one width in a flat list: what stands from the start of a row on is the row, and something behind it.
use Rattle.std.specs.Prelude.{◌≡◌, refl, drop}
use mathlib.Core.List.{List, [], ◌∷◌, ◌++◌, flat_map, append_assoc, Memᴰ}
use Rattle.std.proofs.Math.Option.{some}
use Prim.Native.Nat.{ℕ, zero, suc, ◌+◌, ◌*◌}
use Rattle.std.proofs.Common.{zero-mul, arith}
use Rattle.std.proofs.Math.Nat.{suc-mul}
use Rattle.std.proofs.Math.ListN.{length}
use Rattle.std.proofs.Math.Seq.{drop-append-add}
use Rattle.lists.specs.Place.{at_place}
use Rattle.lists.specs.laws.Bools.{none-some, some-some}

module _ {A B : Type 0} (f : A → List B) (width : ℕ) where
  -- every row has the width
  abbrev pub Even : List A → Type 0
  Even xs = (x : A) → Memᴰ x xs → length (f x) ≡ width

  pub flat-row : (xs : List A) (behind : List B) → Even xs → (k : ℕ) (x : A) → at_place k xs ≡ some x
      → (rest : List B) × (drop (k * width) (flat_map f xs ++ behind) ≡ f x ++ rest)
  unfolding at_place flat_map
  flat-row [] behind h k x e = none-some e
  flat-row (y ∷ ys) behind h zero x e = (flat_map f ys ++ behind, rw (zero-mul, some-some e, append_assoc))
  flat-row (y ∷ ys) behind h (suc k) x e =
      let (rest, g) = flat-row ys behind (λ z m. h z (Memᴰ.tail m)) k x e in
      let s : suc k * width ≡ length (f y) + k * width = omega (arith, suc-mul k width, h y (Memᴰ.head refl)) in
      (rest, rw (s, append_assoc, drop-append-add (f y) (flat_map f ys ++ behind) (k * width)) g)
