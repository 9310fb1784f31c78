-- Numbered parts of one width, one behind the other: one of them read, and one put in another's place.
use Rattle.std.specs.Prelude.{◌≡◌, refl, cond, length, take, drop, eqb}
use Rattle.std.proofs.Math.Path.{sym, ap}
use Rattle.std.proofs.Common.{◌∙◌, zero-mul, suc-mul, arith, eq-eqb, ne_eqb}
use mathlib.Core.List.{List, ◌++◌, flat_map, append_assoc}
use Prim.Native.Nat.{ℕ, zero, suc, ◌+◌, ◌*◌, ◌<◌}
use Rattle.std.proofs.Math.Nat.{add-zero, add-suc, suc-add}
use Rattle.std.proofs.Math.Seq.{take-append_seam, drop-append_seam, take-append-add, drop-append-add}
use Rattle.lists.specs.Search.{up_from}
use Rattle.lists.specs.laws.Search.{up_from-range}
use Rattle.lists.specs.laws.Order.{flat-same}

module _ {B : Type 0} (f : ℕ → List B) (w : ℕ) (wide : (r : ℕ) → length (f r) ≡ w) where
  -- k + 1 parts are as long as one and k
  one_more : (k i : ℕ) → suc k * w ≡ length (f i) + k * w
  one_more k i = omega (arith, suc-mul k w, wide i)

  pub block-part : (n i k : ℕ) → k < n → take w (drop (k * w) (flat_map f (up_from n i))) ≡ f (i + k)
  unfolding flat_map up_from
  block-part zero i k h = absurd (omega arith)
  block-part (suc n) i zero h = rw (zero-mul w, add-zero i, ← wide i) (take-append_seam (f i) (flat_map f (up_from n (suc i))))
  block-part (suc n) i (suc k) h =
      rw (one_more k i, drop-append-add (f i) (flat_map f (up_from n (suc i))) (k * w), add-suc i k, ← suc-add i k) (block-part n (suc i) k (omega arith))

  -- the parts with v in the place of number k
  unfoldable pub in_place : ℕ → List B → ℕ → List B
  in_place k v r = cond (eqb r k) v (f r)

  in_place_lem : (k : ℕ) (v : List B) → in_place k v k ≡ v
  unfolding in_place
  in_place_lem k v = rw (eq-eqb k k refl)

  out-of-place : (k : ℕ) (v : List B) (r : ℕ) → (r ≡ k → ⊥) → in_place k v r ≡ f r
  unfolding in_place
  out-of-place k v r h = rw (ne_eqb r k h)

  pub block-put : (n i k : ℕ) (v : List B) → k < n → take (k * w) (flat_map f (up_from n i)) ++ (v ++ drop w (drop (k * w) (flat_map f (up_from n i))))
      ≡ flat_map (in_place (i + k) v) (up_from n i)
  unfolding flat_map up_from
  block-put zero i k v h = absurd (omega arith)
  block-put (suc n) i zero v h =
      rw (zero-mul w)
      (ap (λ l. v ++ l) (rw (← wide i) (drop-append_seam (f i) (flat_map f (up_from n (suc i)))) ∙ rest) ∙ ap (λ l. l ++ flat_map (in_place i v) (up_from n (suc i))) (sym (in_place_lem i v))
      ∙ ap (λ (j : ℕ). flat_map (in_place j v) (up_from (suc n) i)) (sym (add-zero i)))
    where
      rest : flat_map f (up_from n (suc i)) ≡ flat_map (in_place i v) (up_from n (suc i))
      rest = flat-same f (in_place i v) (up_from n (suc i)) (λ r m. sym (out-of-place i v r (λ e. omega (arith, e, up_from-range n (suc i) r m))))
  block-put (suc n) i (suc k) v h =
      rw (one_more k i, take-append-add (f i) (flat_map f (up_from n (suc i))) (k * w), drop-append-add (f i) (flat_map f (up_from n (suc i))) (k * w))
      (append_assoc (f i) _ _ ∙ ap (λ l. f i ++ l) (block-put n (suc i) k v (omega arith))
      ∙ ap (λ l. l ++ flat_map (in_place (suc i + k) v) (up_from n (suc i))) (sym (out-of-place (suc i + k) v i (λ e. omega (arith, e))))
      ∙ ap (λ (j : ℕ). in_place j v i ++ flat_map (in_place j v) (up_from n (suc i))) moved)
    where
      moved : suc i + k ≡ i + suc k
      moved = omega arith
