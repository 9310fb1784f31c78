-- The front of a buffer that is all 0, lent and handed back. Assumes nothing.
use mathlib.Core.Path.{◌≡◌, refl, sym, ap, ◌∙◌}
use mathlib.Core.List.{List, ◌∷◌, ◌++◌}
use Prim.Native.Nat.{ℕ, zero, suc, ◌≤◌}
use native.Mathlib.Omega.{arith}
use lib.ListN.{length, take, drop, replicate, length-append, length-replicate}
use lib.Seq.{take_at}

front-zero : (n room : ℕ) → room ≤ n → take room (replicate {A = ℕ} n 0) ≡ replicate room 0
front-zero n zero h = refl
front-zero zero (suc room) h = absurd (omega arith)
front-zero (suc n) (suc room) h = ap (λ (l : List ℕ). 0 ∷ l) (front-zero n room (omega arith))

module _ (n : ℕ) {room : ℕ} {b : List ℕ} (e : b ≡ replicate n 0) (h : room ≤ n) where
  pub zeros : take room b ≡ replicate room 0
  zeros = rw e (front-zero n room h)

  pub lent-size : room ≡ length (take room b)
  lent-size = sym (ap length zeros ∙ length-replicate room 0)

  module _ (x : List ℕ) (k : length x ≡ length (take room b)) where
    pub back : take room (x ++ drop room b) ≡ x
    back = take_at x (drop room b) room (k ∙ sym lent-size)

    pub back-size : room ≡ length (take room (x ++ drop room b))
    back-size = lent-size ∙ sym k ∙ ap length (sym back)

    pub back-within : room ≤ length (x ++ drop room b)
    back-within = rw (length-append x (drop room b)) (omega (arith, lent-size))

    pub back-most : length (take room (x ++ drop room b)) ≤ n
    back-most = omega (arith, back-size)
