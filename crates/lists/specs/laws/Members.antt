-- In a list of rising numbers the places rise with the numbers.
use Rattle.std.specs.Prelude.{◌≡◌, List, [], ◌∷◌, ℕ, zero, suc, ◌<◌}
use Rattle.std.proofs.Common.{sym, ◌∙◌, arith}
use Rattle.std.proofs.Math.Option.{some}
use Rattle.std.proofs.Math.Decide.{dec_lt}
use Rattle.lists.specs.Place.{at_place}
use Rattle.lists.specs.Order.{Rising}
use Rattle.lists.specs.laws.Bools.{none-some, some-some}
use Rattle.lists.specs.laws.At.{at-member}

pub rising-at : (xs : List ℕ) (j k x y : ℕ) → Rising xs → at_place j xs ≡ some x → at_place k xs ≡ some y → j < k → x < y
unfolding Rising at_place
rising-at [] j k x y r e f l = none-some e
rising-at (z ∷ zs) zero zero x y r e f l = absurd (omega arith)
rising-at (z ∷ zs) zero (suc k) x y r e f l = rw (← (some-some e)) (r.0 y (at-member zs k y f))
rising-at (z ∷ zs) (suc j) zero x y r e f l = absurd (omega arith)
rising-at (z ∷ zs) (suc j) (suc k) x y r e f l = rising-at zs j k x y r.1 e f (omega arith)

pub rising-order : (xs : List ℕ) (j k x y : ℕ) → Rising xs → at_place j xs ≡ some x → at_place k xs ≡ some y → x < y → j < k
rising-order xs j k x y r e f l = go (dec_lt j k) (dec_lt k j)
  where
    go : Dec (j < k) → Dec (k < j) → j < k
    go (yes h) d = h
    go (no h) (yes d) = absurd (omega (arith, rising-at xs k j y x r f e d))
    go (no h) (no d) = let s : j ≡ k = omega arith in let t : x ≡ y = some-some (sym e ∙ rw s f) in absurd (omega arith)
