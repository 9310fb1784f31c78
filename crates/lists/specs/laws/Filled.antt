-- What stands at a place of a list that is filled up.
use Rattle.std.specs.Prelude.{◌≡◌, replicate}
use mathlib.Core.List.{List, [], ◌∷◌, ◌++◌}
use Rattle.std.proofs.Math.Option.{some}
use Prim.Native.Nat.{ℕ, zero, suc, ◌-◌, ◌<◌}
use Rattle.std.proofs.Math.Decide.{dec_lt}
use Rattle.std.proofs.Common.{arith}
use Rattle.std.proofs.Math.ListN.{length, get_or, get_or-eq_default}
use Rattle.std.proofs.lemmas.List.{get_or-replicate, length-replicate}
use Rattle.lists.specs.Place.{at_place}
use Rattle.lists.specs.Cells.{padded}
use Rattle.lists.specs.laws.Bools.{none-some, some-some}

module _ {A : Type 0} where
  -- the filling, wherever it is read
  pub filling : (z k : ℕ) (d : A) → get_or (replicate z d) k d ≡ d
  filling z k d = go (dec_lt k z)
    where
      go : Dec (k < z) → get_or (replicate z d) k d ≡ d
      go (yes l) = get_or-replicate z k d d l
      go (no l) = get_or-eq_default (replicate z d) d (omega (arith, length-replicate z d))

  pub at-padded : (n : ℕ) (d : A) (xs : List A) (k : ℕ) (x : A) → at_place k xs ≡ some x → get_or (padded n d xs) k d ≡ x
  unfolding padded at_place
  at-padded n d xs k x h = on xs k (replicate (n - length xs) d) h
    where
      on : (xs : List A) (k : ℕ) (ys : List A) → at_place k xs ≡ some x → get_or (xs ++ ys) k d ≡ x
      on [] k ys h = none-some h
      on (y ∷ xs) zero ys h = some-some h
      on (y ∷ xs) (suc k) ys h = on xs k ys h
