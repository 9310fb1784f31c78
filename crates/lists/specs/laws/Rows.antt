-- Laws of a table's rows.
use Rattle.std.specs.Prelude.{◌≡◌, refl, List, [], ◌∷◌, Bool, true, false, ◌&&◌, cond, ℕ, ltb, eqb}
use Rattle.std.proofs.Common.{arith, ltb-true}
use Rattle.lists.specs.Rows.{Row, first_of, test_of}
use Rattle.lists.specs.laws.Bools.{both_true}

-- the rows' numbers rise, from above n on
unfoldable pub rise : ℕ → List Row → Bool
rise n [] = true
rise n (r ∷ rs) = ltb n r.0 && rise r.0 rs

-- no row holds: the test of row n fails
pub no_row : (n : ℕ) (rs : List Row) (m : ℕ) → rise m rs ≡ true → first_of rs ≡ 0 → test_of n rs ≡ false
unfolding first_of test_of rise
no_row n [] m p h = refl
no_row n (r ∷ rs) m p h = go (no_row n rs r.0) r.1 refl
  where
    q : (ltb m r.0 ≡ true) × (rise r.0 rs ≡ true)
    q = both_true (ltb m r.0) (rise r.0 rs) p

    both : (b : Bool) → test_of n rs ≡ false → cond b false (test_of n rs) ≡ false
    both true e = refl
    both false e = e

    go : (rise r.0 rs ≡ true → first_of rs ≡ 0 → test_of n rs ≡ false) → (b : Bool) → r.1 ≡ b → cond (eqb r.0 n) r.1 (test_of n rs) ≡ false
    go ih true e = let z : r.0 ≡ 0 = rw e at h in absurd (omega (arith, ltb-true m r.0 q.0))
    go ih false e = rw e (both (eqb r.0 n) (ih q.1 (rw e at h)))
