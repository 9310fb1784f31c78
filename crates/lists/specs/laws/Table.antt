-- A table whose numbers rise gives the number of the row that holds and before which none holds, and 0 exactly where no row holds.
use Rattle.std.specs.Prelude.{◌≡◌, refl, ◌≢◌, ◌↔◌, List, [], ◌∷◌, ◌++◌, Bool, true, false, ℕ, ◌≤◌, ◌<◌, ltb}
use Rattle.std.proofs.Common.{sym, ◌∙◌, arith, ltb-true, eq-eqb, ne_eqb}
use Rattle.std.proofs.Math.Decide.{ℕ_discrete, dec_lt}
use Rattle.lists.specs.Rows.{Row, first_of, test_of}
use Rattle.lists.specs.laws.Bools.{both_true, not-both}
use Rattle.lists.specs.laws.Rows.{rise, no_row}

-- row n holds, and no row with a smaller number does
pub record FirstRow (rs : List Row) (n : ℕ) : Type 0 where
  pub holds : test_of n rs ≡ true
  pub before : (m : ℕ) → m < n → test_of m rs ≡ false

rest-rise : (m : ℕ) (r : Row) (rs : List Row) → rise m (r ∷ rs) ≡ true → (m < r.0) × (rise r.0 rs ≡ true)
unfolding rise
rest-rise m r rs p = let q = both_true (ltb m r.0) (rise r.0 rs) p in (ltb-true m r.0 q.0, q.1)

test-here : (n : ℕ) (r : Row) (rs : List Row) → r.0 ≡ n → test_of n (r ∷ rs) ≡ r.1
unfolding test_of
test-here n r rs e = rw (eq-eqb r.0 n e)

test-past : (n : ℕ) (r : Row) (rs : List Row) → r.0 ≢ n → test_of n (r ∷ rs) ≡ test_of n rs
unfolding test_of
test-past n r rs e = rw (ne_eqb r.0 n e)

first-here : (r : Row) (rs : List Row) → r.1 ≡ true → first_of (r ∷ rs) ≡ r.0
unfolding first_of
first-here r rs e = rw e

first_past : (r : Row) (rs : List Row) → r.1 ≡ false → first_of (r ∷ rs) ≡ first_of rs
unfolding first_of
first_past r rs e = rw e

-- where the numbers stand above m, no row has a number up to m
above : (rs : List Row) (m n : ℕ) → rise m rs ≡ true → n ≤ m → test_of n rs ≡ false
unfolding test_of
above [] m n p l = refl
above (r ∷ rs) m n p l =
    let q = rest-rise m r rs p in
    let past : r.0 ≢ n = omega arith in
    test-past n r rs past ∙ above rs r.0 n q.1 (omega arith)

first-row : (rs : List Row) (m : ℕ) → rise m rs ≡ true → first_of rs ≢ 0 → FirstRow rs (first_of rs)
unfolding first_of
first-row [] m p h = absurd (h refl)
first-row (r ∷ rs) m p h = go (first-row rs r.0 q.1) r.1 refl
  where
    q : (m < r.0) × (rise r.0 rs ≡ true)
    q = rest-rise m r rs p

    go : (first_of rs ≢ 0 → FirstRow rs (first_of rs)) → (b : Bool) → r.1 ≡ b → FirstRow (r ∷ rs) (first_of (r ∷ rs))
    go ih true e = rw (first-here r rs e) (record { holds = test-here r.0 r rs refl ∙ e; before = λ k l. test-past k r rs (omega arith) ∙ above rs r.0 k q.1 (omega arith) })
    go ih false e = rw (first_past r rs e) (record { holds = test-past _ r rs off ∙ f.holds; before = λ k l. by k l (ℕ_discrete r.0 k) })
      where
        f : FirstRow rs (first_of rs)
        f = ih (rw (first_past r rs e) at h)

        off : r.0 ≢ first_of rs
        off g = not-both f.holds (above rs r.0 (first_of rs) q.1 (omega arith))

        by : (k : ℕ) → k < first_of rs → Dec (r.0 ≡ k) → test_of k (r ∷ rs) ≡ false
        by k l (yes g) = test-here k r rs g ∙ e
        by k l (no g) = test-past k r rs g ∙ f.before k l

row_first : (rs : List Row) (m n : ℕ) → rise m rs ≡ true → FirstRow rs n → first_of rs ≡ n
row_first rs m n p f = go (ℕ_discrete (first_of rs) 0)
  where
    same : FirstRow rs (first_of rs) → Dec (first_of rs < n) → Dec (n < first_of rs) → first_of rs ≡ n
    same g (yes l) d = not-both g.holds (f.before (first_of rs) l)
    same g (no l) (yes h) = not-both f.holds (g.before n h)
    same g (no l) (no h) = omega arith

    go : Dec (first_of rs ≡ 0) → first_of rs ≡ n
    go (yes e) = not-both f.holds (no_row n rs m p e)
    go (no e) = same (first-row rs m p e) (dec_lt _ _) (dec_lt _ _)

-- two tables one behind the other: the second decides where no row of the first holds
pub first-in-front : (xs ys : List Row) → first_of xs ≢ 0 → first_of (xs ++ ys) ≡ first_of xs
unfolding first_of
first-in-front [] ys h = absurd (h refl)
first-in-front (r ∷ xs) ys h = go (first-in-front xs ys) r.1 refl
  where
    go : (first_of xs ≢ 0 → first_of (xs ++ ys) ≡ first_of xs) → (b : Bool) → r.1 ≡ b → first_of (r ∷ (xs ++ ys)) ≡ first_of (r ∷ xs)
    go ih true e = first-here r (xs ++ ys) e ∙ sym (first-here r xs e)
    go ih false e = first_past r (xs ++ ys) e ∙ ih (rw (first_past r xs e) at h) ∙ sym (first_past r xs e)

pub first-behind : (xs ys : List Row) (m : ℕ) → rise m xs ≡ true → first_of xs ≡ 0 → first_of (xs ++ ys) ≡ first_of ys
first-behind [] ys m p h = refl
first-behind (r ∷ xs) ys m p h = go (first-behind xs ys r.0 q.1) r.1 refl
  where
    q : (m < r.0) × (rise r.0 xs ≡ true)
    q = rest-rise m r xs p

    go : (first_of xs ≡ 0 → first_of (xs ++ ys) ≡ first_of ys) → (b : Bool) → r.1 ≡ b → first_of (r ∷ (xs ++ ys)) ≡ first_of ys
    go ih true e = absurd (omega (arith, q.0, sym (first-here r xs e) ∙ h))
    go ih false e = first_past r (xs ++ ys) e ∙ ih (sym (first_past r xs e) ∙ h)

module _ (rs : List Row) (p : rise 0 rs ≡ true) where
  -- the number given is n, and not 0: row n is the first that holds
  pub first-is-row : (n : ℕ) → ((first_of rs ≡ n) × (n ≢ 0)) ↔ FirstRow rs n
  first-is-row n = (
    λ h. rw h.0 at (first-row rs 0 p (λ z. h.1 (sym h.0 ∙ z))),
    λ f. (row_first rs 0 n p f, λ z. not-both f.holds (above rs 0 n p (omega arith))),
  )

  -- the number given is 0: no row holds
  pub first-is-none : (first_of rs ≡ 0) ↔ ((n : ℕ) → test_of n rs ≡ false)
  first-is-none = (λ e n. no_row n rs 0 p e, λ h. go h (ℕ_discrete (first_of rs) 0))
    where
      go : ((n : ℕ) → test_of n rs ≡ false) → Dec (first_of rs ≡ 0) → first_of rs ≡ 0
      go h (yes e) = e
      go h (no e) = not-both (first-row rs 0 p e).holds (h (first_of rs))
