-- Laws of the searches and counts through the numbers, over any test. Assumes nothing.
use Rattle.std.specs.Prelude.{◌≡◌, refl, Bool, true, false, ℕ, zero, suc, ◌+◌, ◌≤◌, ◌<◌}
use Rattle.std.proofs.Common.{ap, ◌∙◌, true≢false, arith, below_more}
use Rattle.std.proofs.lemmas.Bool.{false≢true}
use Rattle.std.proofs.Math.Logic.{by_cases}
use Rattle.std.proofs.Math.Decide.{dec_lt}
use Rattle.lists.specs.Numbers.{digit, any_below, count_below, first_from}

-- Where some number below n passes the test, there is one that does.
pub any-true : (n : ℕ) (p : ℕ → Bool) → any_below n p ≡ true → (k : ℕ) × (k < n) × (p k ≡ true)
unfolding any_below
any-true zero p e = absurd (false≢true e)
any-true (suc n) p e = go (p n) refl e (any-true n p)
  where
    go : (b : Bool) → p n ≡ b → elim b [ true ↦ true | false ↦ any_below n p ] ≡ true
        → (any_below n p ≡ true → (k : ℕ) × (k < n) × (p k ≡ true)) → (k : ℕ) × (k < suc n) × (p k ≡ true)
    go true q e ih = (n, omega arith, q)
    go false q e ih = let r = ih e in (r.0, omega (arith, r.1), r.2)

-- Where none does, each of them fails it.
pub any_false : (n : ℕ) (p : ℕ → Bool) → any_below n p ≡ false → (k : ℕ) → k < n → p k ≡ false
unfolding any_below
any_false zero p e k h = absurd (omega arith)
any_false (suc n) p e k h = go (p n) refl e (any_false n p)
  where
    go : (b : Bool) → p n ≡ b → elim b [ true ↦ true | false ↦ any_below n p ] ≡ false
        → (any_below n p ≡ false → (k : ℕ) → k < n → p k ≡ false) → p k ≡ false
    go true q e ih = absurd (true≢false e)
    go false q e ih = below_more (λ (j : ℕ). p j ≡ false) n (ih e) q k (omega arith)

-- What the search over the n numbers from k on finds: the first of them that passes the test, or the number after them.
pub record Finds (n k : ℕ) (p : ℕ → Bool) (r : ℕ) : Type 0 where
  pub from : k ≤ r
  pub upto : r ≤ k + n
  pub found : r < k + n → p r ≡ true
  pub before : (j : ℕ) → k ≤ j → j < r → p j ≡ false

-- The search finds just that.
pub first-from : (n k : ℕ) (p : ℕ → Bool) → Finds n k p (first_from n k p)
unfolding first_from
first-from zero k p =
    record {
      from = omega arith;
      upto = omega arith;
      found = λ h. absurd (omega arith);
      before = λ j l h. absurd (omega arith);
    }
first-from (suc n) k p = go (p k) refl (first-from n (suc k) p)
  where
    go : (b : Bool) → p k ≡ b → Finds n (suc k) p (first_from n (suc k) p)
        → Finds (suc n) k p (elim b [ true ↦ k | false ↦ first_from n (suc k) p ])
    go true q ih =
        record {
          from = omega arith;
          upto = omega arith;
          found = λ h. q;
          before = λ j l h. absurd (omega arith);
        }
    go false q ih =
        record {
          from = omega arith;
          upto = omega arith;
          found = λ h. ih.found (omega arith);
          before = λ j l h. by_cases (dec_lt k j) (λ g. ih.before j g h) (λ g. ap p (omega arith) ∙ q);
        }

-- A digit is 0 or 1.
pub digit_lt : (b : Bool) → digit b < 2
unfolding digit
digit_lt true = omega arith
digit_lt false = omega arith

-- No more than n numbers below n pass a test.
pub count-le : (n : ℕ) (p : ℕ → Bool) → count_below n p ≤ n
unfolding count_below
count-le zero p = omega arith
count-le (suc n) p = omega (arith, digit_lt (p n), count-le n p)
