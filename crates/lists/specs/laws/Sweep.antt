-- Laws of a search that goes through the numbers one by one: what it has passed decides what it finds.
use Rattle.std.specs.Prelude.{◌≡◌, Bool, ◌||◌}
use Rattle.std.proofs.Math.Path.{refl, ap}
use Rattle.std.proofs.Common.{◌∙◌, arith}
use Rattle.std.proofs.Math.Option.{Option, none, some}
use Rattle.std.proofs.Math.Bool.{true, false, or-true, or-false}
use Prim.Native.Nat.{ℕ, zero, suc, ◌+◌, ◌≤◌, ◌<◌}
use Rattle.std.proofs.Math.Numerals.{add-one}
use Rattle.std.proofs.Math.Decide.{ℕ_discrete, dec_lt}
use Rattle.lists.specs.Numbers.{any_below, first_from}
use Rattle.lists.specs.Search.{seek, least}
use Rattle.lists.specs.laws.Bools.{not-both}
use Rattle.lists.specs.laws.Numbers.{Finds, any-true, any_false, first-from}

module _ (n : ℕ) (p : ℕ → Bool) where
  -- whether some number below n passes
  pub any_below_lem : (k : ℕ) → k < n → p k ≡ true → any_below n p ≡ true
  any_below_lem k h e = go (any_below n p) refl
    where
      go : (b : Bool) → any_below n p ≡ b → any_below n p ≡ true
      go true q = q
      go false q = not-both e (any_false n p q k h)

  pub none_below : ((k : ℕ) → k < n → p k ≡ false) → any_below n p ≡ false
  none_below h = go (any_below n p) refl
    where
      go : (b : Bool) → any_below n p ≡ b → any_below n p ≡ false
      go true q = let (k, l, e) = any-true n p q in not-both e (h k l)
      go false q = q

  -- what is known of the numbers below n, with n itself
  pub any-more : (b c : Bool) → b ≡ any_below n p → c ≡ b || p n → c ≡ any_below (n + 1) p
  unfolding any_below
  any-more b c e f = f ∙ ap (λ (d : Bool). d || p n) e ∙ rw add-one (go (p n) refl)
    where
      go : (d : Bool) → p n ≡ d → any_below n p || p n ≡ any_below (suc n) p
      go true q = rw (q, any_below) (or-true (any_below n p))
      go false q = rw (q, any_below) (or-false (any_below n p))

-- the first of the n numbers from k on that passes
module _ (n k : ℕ) (p : ℕ → Bool) where
  only-first : (r : ℕ) → Finds n k p r → r ≡ first_from n k p
  only-first r f = go (first-from n k p) (dec_lt r (first_from n k p)) (dec_lt (first_from n k p) r)
    where
      go : Finds n k p (first_from n k p) → Dec (r < first_from n k p) → Dec (first_from n k p < r) → r ≡ first_from n k p
      go g (yes l) d = not-both (f.found (omega (arith, g.upto))) (g.before r f.from l)
      go g (no l) (yes h) = not-both (g.found (omega (arith, f.upto))) (f.before (first_from n k p) g.from h)
      go g (no l) (no h) = omega arith

  pub first-here : (j : ℕ) → k ≤ j → j < k + n → p j ≡ true → ((m : ℕ) → k ≤ m → m < j → p m ≡ false) → j ≡ first_from n k p
  first-here j l h e b = only-first j (record { from = l; upto = omega arith; found = λ _. e; before = b })

  pub first-none : (j : ℕ) → j ≡ k + n → ((m : ℕ) → k ≤ m → m < j → p m ≡ false) → j ≡ first_from n k p
  first-none j h b = only-first j (record { from = omega arith; upto = omega arith; found = λ l. absurd (omega arith); before = b })

-- the least number below 64 that has an answer
module _ {A : Type 0} (f : ℕ → Option A) where
  seek_is : (k i n : ℕ) (r : A) → i ≤ n → n < i + k → f n ≡ some r → ((m : ℕ) → i ≤ m → m < n → f m ≡ none) → seek k i f ≡ some r
  unfolding seek
  seek_is zero i n r l h e b = absurd (omega arith)
  seek_is (suc k) i n r l h e b = go (seek_is k (suc i) n r) (ℕ_discrete n i)
    where
      go : (suc i ≤ n → n < suc i + k → f n ≡ some r → ((m : ℕ) → suc i ≤ m → m < n → f m ≡ none) → seek k (suc i) f ≡ some r) → Dec (n ≡ i) → seek (suc k) i f ≡ some r
      go ih (yes d) = rw (rw d at e, seek)
      go ih (no d) = rw (b i (omega arith) (omega arith), seek) (ih (omega arith) (omega arith) e (λ m a c. b m (omega arith) c))

  seek-nothing : (k i : ℕ) → ((m : ℕ) → i ≤ m → m < i + k → f m ≡ none) → seek k i f ≡ none
  unfolding seek
  seek-nothing zero i b = refl
  seek-nothing (suc k) i b = rw (b i (omega arith) (omega arith), seek) (seek-nothing k (suc i) (λ m a c. b m (omega arith) (omega arith)))

  pub least-is : (n : ℕ) (r : A) → n < 64 → f n ≡ some r → ((m : ℕ) → m < n → f m ≡ none) → least f ≡ some r
  unfolding least
  least-is n r h e b = seek_is 64 0 n r (omega arith) (omega arith) e (λ m _ l. b m l)

  pub least-nothing : ((m : ℕ) → m < 64 → f m ≡ none) → least f ≡ none
  unfolding least
  least-nothing b = seek-nothing 64 0 (λ m _ l. b m (omega arith))
