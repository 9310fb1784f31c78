-- The decimal digits of a number: the last digit stands behind those of a tenth; there are at most twenty, and below 65,536 at most five.
use Rattle.std.specs.Prelude.{◌≡◌, refl, List, [], ◌∷◌, ◌++◌, ℕ, zero, suc, ◌+◌, ◌/◌, ◌%◌, ◌^◌, ◌≤◌, ◌<◌, length}
use Rattle.std.proofs.Common.{sym, ap, ◌∙◌, append_assoc, pow-suc, arith, lt-ltb, le-ltb}
use Rattle.std.proofs.Math.Decide.{dec_lt}
use Rattle.rules_plan.specs.Print.{digits, decimal}

-- one step of the definition: the only digit, or the last one
one-digit : (k n : ℕ) (rest : List ℕ) → n < 10 → digits (suc k) n rest ≡ (48 + n % 10) ∷ rest
unfolding digits
one-digit k n rest h = rw (lt-ltb n 10 h, digits)

last-digit : (k n : ℕ) (rest : List ℕ) → (n < 10 → ⊥) → digits (suc k) n rest ≡ digits k (n / 10) ((48 + n % 10) ∷ rest)
unfolding digits
last-digit k n rest h = rw (le-ltb n 10 (omega arith), digits)

-- the digits stand in front of the rest
in-front : (k n : ℕ) (rest : List ℕ) → digits k n rest ≡ digits k n [] ++ rest
unfolding digits
in-front zero n rest = refl
in-front (suc k) n rest = go (in-front k (n / 10)) (dec_lt n 10)
  where
    go : ((r : List ℕ) → digits k (n / 10) r ≡ digits k (n / 10) [] ++ r) → Dec (n < 10) → digits (suc k) n rest ≡ digits (suc k) n [] ++ rest
    go ih (yes h) = rw (one-digit k n rest h, one-digit k n [] h)
    go ih (no h) = rw (last-digit k n rest h, last-digit k n [] h, ih ((48 + n % 10) ∷ rest), ih ((48 + n % 10) ∷ []), append_assoc)

-- where there are places enough, more of them give the same digits
stable : (j k n : ℕ) (rest : List ℕ) → n < 10 ^ suc j → n < 10 ^ suc k → digits (suc j) n rest ≡ digits (suc k) n rest
stable zero k n rest a b = one-digit zero n rest a ∙ sym (one-digit k n rest a)
stable (suc j) zero n rest a b = one-digit (suc j) n rest b ∙ sym (one-digit zero n rest b)
stable (suc j) (suc k) n rest a b = go (stable j k (n / 10)) (dec_lt n 10)
  where
    go : ((r : List ℕ) → n / 10 < 10 ^ suc j → n / 10 < 10 ^ suc k → digits (suc j) (n / 10) r ≡ digits (suc k) (n / 10) r)
        → Dec (n < 10) → digits (suc (suc j)) n rest ≡ digits (suc (suc k)) n rest
    go ih (yes h) = one-digit (suc j) n rest h ∙ sym (one-digit (suc k) n rest h)
    go ih (no h) =
        last-digit (suc j) n rest h ∙ ih ((48 + n % 10) ∷ rest) (omega (arith, pow-suc 10 (suc j))) (omega (arith, pow-suc 10 (suc k)))
        ∙ sym (last-digit (suc k) n rest h)

-- no more digits than places
short : (k n : ℕ) (rest : List ℕ) → length (digits k n rest) ≤ k + length rest
unfolding digits
short zero n rest = omega arith
short (suc k) n rest = go (short k (n / 10) ((48 + n % 10) ∷ rest)) (dec_lt n 10)
  where
    go : length (digits k (n / 10) ((48 + n % 10) ∷ rest)) ≤ k + suc (length rest) → Dec (n < 10) → length (digits (suc k) n rest) ≤ suc k + length rest
    go ih (yes h) = omega (arith, ap length (one-digit k n rest h))
    go ih (no h) = omega (arith, ap length (last-digit k n rest h))

-- a number below ten is one digit; any other has a last digit behind the digits of its tenth
pub decimal-small : (n : ℕ) → n < 10 → decimal n ≡ (48 + n % 10) ∷ []
unfolding decimal
decimal-small n h = one-digit 19 n [] h

pub decimal-more : (n : ℕ) → 10 ≤ n → n < 18_446_744_073_709_551_616 → decimal n ≡ decimal (n / 10) ++ ((48 + n % 10) ∷ [])
unfolding decimal
decimal-more n l h =
    last-digit 19 n [] (omega arith) ∙ in-front 19 (n / 10) ((48 + n % 10) ∷ [])
    ∙ ap (λ (ds : List ℕ). ds ++ ((48 + n % 10) ∷ [])) (stable 18 19 (n / 10) [] (omega arith) (omega arith))

-- how many digits there are
pub decimal-length : (n : ℕ) → n < 65_536 → length (decimal n) ≤ 5
unfolding decimal
decimal-length n h = omega (arith, ap length (stable 19 4 n [] (omega arith) (omega arith)), short 5 n [])

pub decimal-most : (n : ℕ) → length (decimal n) ≤ 20
unfolding decimal
decimal-most n = short 20 n []
