-- Laws of sets, for the crates that use them: the members of a number, that they tell one word from another,
-- and what the least member, the size and the test for common members say. Assumes nothing.
use Rattle.std.specs.Prelude.{◌≡◌, refl, Bool, true, false, not, ◌&&◌, ◌||◌, ◌↔◌, ℕ, zero, suc, ◌+◌, ◌-◌, ◌*◌, ◌/◌, ◌%◌, ◌^◌, ◌≤◌, ◌<◌, min, max, eqb, ltb}
use Rattle.std.proofs.Common.{sym, ap, ap₂, ◌∙◌, div-one, lt_of_lt_of_le, pow-suc, one-add, arith, pow_mono, shr-shr, eq-eqb, ne_eqb, lt-ltb}
use mathlib.Core.List.{List, Memᴰ}
use Rattle.std.proofs.Math.Bool.{and-true}
use Rattle.std.proofs.lemmas.Bool.{false≢true, eqb-false, not-true, not-false}
use Rattle.std.proofs.Math.Logic.{by_cases}
use Rattle.std.proofs.Math.Nat.{zero-div, div-eq_of_lt}
use Rattle.std.proofs.Math.Decide.{dec_lt}
use Rattle.std.proofs.Math.Arith.{digits_mod}
use Rattle.std.specs.Int.Bits.{bit_and, bit_or, and_step, or_step}
use Rattle.std.proofs.lemmas.Nat.{and_shr, or_shr}
use Rattle.std.proofs.Math.Dec.{eqb-zero-suc, eqb-suc-zero, eqb-suc-suc, leb-zero, leb-suc-zero, leb-suc-suc}
use Rattle.lists.specs.Search.{all}
use Rattle.lists.specs.Numbers.{digit, any_below, first_from}
use Rattle.lists.specs.laws.Bools.{both_true, true-both, not-both, same_test}
use Rattle.lists.specs.laws.Search.{all-elim, all-intro, is_in-elim, is_in-intro}
use Rattle.lists.specs.laws.Numbers.{Finds, any-true, any_false, first-from, digit_lt, count-le}
use Rattle.lists.specs.laws.Sweep.{none_below}
use Rattle.bitsets.specs.Set.{member, added, members, common, listed, only_in, disjoint_of, within_of, least_of, size_of}

-- The digit of s at the place k is that of the test for k.
pub bit-of : (k s : ℕ) → s / 2 ^ k % 2 ≡ digit (member k s)
unfolding member digit
bit-of k s = go (s / 2 ^ k % 2) (omega arith)
  where
    go : (d : ℕ) → d < 2 → d ≡ digit (eqb d 1)
    go zero h = refl
    go (suc zero) h = refl
    go (suc (suc d)) h = absurd (omega arith)

-- A number whose digit at the place k is that of b has k in it just where b says so.
member_of : (k s : ℕ) (b : Bool) → s / 2 ^ k % 2 ≡ digit b → member k s ≡ b
unfolding member digit
member_of k s true e = eq-eqb _ 1 e
member_of k s false e = rw e

-- The same of a number whose part from the place k on is two times something and the digit of b.
member-by : (k r q d : ℕ) (b : Bool) → r / 2 ^ k ≡ q * 2 + d → d ≡ digit b → member k r ≡ b
member-by k r q d b e f = member_of k r b (ap (λ (x : ℕ). x % 2) (e ∙ ap (λ (x : ℕ). q * 2 + x) f) ∙ digits_mod q (digit_lt b))

-- The lowest digit is the remainder by two.
pub member-lowest : (s : ℕ) → member 0 s ≡ eqb (s % 2) 1
unfolding member
member-lowest s = ap (λ (x : ℕ). eqb (x % 2) 1) (div-one s)

-- The other digits are those of the half.
pub member-suc : (k s : ℕ) → member (suc k) s ≡ member k (s / 2)
unfolding member
member-suc k s = ap (λ (x : ℕ). eqb (x % 2) 1) (ap (λ (j : ℕ). s / 2 ^ j) (sym (one-add k)) ∙ sym (shr-shr s 1 k))

-- Nothing is in the set 0.
pub member-empty : (k : ℕ) → member k 0 ≡ false
unfolding member
member-empty k = ap (λ (x : ℕ). eqb (x % 2) 1) (zero-div (2 ^ k))

-- A word with t added has, below 64, t and what it had.
pub added-below : (t s m : ℕ) → m < 64 → added t s m ≡ (eqb m t || member m s)
added-below t s m h = rw (lt-ltb m 64 h) (ap (λ b. b || member m s) (and-true (eqb m t)))

-- A number of w digits has no member from w on.
pub member-beyond : (w k s : ℕ) → s < 2 ^ w → w ≤ k → member k s ≡ false
unfolding member
member-beyond w k s h g = ap (λ (x : ℕ). eqb (x % 2) 1) (div-eq_of_lt (lt_of_lt_of_le h (pow_mono g)))

-- A power of two has one member.
pub member-single : (k t : ℕ) → member k (2 ^ t) ≡ eqb k t
member-single zero zero = member-lowest 1
member-single zero (suc t) = member-lowest (2 ^ suc t) ∙ ne_eqb (2 ^ suc t % 2) 1 (λ e. omega (arith, e, pow-suc 2 t)) ∙ sym (eqb-zero-suc t)
member-single (suc k) zero = member-suc k 1 ∙ member-empty k ∙ sym (eqb-suc-zero k)
member-single (suc k) (suc t) =
    let half : 2 ^ suc t / 2 ≡ 2 ^ t = omega (arith, pow-suc 2 t) in
    member-suc k (2 ^ suc t) ∙ ap (member k) half ∙ member-single k t ∙ sym (eqb-suc-suc k t)

-- The larger of two digits is that of either test.
digit_or : (b c : Bool) → max (digit b) (digit c) ≡ digit (b || c)
unfolding digit
digit_or true true = refl
digit_or true false = refl
digit_or false true = refl
digit_or false false = refl

-- The smaller of two digits is that of both tests.
digit_and : (b c : Bool) → min (digit b) (digit c) ≡ digit (b && c)
unfolding digit
digit_and true true = refl
digit_and true false = refl
digit_and false true = refl
digit_and false false = refl

-- The members of `|` are those of either number.
pub member-or : (k a b : ℕ) → member k (bit_or a b) ≡ (member k a || member k b)
member-or k a b =
    member-by k (bit_or a b) _ _ _ (or_shr a b k ∙ or_step (a / 2 ^ k) (b / 2 ^ k))
    (ap₂ max (bit-of k a) (bit-of k b) ∙ digit_or (member k a) (member k b))

-- The members of `&` are those of both numbers.
pub member-and : (k a b : ℕ) → member k (bit_and a b) ≡ common a b k
member-and k a b =
    member-by k (bit_and a b) _ _ _ (and_shr a b k ∙ and_step (a / 2 ^ k) (b / 2 ^ k))
    (ap₂ min (bit-of k a) (bit-of k b) ∙ digit_and (member k a) (member k b))

-- The complement of s in w digits has the numbers below w that are not in s.
pub member-flip : (w k s : ℕ) → s < 2 ^ w → member k ((2 ^ w - 1) - s) ≡ (ltb k w && not (member k s))
member-flip zero k s h =
    let z : (2 ^ 0 - 1) - s ≡ 0 = omega arith in
    ap (member k) z ∙ member-empty k ∙ ap (λ (b : Bool). b && not (member k s)) (sym (leb-suc-zero k))
member-flip (suc w) zero s h =
    let d : ((2 ^ suc w - 1) - s) % 2 ≡ 1 - s % 2 = omega (arith, pow-suc 2 w) in
    member-lowest ((2 ^ suc w - 1) - s) ∙ ap (λ (x : ℕ). eqb x 1) d ∙ turned (s % 2) (omega arith)
    ∙ ap₂ (λ (b c : Bool). b && not c) (sym (leb-suc-suc 0 w ∙ leb-zero w)) (sym (member-lowest s))
  where
    turned : (d : ℕ) → d < 2 → eqb (1 - d) 1 ≡ not (eqb d 1)
    turned zero h = refl
    turned (suc zero) h = refl
    turned (suc (suc d)) h = absurd (omega arith)
member-flip (suc w) (suc k) s h =
    let half : ((2 ^ suc w - 1) - s) / 2 ≡ (2 ^ w - 1) - s / 2 = omega (arith, pow-suc 2 w) in
    member-suc k ((2 ^ suc w - 1) - s) ∙ ap (member k) half ∙ member-flip w k (s / 2) (omega (arith, pow-suc 2 w))
    ∙ ap₂ (λ (b c : Bool). b && not c) (sym (leb-suc-suc (suc k) w)) (sym (member-suc k s))

-- Two numbers of w digits are equal where they have the same members below w.
pub same-below : (w a b : ℕ) → a < 2 ^ w → b < 2 ^ w → ((k : ℕ) → k < w → member k a ≡ member k b) → a ≡ b
same-below zero a b ha hb h = omega arith
same-below (suc w) a b ha hb h =
    let low : a / 2 ^ 0 % 2 ≡ b / 2 ^ 0 % 2 = bit-of 0 a ∙ ap digit (h 0 (omega arith)) ∙ sym (bit-of 0 b) in
    let half : a / 2 ≡ b / 2 =
    same-below w (a / 2) (b / 2) (omega (arith, pow-suc 2 w)) (omega (arith, pow-suc 2 w))
    (λ k l. sym (member-suc k a) ∙ h (suc k) (omega arith) ∙ member-suc k b) in
    omega arith

-- Two words are equal where they have the same members, so a contract that names the members of a word leaves no choice of it.
pub same-members : (a b : ℕ) → a < 2 ^ 64 → b < 2 ^ 64 → ((k : ℕ) → member k a ≡ member k b) → a ≡ b
same-members a b ha hb h = same-below 64 a b ha hb (λ k _. h k)

-- A word with no member is 0.
pub no-members : (s : ℕ) → s < 2 ^ 64 → ((k : ℕ) → k < 64 → member k s ≡ false) → s ≡ 0
no-members s h f = same-below 64 s 0 h (omega arith) (λ k l. f k l ∙ sym (member-empty k))

-- The least member is what the search from 0 on finds.
least_first : (s : ℕ) → Finds 64 0 (members s) (least_of s)
unfolding least_of
least_first s = first-from 64 0 (members s)

-- It is at most 64.
pub least-le : (s : ℕ) → least_of s ≤ 64
least-le s = (least_first s).upto

-- Below 64 it is a member.
pub least-in : (s : ℕ) → least_of s < 64 → member (least_of s) s ≡ true
least-in s h = (least_first s).found h

-- No number before it is a member.
pub least-before : (s k : ℕ) → k < least_of s → member k s ≡ false
least-before s k h = (least_first s).before k (omega arith) h

-- It is 64 for the empty set, and for no other word.
pub least-none : (s : ℕ) → s < 2 ^ 64 → (least_of s ≡ 64) ↔ (s ≡ 0)
unfolding least_of first_from member
least-none s h = (λ e. no-members s h (λ k l. least-before s k (omega arith)), λ e. ap least_of e)

-- It is below 64 for every other word.
pub least_lt : (s : ℕ) → s < 2 ^ 64 → (s ≡ 0 → ⊥) → least_of s < 64
least_lt s h d =
    let full : least_of s ≡ 64 → ⊥ = λ e. d ((least-none s h).0 e) in
    omega (arith, least-le s)

-- Without it the least member is a greater number.
pub least-rises : (s r : ℕ) → least_of s < 64 → ((k : ℕ) → member k r ≡ (not (eqb k (least_of s)) && member k s)) → least_of s < least_of r
least-rises s r l m = by_cases (dec_lt (least_of s) (least_of r)) (λ h. h) (λ h. absurd (go h))
  where
    go : (least_of s < least_of r → ⊥) → ⊥
    go h =
        let (a, b) = both_true (not (eqb (least_of r) (least_of s))) (member (least_of r) s) (sym (m (least_of r)) ∙ least-in r (omega arith)) in
        let other : least_of r ≡ least_of s → ⊥ = eqb-false (least_of r) (least_of s) (not-true (eqb (least_of r) (least_of s)) a) in
        not-both b (least-before s (least_of r) (omega arith))

-- A set has at most 64 members.
pub size-le : (s : ℕ) → size_of s ≤ 64
unfolding size_of
size-le s = count-le 64 (members s)

-- Two sets that are not disjoint have a common member.
pub disjoint-common : (a b : ℕ) → disjoint_of a b ≡ false → (k : ℕ) × (k < 64) × (common a b k ≡ true)
unfolding disjoint_of
disjoint-common a b e = any-true 64 (common a b) (not-false (any_below 64 (common a b)) e)

-- Two words are disjoint just where no number is in both.
pub disjoint-none : (a b : ℕ) → a < 2 ^ 64 → (disjoint_of a b ≡ true) ↔ ((k : ℕ) → common a b k ≡ false)
unfolding disjoint_of
disjoint-none a b h = (apart, λ f. decided (disjoint_of a b) refl f)
  where
    apart : disjoint_of a b ≡ true → (k : ℕ) → common a b k ≡ false
    apart e k =
        by_cases (dec_lt k 64) (λ l. any_false 64 (common a b) (not-true (any_below 64 (common a b)) e) k l)
        (λ l. ap (λ (c : Bool). c && member k b) (member-beyond 64 k a h (omega arith)))

    decided : (c : Bool) → disjoint_of a b ≡ c → ((k : ℕ) → common a b k ≡ false) → c ≡ true
    decided true e f = refl
    decided false e f = let r = disjoint-common a b e in absurd (false≢true (sym (f r.0) ∙ r.2))

-- The set of a list of numbers below 64 is within b just where every number of the list is in b.
pub within-listed : (xs : List ℕ) (a b : ℕ) → ((x : ℕ) → Memᴰ x xs → x < 64) → ((k : ℕ) → member k a ≡ listed xs k)
    → within_of a b ≡ all (λ (n : ℕ). member n b) xs
unfolding within_of
within-listed xs a b low is = same_test _ _ (λ e. all-intro _ xs (there (not-true _ e))) (λ e. ap not (none_below 64 (only_in a b) (back e)))
  where
    there : any_below 64 (only_in a b) ≡ false → (x : ℕ) → Memᴰ x xs → member x b ≡ true
    there e x m = not-false _ (rw (in-a) at (any_false 64 (only_in a b) e x (low x m)))
      where
        in-a : member x a ≡ true
        in-a = is x ∙ true-both (is_in-intro x xs m) (lt-ltb x 64 (low x m))

    back : all (λ (n : ℕ). member n b) xs ≡ true → (k : ℕ) → k < 64 → only_in a b k ≡ false
    back e k l = go (member k a) refl
      where
        go : (c : Bool) → member k a ≡ c → c && not (member k b) ≡ false
        go true h = ap not (all-elim (λ (n : ℕ). member n b) xs k e (is_in-elim k xs (both_true _ _ (sym (is k) ∙ h)).0))
        go false h = refl
