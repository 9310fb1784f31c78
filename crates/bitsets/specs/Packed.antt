-- Laws of the set of all numbers below 64 that pass a test. Assumes nothing.
use Rattle.std.specs.Prelude.{◌≡◌, refl, Bool, true, false, ◌&&◌, ℕ, zero, suc, ◌+◌, ◌*◌, ◌/◌, ◌%◌, ◌^◌, ◌<◌, eqb, ltb}
use Rattle.std.proofs.Common.{sym, ap, ◌∙◌, pow-suc, arith, lt-ltb}
use Rattle.std.proofs.Math.Dec.{leb-suc-zero, leb-suc-suc, leb-zero}
use Rattle.lists.specs.Numbers.{digit}
use Rattle.lists.specs.laws.Numbers.{digit_lt}
use Rattle.bitsets.specs.Set.{member, packed_below, packed}
use Rattle.bitsets.specs.Laws.{member-empty, member-lowest, member-suc, same-below}

digit-eqb : (b : Bool) → eqb (digit b) 1 ≡ b
unfolding digit
digit-eqb true = refl
digit-eqb false = refl

below-lt : (n : ℕ) (t : ℕ → Bool) → packed_below n t < 2 ^ n
unfolding packed_below
below-lt zero t = omega arith
below-lt (suc n) t = omega (arith, digit_lt (t 0), below-lt n (λ (k : ℕ). t (suc k)), pow-suc 2 n)

-- The members are the numbers that pass.
member_below : (n k : ℕ) (t : ℕ → Bool) → member k (packed_below n t) ≡ ltb k n && t k
unfolding packed_below
member_below zero k t = member-empty k ∙ ap (λ (b : Bool). b && t k) (sym (leb-suc-zero k))
member_below (suc n) zero t =
    let low : (digit (t 0) + 2 * packed_below n (λ (k : ℕ). t (suc k))) % 2 ≡ digit (t 0) = omega (arith, digit_lt (t 0)) in
    member-lowest _ ∙ ap (λ (x : ℕ). eqb x 1) low ∙ digit-eqb (t 0) ∙ ap (λ (b : Bool). b && t 0) (sym (leb-suc-suc 0 n ∙ leb-zero n))
member_below (suc n) (suc k) t =
    let half : (digit (t 0) + 2 * packed_below n (λ (k : ℕ). t (suc k))) / 2 ≡ packed_below n (λ (k : ℕ). t (suc k)) = omega (arith, digit_lt (t 0)) in
    member-suc k _ ∙ ap (member k) half ∙ member_below n k (λ (k : ℕ). t (suc k)) ∙ ap (λ (b : Bool). b && t (suc k)) (sym (leb-suc-suc (suc k) n))

-- It is a word.
pub packed_lt : (t : ℕ → Bool) → packed t < 2 ^ 64
unfolding packed
packed_lt t = below-lt 64 t

pub member-packed : (k : ℕ) (t : ℕ → Bool) → member k (packed t) ≡ ltb k 64 && t k
unfolding packed
member-packed k t = member_below 64 k t

-- The same of a number below 64.
pub member-packed-below : (k : ℕ) (t : ℕ → Bool) → k < 64 → member k (packed t) ≡ t k
member-packed-below k t h = member-packed k t ∙ ap (λ (b : Bool). b && t k) (lt-ltb k 64 h)

-- A word is the set of a test that its members below 64 pass, and no other numbers.
pub packed-is : (x : ℕ) (t : ℕ → Bool) → x < 2 ^ 64 → ((k : ℕ) → k < 64 → member k x ≡ t k) → x ≡ packed t
packed-is x t h f = same-below 64 x (packed t) h (packed_lt t) (λ k l. f k l ∙ sym (member-packed-below k t l))

-- Tests that agree below 64 have one set.
pub packed-same : (t u : ℕ → Bool) → ((k : ℕ) → k < 64 → t k ≡ u k) → packed t ≡ packed u
packed-same t u f = packed-is (packed t) u (packed_lt t) (λ k l. member-packed-below k t l ∙ f k l)
