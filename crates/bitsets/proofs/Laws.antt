-- From what the machine computes to what the contracts say: a law for each function that is not one of specs/Laws.antt already.
-- Assumes nothing.
use mathlib.Core.Path.{◌≡◌, refl, sym, ap, ap₂, ◌∙◌}
use mathlib.Core.Bool.{Bool, true, false, not, ◌&&◌, ◌||◌, and-true, and-false, and_self, and-or_distrib_right, false≢true}
use mathlib.Core.List.{List}
use Prim.Native.Nat.{ℕ, zero, suc, ◌+◌, ◌-◌, ◌*◌, ◌/◌, ◌%◌, ◌^◌, ◌≤◌, ◌<◌}
use native.Mathlib.Nat.{mod-one, mod-lt, mod-eq_of_lt, one-mul, div-one}
use native.Mathlib.Numerals.{add-one, one-add}
use native.Mathlib.Omega.{arith}
use lib.Bits.{bit_and}
use lib.Count.{ones, ones_cat, count_trailing_zeros, under}
use lib.Dec.{eqb, ltb, lit<, eqb-suc-zero, eqb-suc-suc}
use lib.ListN.{length, get_or, take}
use lib.Pow.{pow_pos, shl_exact, shr-shr, mod-pow-add}
use lib.Seq.{take-suc}
use borrow.Author.Tests.{eqb-true, eqb-false, eq-eqb, ne_eqb, lt-ltb, le-ltb, ltb-false}
use Rattle.bitsets.specs.Set.{member, members, alone, added, common, listed, only_in, disjoint_of, within_of, least_of, size_of}
use Rattle.lists.specs.Numbers.{digit, any_below, count_below, first_from}
use Rattle.bitsets.specs.Laws.{bit-of, member-empty, member-lowest, member-suc, member-single, member-beyond, member-and, member-flip, no-members, least-in, least-before, least_lt, disjoint-common, disjoint-none}
use Rattle.lists.specs.Search.{is_in}
use Rattle.lists.specs.laws.Search.{is_in-snoc}

-- The bound can be asked of t in place of k, since only a k that is t passes the other test.
alone-is : (t k : ℕ) (b : Bool) → ltb t 64 ≡ b → (eqb k t && b) ≡ alone t k
alone-is t k b h = go (eqb k t) refl
  where
    go : (e : Bool) → eqb k t ≡ e → (e && b) ≡ (e && ltb k 64)
    go true q = sym (ap (λ (x : ℕ). ltb x 64) (eqb-true k t q) ∙ h)
    go false q = refl

-- Below 64 that set is `1 << t`, which the machine cuts to 64 bits.
pub alone-low : (t : ℕ) → t < 64 → (k : ℕ) → member k ((1 * 2 ^ t) % 2 ^ 64) ≡ alone t k
alone-low t h k =
    ap (member k) (shl_exact {a = 1} 1 t 64 (lit< tt) (omega arith) ∙ one-mul (2 ^ t)) ∙ member-single k t
    ∙ sym (and-true (eqb k t)) ∙ alone-is t k true (lt-ltb t 64 h)

-- From 64 on it is the empty set.
pub alone-high : (t : ℕ) → 64 ≤ t → (k : ℕ) → member k 0 ≡ alone t k
alone-high t h k = member-empty k ∙ sym (and-false (eqb k t)) ∙ alone-is t k false (le-ltb t 64 h)

-- The complement of the set of t alone takes t out of a word.
pub taken_out : (s t x : ℕ) → s < 2 ^ 64 → x < 2 ^ 64 → ((k : ℕ) → member k x ≡ alone t k)
    → (k : ℕ) → member k (bit_and ((2 ^ 64 - 1) - x) s) ≡ (not (eqb k t) && member k s)
taken_out s t x hs hx m k =
    member-and k ((2 ^ 64 - 1) - x) s ∙ ap (λ (b : Bool). b && member k s) (member-flip 64 k x hx ∙ ap (λ (b : Bool). ltb k 64 && not b) (m k))
    ∙ go (ltb k 64) (eqb k t) refl
  where
    go : (l e : Bool) → ltb k 64 ≡ l → ((l && not (e && l)) && member k s) ≡ (not e && member k s)
    go true true q = refl
    go true false q = refl
    go false true q = refl
    go false false q = sym (member-beyond 64 k s hs (ltb-false k 64 q))

-- A word with the common members of two sets is 0 just where the sets are disjoint.
pub disjoint-word : (a b x : ℕ) → a < 2 ^ 64 → x < 2 ^ 64 → ((k : ℕ) → member k x ≡ common a b k) → eqb x 0 ≡ disjoint_of a b
disjoint-word a b x ha hx m = go (disjoint_of a b) refl
  where
    go : (d : Bool) → disjoint_of a b ≡ d → eqb x 0 ≡ d
    go true e = eq-eqb x 0 (no-members x hx (λ k l. m k ∙ (disjoint-none a b ha).0 e k))
    go false e =
        let r = disjoint-common a b e in
        ne_eqb x 0 (λ z. false≢true (sym (member-empty r.0) ∙ ap (member r.0) (sym z) ∙ m r.0 ∙ r.2))

-- Tests that agree below n pass some number below n or none.
below-same : (n : ℕ) (p q : ℕ → Bool) → ((k : ℕ) → k < n → p k ≡ q k) → any_below n p ≡ any_below n q
unfolding any_below
below-same zero p q f = refl
below-same (suc n) p q f =
    ap₂ (λ (b c : Bool). elim b [ true ↦ true | false ↦ c ]) (f n (omega arith)) (below-same n p q (λ k h. f k (omega arith)))

-- What is disjoint from the complement of a word is within the word.
pub within_word : (a b : ℕ) → b < 2 ^ 64 → disjoint_of a ((2 ^ 64 - 1) - b) ≡ within_of a b
unfolding disjoint_of within_of
within_word a b h = ap not (below-same 64 (common a ((2 ^ 64 - 1) - b)) (only_in a b) agree)
  where
    agree : (k : ℕ) → k < 64 → common a ((2 ^ 64 - 1) - b) k ≡ only_in a b k
    agree k l = rw (member-flip 64 k b h, lt-ltb k 64 l)

-- The zeros below the lowest digit 1 are as many as the numbers that the search passes.
search-zeros : (n k s : ℕ) → k + count_trailing_zeros n (s / 2 ^ k) ≡ first_from n k (members s)
unfolding count_trailing_zeros first_from member
search-zeros zero k s = omega arith
search-zeros (suc n) k s = go (s / 2 ^ k % 2) refl (search-zeros n (suc k) s)
  where
    half : s / 2 ^ k / 2 ≡ s / 2 ^ suc k
    half = shr-shr s k 1 ∙ ap (λ (j : ℕ). s / 2 ^ j) (add-one k)

    go : (d : ℕ) → s / 2 ^ k % 2 ≡ d → suc k + count_trailing_zeros n (s / 2 ^ suc k) ≡ first_from n (suc k) (members s)
        → k + under d (count_trailing_zeros n (s / 2 ^ k / 2)) ≡ elim (eqb d 1) [ true ↦ k | false ↦ first_from n (suc k) (members s) ]
    go zero e ih = omega (arith, ap (count_trailing_zeros n) half)
    go (suc zero) e ih = omega arith
    go (suc (suc d)) e ih = absurd (omega arith)

-- So in a word they are as many as its least member says.
pub least-zeros : (s : ℕ) → count_trailing_zeros 64 s ≡ least_of s
unfolding least_of
least-zeros s = omega (arith, search-zeros 64 0 s, ap (count_trailing_zeros 64) (div-one s))

-- A digit has as many digits 1 as it says itself.
ones-digit : (b : Bool) → ones (digit b) ≡ digit b
unfolding ones digit
ones-digit true = refl
ones-digit false = refl

-- The digits 1 below the place n are as many as the members below n.
count_ones : (n s : ℕ) → ones (s % 2 ^ n) ≡ count_below n (members s)
unfolding count_below digit
count_ones zero s = ap ones (mod-one s) ∙ ones-digit false
count_ones (suc n) s =
    ap ones (ap (λ (j : ℕ). s % 2 ^ j) (sym (one-add n)) ∙ mod-pow-add s 1 n) ∙ ones_cat n (s / 2 ^ n % 2) (s % 2 ^ n) (mod-lt s (pow_pos n))
    ∙ ap₂ (λ (x y : ℕ). x + y) (ap ones (bit-of n s) ∙ ones-digit (member n s)) (count_ones n s)

-- So the digits 1 of a word are as many as its members.
pub size-ones : (s : ℕ) → s < 2 ^ 64 → ones s ≡ size_of s
unfolding size_of
size-ones s h = ap ones (sym (mod-eq_of_lt h)) ∙ count_ones 64 s

-- One element more of a list goes into its set.
pub listed_more : (s : List ℕ) (i r r' : ℕ) → i < length s → ((k : ℕ) → member k r ≡ listed (take i s) k)
    → ((k : ℕ) → member k r' ≡ added (get_or s i 0) r k) → (k : ℕ) → member k r' ≡ listed (take (i + 1) s) k
listed_more s i r r' h inv a k =
    a k ∙ ap (λ (b : Bool). alone (get_or s i 0) k || b) (inv k)
    ∙ sym (and-or_distrib_right (eqb k (get_or s i 0)) (is_in k (take i s)) (ltb k 64))
    ∙ ap (λ (b : Bool). b && ltb k 64) (sym one_more)
  where
    one_more : is_in k (take (i + 1) s) ≡ (eqb k (get_or s i 0) || is_in k (take i s))
    one_more = ap (λ (j : ℕ). is_in k (take j s)) (add-one i) ∙ ap (is_in k) (take-suc s i 0 h) ∙ is_in-snoc k (take i s) (get_or s i 0)

-- One less has the digits of s above the lowest digit 1, and at that one a 0.
one_less : (t s : ℕ) → member t s ≡ true → ((j : ℕ) → j < t → member j s ≡ false) → (k : ℕ) → common s (s - 1) k ≡ (not (eqb k t) && member k s)
one_less zero s h b zero =
    let odd : s % 2 ≡ 1 = eqb-true (s % 2) 1 (sym (member-lowest s) ∙ h) in
    let even : (s - 1) % 2 ≡ 0 = omega arith in
    rw (h, member-lowest (s - 1), even)
one_less zero s h b (suc k) =
    let odd : s % 2 ≡ 1 = eqb-true (s % 2) 1 (sym (member-lowest s) ∙ h) in
    let half : (s - 1) / 2 ≡ s / 2 = omega arith in
    rw (member-suc k s, member-suc k (s - 1), half, eqb-suc-zero k) (and_self (member k (s / 2)))
one_less (suc t) s h b zero = rw (b 0 (omega arith), and-false (not (eqb 0 (suc t))))
one_less (suc t) s h b (suc k) =
    let even : (s % 2 ≡ 1) → ⊥ = eqb-false (s % 2) 1 (sym (member-lowest s) ∙ b 0 (omega arith)) in
    let half : (s - 1) / 2 ≡ s / 2 - 1 = omega arith in
    rw (member-suc k s, member-suc k (s - 1), half, eqb-suc-suc k t)
    (one_less t (s / 2) (sym (member-suc t s) ∙ h) (λ j l. sym (member-suc j s) ∙ b (suc j) (omega arith)) k)

-- So the digits 1 of both are the members of s but the least.
pub least-out : (s : ℕ) → s < 2 ^ 64 → (s ≡ 0 → ⊥) → (k : ℕ) → member k (bit_and s (s - 1)) ≡ (not (eqb k (least_of s)) && member k s)
least-out s h d k =
    member-and k s (s - 1) ∙ one_less (least_of s) s (least-in s (least_lt s h d)) (least-before s) k

-- Nothing is taken out of the empty set.
pub none_out : (s : ℕ) → s ≡ 0 → (k : ℕ) → member k 0 ≡ (not (eqb k (least_of s)) && member k s)
none_out s e k = rw (e, member-empty k) (sym (and-false (not (eqb k (least_of 0)))))
