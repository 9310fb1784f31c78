-- The spans up to that of an entry, marked one after the other.
use mathlib.Core.Path.{◌≡◌, sym}
use mathlib.Core.List.{List}
use mathlib.Core.Logic.{⊎_elim}
use mathlib.Core.Bool.{true, ◌||◌, or-true}
use Prim.Native.Nat.{ℕ, ◌+◌, ◌*◌, ◌^◌, ◌≤◌, ◌<◌}
use native.Mathlib.Decide.{ℕ_discrete}
use native.Mathlib.Omega.{arith}
use lib.ListN.{length, set}
use lib.Dec.{leb, ltb, eqb}
use borrow.Author.Tests.{ltb-true, lt-ltb, leb-true, le-leb, eqb-true, eq-eqb}
use Rattle.lists.specs.laws.Bools.{same_test, both_true, true-both, either, never_true}
use Rattle.bitsets.specs.Set.{member, added}
use Rattle.rules_plan.specs.Plan.{nth}
use Rattle.load_turns.specs.Marked.{Marked, is_span}
use Rattle.load_turns.specs.laws.Marks.{marked-none, marked-same, marked-both, marked-one}

module _ (row slot : ℕ) (before : List ℕ) where
  within : (k n : ℕ) → is_span row k n ≡ true → (1_024 + row * 16 ≤ n) × (n < 1_024 + row * 16 + k)
  unfolding is_span
  within k n h = let (a, b) = both_true (leb (1_024 + row * 16) n) (ltb n (1_024 + row * 16 + k)) h in (leb-true _ _ a, ltb-true _ _ b)

  is_within : (k n : ℕ) → 1_024 + row * 16 ≤ n → n < 1_024 + row * 16 + k → is_span row k n ≡ true
  unfolding is_span
  is_within k n a b = true-both (le-leb (1_024 + row * 16) n a) (lt-ltb n (1_024 + row * 16 + k) b)

  one_more : (k n : ℕ) → is_span row k n || eqb n (1_024 + (row * 16 + k)) ≡ is_span row (k + 1) n
  one_more k n = same_test _ _ there back
    where
      there : is_span row k n || eqb n (1_024 + (row * 16 + k)) ≡ true → is_span row (k + 1) n ≡ true
      there h = ⊎_elim (λ a. let (b, c) = within k n a in is_within (k + 1) n b (omega arith))
          (λ a. let e = eqb-true n (1_024 + (row * 16 + k)) a in is_within (k + 1) n (omega arith) (omega arith)) (either (is_span row k n) (eqb n (1_024 + (row * 16 + k))) h)

      back : is_span row (k + 1) n ≡ true → is_span row k n || eqb n (1_024 + (row * 16 + k)) ≡ true
      back h = let (a, b) = within (k + 1) n h in by a b (ℕ_discrete n (1_024 + (row * 16 + k)))
        where
          by : 1_024 + row * 16 ≤ n → n < 1_024 + row * 16 + (k + 1) → Dec (n ≡ 1_024 + (row * 16 + k)) → is_span row k n || eqb n (1_024 + (row * 16 + k)) ≡ true
          by a b (yes e) = rw (eq-eqb n (1_024 + (row * 16 + k)) e) (or-true (is_span row k n))
          by a b (no d) = rw (is_within k n a (omega arith))

  pub span-begin : Marked (is_span row 0) slot before before
  span-begin = marked-same slot before before (λ n. sym (never_true _ (λ h. let (a, b) = within 0 n h in absurd (omega arith)))) (marked-none slot before)

  pub span-next : (k : ℕ) (after : List ℕ) → Marked (is_span row k) slot before after → (word : ℕ) → 1_024 + (row * 16 + k) < length after → word < 2 ^ 64
      → ((v : ℕ) → member v word ≡ added slot (nth after (1_024 + (row * 16 + k))) v) → Marked (is_span row (k + 1)) slot before (set after (1_024 + (row * 16 + k)) word)
  span-next k after m word l small w =
      marked-same slot before _ (one_more k) (marked-both slot before after _ m (marked-one slot after (1_024 + (row * 16 + k)) word l small w))
