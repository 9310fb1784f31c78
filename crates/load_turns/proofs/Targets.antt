-- The targets of an entry, marked one after the other.
use mathlib.Core.Path.{◌≡◌, refl, sym, ap, ◌∙◌}
use mathlib.Core.List.{List, [], ◌∷◌}
use mathlib.Core.Bool.{Bool, true, false, ◌&&◌, ◌||◌, and-false}
use Prim.Native.Nat.{ℕ, zero, suc, ◌+◌, ◌-◌, ◌*◌, ◌^◌, ◌<◌}
use native.Mathlib.Numerals.{add-one}
use native.Mathlib.Omega.{arith}
use lib.ListN.{length, get_or, set, take}
use lib.Seq.{take-suc}
use lib.Dec.{leb, eqb}
use borrow.Author.Tests.{ltb-false, leb-true, le-leb, eqb-true, eq-eqb}
use Rattle.lists.specs.Search.{any, is_in}
use Rattle.lists.specs.laws.Bools.{neither, same_test, both_true, true-both}
use Rattle.lists.specs.laws.Search.{is_in-snoc}
use Rattle.bitsets.specs.Set.{member, added}
use Rattle.rules_plan.specs.Plan.{nth}
use Rattle.rules_plan.specs.Judge.{over63}
use Rattle.load_turns.specs.Marked.{Marked, is_target}
use Rattle.load_turns.specs.laws.Marks.{marked-none, marked-same, marked-both, marked-one}

pub low-target : (s : List ℕ) (k : ℕ) → any over63 s ≡ false → k < length s → get_or s k 0 < 64
unfolding any over63
low-target [] k e h = absurd (omega arith)
low-target (x ∷ s) zero e h = omega (arith, ltb-false 63 x (neither (over63 x) (any over63 s) e).0)
low-target (x ∷ s) (suc k) e h = low-target s k (neither (over63 x) (any over63 s) e).1 (omega arith)

module _ (row slot : ℕ) (ts : List ℕ) (before : List ℕ) where
  -- the place of one target
  its-place : (n t : ℕ) → leb (512 + row * 64) n && eqb (n - (512 + row * 64)) t ≡ eqb n (512 + (row * 64 + t))
  its-place n t = same_test _ _
      (λ h. let (a, b) = both_true (leb (512 + row * 64) n) (eqb (n - (512 + row * 64)) t) h in
      eq-eqb n (512 + (row * 64 + t)) (omega (arith, leb-true (512 + row * 64) n a, eqb-true (n - (512 + row * 64)) t b)))
      (λ h. let e = eqb-true n (512 + (row * 64 + t)) h in true-both (le-leb (512 + row * 64) n (omega arith)) (eq-eqb (n - (512 + row * 64)) t (omega arith)))

  split : (a b c : Bool) → (a && c) || (a && b) ≡ a && (b || c)
  split true true true = refl
  split true true false = refl
  split true false true = refl
  split true false false = refl
  split false b c = refl

  one_more : (k : ℕ) → k < length ts → (n : ℕ) → is_target row (take k ts) n || eqb n (512 + (row * 64 + get_or ts k 0)) ≡ is_target row (take (k + 1) ts) n
  unfolding is_target
  one_more k h n =
      ap (λ (b : Bool). (leb (512 + row * 64) n && is_in (n - (512 + row * 64)) (take k ts)) || b) (sym (its-place n (get_or ts k 0)))
      ∙ split (leb (512 + row * 64) n) (eqb (n - (512 + row * 64)) (get_or ts k 0)) (is_in (n - (512 + row * 64)) (take k ts))
      ∙ ap (λ (b : Bool). leb (512 + row * 64) n && b) (sym grown)
    where
      grown : is_in (n - (512 + row * 64)) (take (k + 1) ts) ≡ (eqb (n - (512 + row * 64)) (get_or ts k 0) || is_in (n - (512 + row * 64)) (take k ts))
      grown = ap (λ (j : ℕ). is_in (n - (512 + row * 64)) (take j ts)) (add-one k) ∙ ap (is_in (n - (512 + row * 64))) (take-suc ts k 0 h) ∙ is_in-snoc _ (take k ts) (get_or ts k 0)

  pub targets-begin : Marked (is_target row (take 0 ts)) slot before before
  unfolding is_target is_in any
  targets-begin = marked-same slot before before (λ n. sym (and-false (leb (512 + row * 64) n))) (marked-none slot before)

  pub targets_next : (k : ℕ) (after : List ℕ) → k < length ts → Marked (is_target row (take k ts)) slot before after → (at word : ℕ) → at ≡ 512 + (row * 64 + get_or ts k 0)
      → at < length after → word < 2 ^ 64 → ((v : ℕ) → member v word ≡ added slot (nth after at) v) → Marked (is_target row (take (k + 1) ts)) slot before (set after at word)
  targets_next k after h m at word is l small w =
      marked-same slot before (set after at word) (λ n. ap (λ (z : ℕ). is_target row (take k ts) n || eqb n z) is ∙ one_more k h n)
      (marked-both slot before after (set after at word) m (marked-one slot after at word l small w))
