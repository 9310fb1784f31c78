-- The numbers of a list gone through from the front, joined bit by bit and put in a set.
-- Assumes nothing.
use mathlib.Core.Path.{◌≡◌, refl, sym, ap, ◌∙◌}
use mathlib.Core.List.{List}
use mathlib.Core.Bool.{false, ◌||◌}
use Prim.Native.Nat.{ℕ, ◌+◌, ◌≤◌, ◌<◌}
use native.Mathlib.Numerals.{add-one}
use native.Mathlib.Decide.{dec_lt}
use native.Mathlib.Omega.{arith}
use lib.Bits.{bit_or, or_lt, or_add_and, and_le_l, and_le_r}
use lib.Dec.{ltb}
use lib.ListN.{length, get_or, take}
use lib.Seq.{take_all, take-suc}
use borrow.Author.Tests.{lt-ltb, le-ltb, ltb-false}
use Rattle.lists.specs.Search.{any, is_in}
use Rattle.lists.specs.laws.Bools.{neither}
use Rattle.lists.specs.laws.More.{any-more}
use Rattle.bitsets.specs.Set.{member, alone, listed}
use Rattle.bitsets.specs.Laws.{member-empty, member-or}
use Rattle.bitsets.proofs.Laws.{listed_more}
use Rattle.rules_plan.specs.Judge.{over63}

-- numbers joined bit by bit are over 63 where one of them is
joined-over : (a b : ℕ) → ltb 63 (bit_or a b) ≡ (ltb 63 a || ltb 63 b)
joined-over a b = go (dec_lt 63 a) (dec_lt 63 b)
  where
    go : Dec (63 < a) → Dec (63 < b) → ltb 63 (bit_or a b) ≡ (ltb 63 a || ltb 63 b)
    go (yes h) _ = rw (lt-ltb 63 a h) (lt-ltb 63 (bit_or a b) (omega (arith, or_add_and a b, and_le_r a b)))
    go (no h) (yes g) = rw (le-ltb 63 a (omega arith), lt-ltb 63 b g) (lt-ltb 63 (bit_or a b) (omega (arith, or_add_and a b, and_le_l a b)))
    go (no h) (no g) = rw (le-ltb 63 a (omega arith), le-ltb 63 b (omega arith)) (le-ltb 63 (bit_or a b) (omega (arith, or_lt 6 a b (omega arith) (omega arith))))

-- after the first k numbers: over is over 63 where one of them is, and where none is, the set has them
pub record Gathers (s : List ℕ) (over set k : ℕ) : Type 0 where
  pub high : ltb 63 over ≡ any over63 (take k s)
  pub marks : any over63 (take k s) ≡ false → (j : ℕ) → member j set ≡ listed (take k s) j

pub gathers-none : (s : List ℕ) → Gathers s 0 0 0
unfolding any is_in
gathers-none s = record { high = refl; marks = λ _. member-empty }

module _ (s : List ℕ) (k : ℕ) (h : k < length s) where
  any_next : any over63 (take (k + 1) s) ≡ (any over63 (take k s) || over63 (get_or s k 0))
  any_next = ap (λ (j : ℕ). any over63 (take j s)) (add-one k) ∙ ap (any over63) (take-suc s k 0 h) ∙ any-more over63 (take k s) (get_or s k 0)

  -- none of one more is over 63: none of those before, nor this one
  pub none_before : any over63 (take (k + 1) s) ≡ false → any over63 (take k s) ≡ false
  none_before e = (neither (any over63 (take k s)) (over63 (get_or s k 0)) (sym any_next ∙ e)).0

  pub next_low : any over63 (take (k + 1) s) ≡ false → get_or s k 0 < 64
  unfolding over63
  next_low e = let f = ltb-false 63 (get_or s k 0) (neither (any over63 (take k s)) (over63 (get_or s k 0)) (sym any_next ∙ e)).1 in omega arith

pub gathers-next : {s : List ℕ} {over set k : ℕ} → k < length s → Gathers s over set k → (bit : ℕ) → (get_or s k 0 < 64 → (j : ℕ) → member j bit ≡ alone (get_or s k 0) j)
    → Gathers s (bit_or over (get_or s k 0)) (bit_or bit set) (k + 1)
unfolding over63
gathers-next {s} {over} {set} {k} h p bit a = record {
  high = joined-over over (get_or s k 0) ∙ ap (λ b. b || ltb 63 (get_or s k 0)) p.high ∙ sym (any_next s k h);
  marks = λ e. listed_more s k set _ h (p.marks (none_before s k h e)) (λ j. member-or j bit set ∙ ap (λ b. b || member j set) (a (next_low s k h e) j));
}

-- the whole list
pub gathers-all : {s : List ℕ} {over set k : ℕ} → length s ≤ k → Gathers s over set k
    → (ltb 63 over ≡ any over63 s) × (any over63 s ≡ false → (j : ℕ) → member j set ≡ listed s j)
gathers-all {s} {over} {set} {k} h p =
    let all : any over63 (take k s) ≡ any over63 s = ap (any over63) (take_all k s h) in
    (p.high ∙ all, λ f j. p.marks (all ∙ f) j ∙ ap (λ l. listed l j) (take_all k s h))
