-- Row 6 of a link from the comparisons that the code makes: one that fails is enough, and what passes them all is in range.
use mathlib.Core.Path.{◌≡◌}
use mathlib.Core.Logic.{◌⊎◌, inl, inr}
use mathlib.Core.Bool.{true, false, or-true}
use Prim.Native.Nat.{ℕ, ◌≤◌, ◌<◌}
use borrow.Author.Tests.{eq-eqb, ne_eqb}
use Rattle.lists.specs.laws.Bools.{false-either}
use Rattle.rules_plan.specs.Judge.{out_of_range}
use Rattle.memory_plan.specs.Take.{link_item}
use Rattle.load_items.specs.laws.Ranges.{over, under}

module _ (num one other : ℕ) where
  pub link-out : (63 < num) ⊎ (((num ≤ 63) × (63 < one)) ⊎ (((num ≤ 63) × (one ≤ 63) × (63 < other)) ⊎ ((num ≤ 63) × (one ≤ 63) × (other ≤ 63) × (one ≡ other))))
      → out_of_range (link_item num one other) ≡ true
  unfolding out_of_range
  link-out (inl h) = rw (over num h)
  link-out (inr (inl h)) = simp (over one h.1, or-true)
  link-out (inr (inr (inl h))) = simp (over other h.2, or-true)
  link-out (inr (inr (inr h))) = simp (eq-eqb one other h.3, or-true)

  pub link_fits : num ≤ 63 → one ≤ 63 → other ≤ 63 → (one ≡ other → ⊥) → out_of_range (link_item num one other) ≡ false
  unfolding out_of_range
  link_fits n a b d = false-either (false-either (false-either (under num n) (under one a)) (under other b)) (ne_eqb one other d)
