-- Row 6 of intervals from the comparisons that the code makes: one that fails is enough, and what passes them all is in range.
use mathlib.Core.Path.{◌≡◌}
use mathlib.Core.Logic.{◌⊎◌, inl, inr}
use mathlib.Core.Bool.{true, false, or-true}
use Prim.Native.Nat.{ℕ, ◌≤◌, ◌<◌}
use borrow.Author.Tests.{lt-ltb, le-ltb, eq-eqb, ne_eqb}
use Rattle.lists.specs.laws.Bools.{false-either}
use Rattle.rules_plan.specs.Judge.{out_of_range}
use Rattle.memory_plan.specs.Take.{timing_item}

module _ (least greatest : ℕ) where
  pub timing-out : (greatest ≡ 0) ⊎ (((greatest ≡ 0 → ⊥) × (2_147_483_647 < greatest)) ⊎ ((greatest ≡ 0 → ⊥) × (greatest ≤ 2_147_483_647) × (greatest < least)))
      → out_of_range (timing_item least greatest) ≡ true
  unfolding out_of_range
  timing-out (inl h) = rw (eq-eqb greatest 0 h)
  timing-out (inr (inl h)) = simp (lt-ltb 2_147_483_647 greatest h.1, or-true)
  timing-out (inr (inr h)) = simp (lt-ltb greatest least h.2, or-true)

  pub timing-fits : (greatest ≡ 0 → ⊥) → greatest ≤ 2_147_483_647 → least ≤ greatest → out_of_range (timing_item least greatest) ≡ false
  unfolding out_of_range
  timing-fits z g l = false-either (false-either (ne_eqb greatest 0 z) (le-ltb 2_147_483_647 greatest g)) (le-ltb greatest least l)
