-- Row 6 of an entry from the comparisons that the code makes: one that fails is enough, and else the targets decide.
use Rattle.std.proofs.Common.{◌≡◌, ℕ, ◌<◌, ◌≤◌, true, false, ◌||◌, eqb, ltb, List, le-ltb, lt-ltb, eq-eqb, ne_eqb}
use mathlib.Core.Logic.{◌⊎◌, inl, inr}
use mathlib.Core.Bool.{or-true}
use Rattle.lists.specs.Search.{any}
use Rattle.lists.specs.laws.Bools.{neither}
use Rattle.rules_plan.specs.Judge.{over63, out_of_range}
use Rattle.memory_plan.specs.Take.{entry_item}
use Rattle.load_items.specs.laws.Ranges.{over, under}

module _ (initiator slot span : ℕ) (targets : List ℕ) where
  pub entry-out : (63 < initiator) ⊎ (((initiator ≤ 63) × (63 < slot)) ⊎ (((initiator ≤ 63) × (slot ≤ 63) × (span ≡ 0)) ⊎ ((initiator ≤ 63) × (slot ≤ 63) × (span ≡ 0 → ⊥) × (16 < span))))
      → out_of_range (entry_item initiator slot span targets) ≡ true
  unfolding out_of_range
  entry-out (inl h) = rw (over initiator h)
  entry-out (inr (inl h)) = simp (over slot h.1, or-true)
  entry-out (inr (inr (inl h))) = simp (eq-eqb span 0 h.2, or-true)
  entry-out (inr (inr (inr h))) = simp (lt-ltb 16 span h.3, or-true)

  -- the targets are left to decide
  pub entry-targets : initiator ≤ 63 → slot ≤ 63 → (span ≡ 0 → ⊥) → span ≤ 16 → any over63 targets ≡ out_of_range (entry_item initiator slot span targets)
  unfolding out_of_range
  entry-targets i s z n = rw (under initiator i, under slot s, ne_eqb span 0 z, le-ltb 16 span n)

  pub targets-inside : out_of_range (entry_item initiator slot span targets) ≡ false → any over63 targets ≡ false
  unfolding out_of_range
  targets-inside h = (neither (over63 initiator || over63 slot || eqb span 0 || ltb 16 span) (any over63 targets) h).1
