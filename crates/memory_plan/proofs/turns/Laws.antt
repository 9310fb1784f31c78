-- Those of some slots at which an entry is long enough, by its word.
use mathlib.Core.Path.{◌≡◌, ◌∙◌}
use mathlib.Core.List.{List}
use mathlib.Core.Bool.{◌&&◌, and-false}
use Prim.Native.Nat.{ℕ, ◌-◌, ◌≤◌, ◌<◌}
use borrow.Author.Tests.{le-leb, lt-leb}
use Rattle.bitsets.specs.Set.{member, common}
use Rattle.bitsets.specs.Laws.{member-empty}
use Rattle.memory_plan.specs.Turns.{long_in, long_at}

module _ (aims : List ℕ) (row slots need : ℕ) where
  pub none-long : 16 < need → (v : ℕ) → member v 0 ≡ (member v slots && long_at aims row need v)
  unfolding long_at
  none-long h v = rw (lt-leb need 16 h, and-false (member v slots)) (member-empty v)

  pub both_long : need ≤ 16 → (r : ℕ) → ((v : ℕ) → member v r ≡ common slots (long_in aims row (need - 1)) v)
      → (v : ℕ) → member v r ≡ (member v slots && long_at aims row need v)
  unfolding long_at
  both_long h r both v = both v ∙ rw (le-leb need 16 h)
