-- Row 6 of a device from the comparisons that the code makes: one that fails is enough, and what passes them all is in range.
use mathlib.Core.Path.{◌≡◌}
use mathlib.Core.Logic.{◌⊎◌, inl, inr}
use mathlib.Core.Bool.{true, false, or-true}
use Prim.Native.Nat.{ℕ, ◌≤◌, ◌<◌}
use borrow.Author.Tests.{lt-ltb, le-ltb}
use Rattle.lists.specs.laws.Bools.{false-either}
use Rattle.rules_plan.specs.Judge.{out_of_range}
use Rattle.memory_plan.specs.Take.{device_item}
use Rattle.load_items.specs.laws.Ranges.{over, under}

module _ (num kind : ℕ) where
  pub device-out : (63 < num) ⊎ ((num ≤ 63) × (1 < kind)) → out_of_range (device_item num kind) ≡ true
  unfolding out_of_range
  device-out (inl h) = rw (over num h)
  device-out (inr h) = simp (lt-ltb 1 kind h.1, or-true)

  pub device-fits : num ≤ 63 → kind ≤ 1 → out_of_range (device_item num kind) ≡ false
  unfolding out_of_range
  device-fits n k = false-either (under num n) (le-ltb 1 kind k)
