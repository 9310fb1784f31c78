-- The intervals after a plan: the verdict on them, and the numbers with them.
use mathlib.Core.Path.{◌≡◌, refl}
use mathlib.Core.List.{List, []}
use mathlib.Core.Bool.{true, false}
use Prim.Native.Nat.{ℕ}
use lib.ListN.{set}
use Rattle.rules_plan.specs.Plan.{Plan}
use Rattle.rules_plan.specs.Judge.{out_of_range, given_before, not_given, too_many, no_walk, no_path}
use Rattle.memory_plan.specs.Memory.{numbers_with}
use Rattle.memory_plan.specs.Take.{item_fault, taken, timing_item}
use Rattle.load_items.specs.laws.Numbers.{numbers-timing}
use Rattle.load_items.specs.laws.Judged.{holds-taken, judged-6, judged-0}

-- r is the verdict after every plan that the numbers hold before, and then they hold the plan with the intervals
abbrev pub TimingAnswer : List ℕ → List ℕ → ℕ → ℕ → ℕ → Type 0
TimingAnswer before after least greatest r = (size : ℕ) (p : Plan) → before ≡ numbers_with size p → p.timings ≡ []
    → (r ≡ item_fault p (timing_item least greatest)) × (after ≡ numbers_with size (taken p (timing_item least greatest)))

module _ (numbers : List ℕ) (least greatest : ℕ) where
  pub timing-refused : out_of_range (timing_item least greatest) ≡ true → TimingAnswer numbers numbers least greatest 6
  timing-refused h size p e z = let j = judged-6 p (timing_item least greatest) h in (j.fault, holds-taken (numbers_with size) j numbers e)

  pub timing-taken : out_of_range (timing_item least greatest) ≡ false → TimingAnswer numbers (set (set numbers 0 least) 1 greatest) least greatest 0
  unfolding given_before not_given too_many no_walk no_path
  timing-taken h size p e z =
      let j = judged-0 p (timing_item least greatest) h refl refl refl refl refl in
      (j.fault, holds-taken (numbers_with size) j _ (numbers-timing size p numbers e _ z))
