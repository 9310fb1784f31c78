-- `items::several::gather` meets its contract: where no number is over 63, the lowest bit of the sets, each moved down by the number that
-- comes next, tells whether that number was among those before.
-- Assumes nothing.
use mathlib.Core.Path.{◌≡◌}
use mathlib.Core.List.{List}
use mathlib.Core.Bool.{false}
use Prim.Native.Nat.{ℕ}
use lib.ListN.{take}
use Rattle.lists.specs.Search.{any, twice}
use Rattle.bitsets.specs.Set.{member}
use Rattle.rules_plan.specs.Judge.{over63}
use Rattle.load_items.proofs.Gathers.{Gathers}
use Rattle.load_items.proofs.several.gather.Given as goal

-- what is known after the first k numbers
pub record Passed (s : List ℕ) (over again set k : ℕ) : Type 0 where
  pub numbers : Gathers s over set k
  pub repeat : any over63 (take k s) ≡ false → member 0 again ≡ twice (take k s)

abbrev pub invariant-loop-n : goal.invariant-loop-n
invariant-loop-n l = Passed l.s l.over l.again l.set l.n-index
