-- What the numbers tell of a plan.
use mathlib.Core.Path.{◌≡◌, refl}
use mathlib.Core.List.{List}
use mathlib.Core.Option.{Option, none, some}
use mathlib.Core.Bool.{not}
use Prim.Native.Nat.{ℕ}
use native.Mathlib.Omega.{arith}
use lib.Dec.{eqb}
use borrow.Author.Tests.{ne_eqb}
use Rattle.lists.specs.Search.{is_some}
use Rattle.rules_plan.specs.Plan.{nth, Plan, blank}
use Rattle.rules_plan.specs.Meaning.{least_of, greatest_of}
use Rattle.memory_plan.specs.Memory.{numbers_with}
use Rattle.memory_plan.specs.View.{Timed}

module _ (size : ℕ) (p : Plan) (numbers : List ℕ) (is : numbers ≡ numbers_with size p) where
  pub least-told : nth numbers 0 ≡ least_of p.timings
  unfolding numbers_with
  least-told = rw is

  pub greatest-told : nth numbers 1 ≡ greatest_of p.timings
  unfolding numbers_with
  greatest-told = rw is

pub loaded-told : (o : Option Plan) (numbers : List ℕ) → Timed o numbers → not (eqb (nth numbers 1) 0) ≡ is_some o
unfolding is_some numbers_with greatest_of blank
loaded-told none numbers t = rw t.numbers
loaded-told (some p) numbers t = rw (t.numbers, ne_eqb (greatest_of p.timings) 0 (λ e. omega (arith, t.some-interval p refl)))
