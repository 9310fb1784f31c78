-- `put_numbers` meets its contract. The loop's invariant: the numbers behind the first, as far as the loop has come, are put. Assumes nothing.
use mathlib.Core.Path.{◌≡◌}
use lib.ListN.{length, take}
use Rattle.lists.specs.Puts.{Puts}
use Rattle.rules_plan.specs.Print.{numbers}
use Rattle.script_words.proofs.put_numbers.Given as goal

abbrev pub invariant-loop-n : goal.invariant-loop-n
invariant-loop-n l = (length l.out ≡ length l.initial.out) × Puts l.initial.out l.initial.k (numbers (take l.n-index l.others)) l.out l.k
