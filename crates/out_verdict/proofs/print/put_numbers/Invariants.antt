-- `print::put_numbers` meets its contract. The loop's invariant: the numbers so far are put. Assumes nothing.
use Prim.Native.Nat.{◌+◌, ◌*◌, ◌≤◌}
use lib.ListN.{take}
use Rattle.lists.specs.Stores.{Put}
use Rattle.rules_plan.specs.Print.{numbers}
use Rattle.out_verdict.proofs.print.put_numbers.Given as goal

abbrev pub invariant-loop-n : goal.invariant-loop-n
invariant-loop-n l = (l.k ≤ l.at + 6 * l.n-index) × Put l.initial.out l.at (numbers (take l.n-index l.ns)) l.out l.k
