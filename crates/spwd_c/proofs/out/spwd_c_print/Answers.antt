-- `spwd_c::out::spwd_c_print` meets its contract. Assumes nothing.
use mathlib.Core.Path.{◌≡◌}
use mathlib.Core.List.{List, ◌++◌}
use Prim.Native.Nat.{ℕ}
use lib.ListN.{length, drop}
use Rattle.rules_plan.specs.declared.Verdict.{Verdict}
use Rattle.rules_plan.specs.Print.{line}
use Rattle.c_numbers.specs.Numbers.{verdict_of}
use Rattle.spwd_c.specs.Exports.{Prints}
use Rattle.c_numbers.specs.laws.Judged.{judged}
use Rattle.spwd_c.proofs.out.spwd_c_print.Goals as goal

prints : {ns l l' : List ℕ} {k : ℕ} (v : Verdict) → v ≡ verdict_of ns → (k ≡ length (line v)) × (l' ≡ line v ++ drop (length (line v)) l) → Prints ns l l' k
prints v e p = let q = rw e at p in record { size = q.0; bytes = q.1; judged = λ file. judged file }

pub returns : goal.returns
returns c = prints _ c.verdict_of.ensures c.print_verdict.ensures
