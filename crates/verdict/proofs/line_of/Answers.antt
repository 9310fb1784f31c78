-- `verdict::line_of` meets its contract: the line printed is that of the verdict the load gave. Assumes nothing.
use mathlib.Core.Path.{◌≡◌, ◌∙◌, ap}
use mathlib.Core.List.{List, ◌++◌}
use Prim.Native.Nat.{ℕ, ◌≤◌}
use native.Mathlib.Omega.{arith}
use lib.ListN.{length, length-append, drop}
use Rattle.rules_plan.specs.declared.Verdict.{Verdict}
use Rattle.rules_plan.specs.Print.{line}
use Rattle.verdict.proofs.line_of.Goals as goal

-- The line of a verdict is that of an equal one, and the buffer has room for it.
told : (l : List ℕ) {v w : Verdict} {k : ℕ} {o : List ℕ} → v ≡ w → (k ≡ length (line v)) × (o ≡ line v ++ drop (length (line v)) l) →
    (k ≡ length (line w)) × (o ≡ line w ++ drop (length (line w)) l) × (k ≤ length o)
told l {v} {w} {k} {o} e p = (q.0, q.1, rw (ap length q.1 ∙ length-append (line w) (drop (length (line w)) l)) (omega (arith, q.0)))
  where
    q : (k ≡ length (line w)) × (o ≡ line w ++ drop (length (line w)) l)
    q = rw e at p

pub returns : goal.returns
returns c = told _ c.load-verdict.ensures.0 c.print_verdict.ensures
