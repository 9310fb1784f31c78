-- What the question for the next turn answers of the plan in memory.
use Rattle.std.specs.Prelude.{◌≡◌, List, ℕ}
use Rattle.std.proofs.Math.Option.{Option}
use Rattle.rules_plan.specs.Plan.{Plan}
use Rattle.rules_plan.specs.Next.{Next, next_answer}
use Rattle.memory_plan.specs.View.{Shown}

-- the contract of `next`: of every plan that memory holds, and of none, the answer of the rules. The spans of entries are not lent.
abbrev pub TellsNext : (rows aims numbers : List ℕ) (i t n s : ℕ) → Next → Type 0
TellsNext rows aims numbers i t n s r = (o : Option Plan) (spans : List ℕ) → Shown o rows spans aims numbers → r ≡ next_answer o i t n s
