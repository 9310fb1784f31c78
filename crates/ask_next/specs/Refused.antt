-- The number of a refusal where the initiator of a transaction has no row, and where the transaction has no turn.
use Rattle.std.proofs.Math.Option.{Option}
use Rattle.std.specs.Prelude.{cond, ℕ, ltb}
use Rattle.lists.specs.Search.{is_some}
use Rattle.rules_plan.specs.Plan.{Plan}

unfoldable pub no_row : Option Plan → ℕ
no_row o = cond (is_some o) 22 20

unfoldable pub no_turn : ℕ → ℕ
no_turn n = cond (ltb 4096 n) 24 25
