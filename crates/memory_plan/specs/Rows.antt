-- The rows of the initiators, as code searches them.
use Rattle.std.specs.Prelude.{ℕ, min, List, eqb}
use Rattle.lists.specs.Numbers.{first_from}
use Rattle.rules_plan.specs.Plan.{nth}

-- the row of initiator i among the first count rows (8 at most); that count where it has none
abbrev pub row_among : List ℕ → ℕ → ℕ → ℕ
row_among rows count i = first_from (min count 8) 0 (λ (k : ℕ). eqb i (nth rows k))
