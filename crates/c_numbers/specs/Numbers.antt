-- The verdict and the answer of writing out as numbers: document 01's number first, then its place or its size, all else 0.
use Rattle.std.specs.Prelude.{ℕ, ◌%◌, List, [], ◌∷◌, true, false, eqb, Result, Ok, Err}
use Rattle.lists.specs.Cells.{padded}
use Rattle.rules_plan.specs.declared.Verdict.{Verdict}
use Rattle.rules_plan.specs.declared.Verdict.TheVariants.{Accepted, Faulty, Overrun, Clash}
use Rattle.rules_plan.specs.declared.Refusal.{Refusal}
use Rattle.rules_plan.specs.Numbers.{refusal_number}
use Rattle.rules_plan.specs.Plan.{nth}
use Rattle.rules_plan.specs.Verdict.{number, place}
use Rattle.rules_plan.specs.Copy.{Copied, sized}

-- accepted: 0 devices links paths entries; 1 to 12 and 15: number place 0 0 0; 13 initiator slot 0 0; 14 slot smaller greater link
unfoldable pub verdict_numbers : Verdict → List ℕ
verdict_numbers v = padded 5 0 (number v ∷ place v)

-- The verdict of any five numbers. Each of them is cut to the width that a verdict has for it: a byte, or two for a place in the file
-- and for the count of entries. Of the numbers of a verdict on a file it is that verdict (`Prints` of crate spwd_c).
unfoldable pub verdict_of : List ℕ → Verdict
verdict_of ns =
    elim (eqb (nth ns 0) 0) [
      | true ↦ Accepted (nth ns 1 % 256) (nth ns 2 % 256) (nth ns 3 % 256) (nth ns 4 % 65_536)
      | false ↦ elim (eqb (nth ns 0) 13) [
        | true ↦ Overrun (nth ns 1 % 256) (nth ns 2 % 256)
        | false ↦ elim (eqb (nth ns 0) 14) [
          | true ↦ Clash (nth ns 1 % 256) (nth ns 2 % 256) (nth ns 3 % 256) (nth ns 4 % 256)
          | false ↦ Faulty (nth ns 0 % 256) (nth ns 1 % 65_536)
        ]
      ]
    ]

-- number, size
unfoldable pub sized_numbers : Copied → List ℕ
sized_numbers a = (sized a).number ∷ (sized a).size ∷ []

-- 0 and what is told, or the refusal and 0
abbrev pub told_numbers : Result ℕ Refusal → List ℕ
told_numbers (Ok n) = 0 ∷ n ∷ []
told_numbers (Err refusal) = refusal_number refusal ∷ 0 ∷ []
