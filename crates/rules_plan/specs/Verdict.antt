-- "Verdicts": the numbers and places of document 01 for each case of the declared verdict.
use Rattle.std.specs.Prelude.{ℕ, List, [], ◌∷◌}
use Rattle.rules_plan.specs.declared.Verdict.{Verdict}
use Rattle.rules_plan.specs.declared.Verdict.TheVariants.{Accepted, Faulty, Overrun, Clash}

unfoldable pub number : Verdict → ℕ
number (Accepted d l p e) = 0
number (Faulty n at) = n
number (Overrun i s) = 13
number (Clash s i j l) = 14

-- "Place given: 0, the four counts; 1, zero; 2 to 11, offset of the field's tag; 12, file length; 13, the entry; 14, slot, smaller initiator, greater initiator, link."
-- T-02: 15, "place is the file length"
unfoldable pub place : Verdict → List ℕ
place (Accepted d l p e) = d ∷ l ∷ p ∷ e ∷ []
place (Faulty n at) = at ∷ []
place (Overrun i s) = i ∷ s ∷ []
place (Clash s i j l) = s ∷ i ∷ j ∷ l ∷ []
