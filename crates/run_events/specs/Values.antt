-- The number and the values of an answer in one list, in document 01's order.
use Rattle.std.specs.Prelude.{ℕ, List, [], ◌∷◌}
use Rattle.rules_box.specs.Answer.{Values}

unfoldable pub listed : Values → List ℕ
listed v = v.number ∷ v.count ∷ v.transaction ∷ v.target ∷ v.length ∷ v.status ∷ v.class ∷ v.reading ∷ []
