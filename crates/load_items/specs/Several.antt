-- The numbers of a field by themselves: verdict 6 where one is over 63, else 7 where one stands twice, else 0; and their set.
use Rattle.std.specs.Prelude.{◌≡◌, ℕ, List, [], ◌∷◌, Result, Ok, Err}
use Rattle.lists.specs.Search.{any, twice}
use Rattle.lists.specs.Rows.{first_of}
use Rattle.bitsets.specs.Set.{member, listed}
use Rattle.rules_plan.specs.Judge.{over63}
use Rattle.load_items.specs.declared.several.SeveralFault.{SeveralFault}
use Rattle.load_items.specs.declared.several.SeveralFault.TheVariants.{OverMost, Twice}

unfoldable pub several_fault : List ℕ → ℕ
several_fault xs = first_of ((6, any over63 xs) ∷ (7, twice xs) ∷ [])

-- document 01's number of why they are refused
abbrev pub several_number : SeveralFault → ℕ
several_number OverMost = 6
several_number (Twice set) = 7

-- the number of what is told, 0 where it is no fault
abbrev pub several_told : Result ℕ SeveralFault → ℕ
several_told (Ok set) = 0
several_told (Err several) = several_number several

-- wherever none is over 63, the set is told
abbrev pub SetTold : Result ℕ SeveralFault → List ℕ → Type 0
SetTold (Ok set) xs = (k : ℕ) → member k set ≡ listed xs k
SetTold (Err (Twice set)) xs = (k : ℕ) → member k set ≡ listed xs k
SetTold (Err OverMost) xs = Unit {0}
