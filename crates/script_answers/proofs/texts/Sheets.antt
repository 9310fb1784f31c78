-- The line of a sheet, by the answer. Assumes nothing.
use mathlib.Core.Path.{◌≡◌}
use mathlib.Core.List.{List, [], ◌∷◌}
use Prim.Native.Nat.{ℕ}
use Rattle.rules_plan.specs.Sheet.{Sheet, NoSheet, Terms, sheet_numbers}
use Rattle.script_answers.specs.Texts.{numbers_line, sheet_line, Prints}

module _ {l o : List ℕ} {k n : ℕ} {s : Sheet} where
  pub no-sheet-line : s ≡ NoSheet n → Prints (numbers_line (n ∷ 0 ∷ [])) l o k → Prints (sheet_line s) l o k
  unfolding sheet_line sheet_numbers
  no-sheet-line is p = rw is p

  pub terms-line : {b c e h i : ℕ} → s ≡ Terms n b c e h i → Prints (numbers_line (0 ∷ n ∷ [])) l o k → Prints (sheet_line s) l o k
  unfolding sheet_line sheet_numbers
  terms-line is p = rw is p
