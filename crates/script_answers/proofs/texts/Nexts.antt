-- The line of the question for the next turn, by the answer. Assumes nothing.
use mathlib.Core.Path.{◌≡◌}
use mathlib.Core.List.{List, [], ◌∷◌}
use Prim.Native.Nat.{ℕ}
use Rattle.rules_plan.specs.Next.{Next, NoTurn, Turn, next_numbers}
use Rattle.script_answers.specs.Texts.{numbers_line, next_line, Prints}

module _ {l o : List ℕ} {k n : ℕ} {x : Next} where
  pub no-turn-line : x ≡ NoTurn n → Prints (numbers_line (n ∷ 0 ∷ [])) l o k → Prints (next_line x) l o k
  unfolding next_line next_numbers
  no-turn-line is p = rw is p

  pub turn-line : x ≡ Turn n → Prints (numbers_line (0 ∷ n ∷ [])) l o k → Prints (next_line x) l o k
  unfolding next_line next_numbers
  turn-line is p = rw is p
