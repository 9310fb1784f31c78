-- `c_numbers::next::next_numbers` meets its contract. Assumes nothing.
use Rattle.std.specs.Prelude.{◌≡◌, ℕ, Result, Ok, Err, IsOkAnd, MatchResult}
use Rattle.std.proofs.Common.{◌∙◌}
use Rattle.rules_plan.specs.declared.Refusal.{Refusal}
use Rattle.rules_plan.specs.Next.{next_numbers, next_told}
use Rattle.c_numbers.specs.Numbers.{told_numbers}
use Rattle.c_numbers.proofs.next.next_numbers.Goals as goal

-- the count told is the count
told-count : (r m : Result ℕ Refusal) → MatchResult r (λ x. IsOkAnd m (λ y. y ≡ x)) (λ e. m ≡ Err e) → told_numbers m ≡ next_numbers (next_told r)
unfolding next_numbers
told-count (Ok x) (Ok y) h = rw h
told-count (Ok x) (Err e) h = absurd h
told-count (Err e) m h = rw h

pub returns : goal.returns
returns c = c.told_numbers.ensures ∙ told-count _ _ c.map.ensures.cases
