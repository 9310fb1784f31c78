-- `c_numbers::copied::sized_numbers` meets its contract. Assumes nothing.
use Rattle.std.specs.Prelude.{◌≡◌, ℕ, Result, Ok, Err, IsOkAnd, MatchResult}
use Rattle.std.proofs.Common.{◌∙◌}
use Rattle.rules_plan.specs.declared.Refusal.{Refusal}
use Rattle.rules_plan.specs.Copy.{sized, copied_told}
use Rattle.c_numbers.specs.Numbers.{sized_numbers, told_numbers}
use Rattle.c_numbers.proofs.copied.sized_numbers.Goals as goal

-- the size told is the size
told-size : (r m : Result ℕ Refusal) → MatchResult r (λ x. IsOkAnd m (λ y. y ≡ x)) (λ e. m ≡ Err e) → told_numbers m ≡ sized_numbers (copied_told r)
unfolding sized_numbers sized
told-size (Ok x) (Ok y) h = rw h
told-size (Ok x) (Err e) h = absurd h
told-size (Err e) m h = rw h

pub returns : goal.returns
returns c = c.told_numbers.ensures ∙ told-size _ _ c.map.ensures.cases
