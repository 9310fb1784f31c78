-- Parts of a list.
use Rattle.std.specs.Prelude.{◌≡◌, List, ℕ, ◌-◌, length, take, drop}
use Rattle.std.proofs.Common.{arith, length-drop, take_all}

-- as many as there are from place k on: all of them
pub from-to-end : {A : Type 0} (k : ℕ) (xs : List A) → take (length xs - k) (drop k xs) ≡ drop k xs
from-to-end k xs = take_all (length xs - k) (drop k xs) (omega (arith, length-drop k xs))
