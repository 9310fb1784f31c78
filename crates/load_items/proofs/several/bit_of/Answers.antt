-- `items::several::bit_of` meets its contract: below 64 the number is its own remainder.
-- Assumes nothing.
use mathlib.Core.Path.{◌≡◌, ap, ◌∙◌}
use Prim.Native.Nat.{ℕ, ◌*◌, ◌%◌, ◌^◌, ◌<◌}
use native.Mathlib.Omega.{arith}
use Rattle.bitsets.specs.Set.{member, alone}
use Rattle.bitsets.proofs.Laws.{alone-low}
use Rattle.load_items.proofs.several.bit_of.Goals as goal

own-bit : (n : ℕ) → n < 64 → (k : ℕ) → member k ((1 * 2 ^ (n % 64)) % 2 ^ 64) ≡ alone n k
own-bit n h k = let e : n % 64 ≡ n = omega arith in ap (λ (m : ℕ). member k ((1 * 2 ^ m) % 2 ^ 64)) e ∙ alone-low n h k

pub returns : goal.returns
returns c = own-bit _
