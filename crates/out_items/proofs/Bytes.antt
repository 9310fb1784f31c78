-- Numbers in two and in four bytes, most significant first.
use mathlib.Core.Path.{◌≡◌, refl}
use mathlib.Core.List.{[], ◌∷◌}
use Prim.Native.Nat.{ℕ, zero, suc, ◌/◌, ◌%◌, ◌^◌, ◌<◌}
use native.Mathlib.Omega.{arith}
use lib.ListN.{get_or}
use Rattle.std.specs.Int.{w16, w32, to_be_bytes}
use Rattle.std.proofs.lemmas.Nat.{be_bytes_2, be_bytes_4}
use Rattle.rules_plan.specs.Fields.{two_bytes, four_bytes}

pub two-is : (n : ℕ) → n < 2 ^ 16 → to_be_bytes w16 n ≡ two_bytes n
unfolding two_bytes
two-is n h = be_bytes_2 (two_bytes n) n refl small (omega arith)
  where
    small : (i : ℕ) → get_or (n / 256 ∷ n % 256 ∷ []) i 0 < 256
    small zero = omega arith
    small (suc zero) = omega arith
    small (suc (suc i)) = omega arith

pub four-is : (n : ℕ) → n < 2 ^ 32 → to_be_bytes w32 n ≡ four_bytes n
unfolding four_bytes
four-is n h = be_bytes_4 (four_bytes n) n refl small (omega arith)
  where
    small : (i : ℕ) → get_or (n / 16_777_216 ∷ n / 65_536 % 256 ∷ n / 256 % 256 ∷ n % 256 ∷ []) i 0 < 256
    small zero = omega arith
    small (suc zero) = omega arith
    small (suc (suc zero)) = omega arith
    small (suc (suc (suc zero))) = omega arith
    small (suc (suc (suc (suc i)))) = omega arith
