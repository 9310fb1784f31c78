-- The eight bytes of a word, the lowest first.
use mathlib.Core.Path.{◌≡◌, refl}
use mathlib.Core.List.{[], ◌∷◌}
use Prim.Native.Nat.{ℕ, zero, suc, ◌/◌, ◌%◌, ◌^◌, ◌<◌}
use native.Mathlib.Omega.{arith}
use lib.ListN.{get_or}
use Rattle.std.specs.Int.{w64, to_le_bytes}
use Rattle.std.proofs.lemmas.Nat.{le_bytes_8}
use Rattle.run_records.specs.Bytes.{bytes_of}

pub eight-is : (n : ℕ) → n < 2 ^ 64 → to_le_bytes w64 n ≡ bytes_of n
unfolding bytes_of
eight-is n h = le_bytes_8 (bytes_of n) n refl small (omega arith)
  where
    small : (i : ℕ) → get_or (n % 256 ∷ n / 256 % 256 ∷ n / 65_536 % 256 ∷ n / 16_777_216 % 256 ∷ n / 4_294_967_296 % 256 ∷ n / 1_099_511_627_776 % 256 ∷ n / 281_474_976_710_656 % 256 ∷ n / 72_057_594_037_927_936 % 256 ∷ []) i 0 < 256
    small zero = omega arith
    small (suc zero) = omega arith
    small (suc (suc zero)) = omega arith
    small (suc (suc (suc zero))) = omega arith
    small (suc (suc (suc (suc zero)))) = omega arith
    small (suc (suc (suc (suc (suc zero))))) = omega arith
    small (suc (suc (suc (suc (suc (suc zero)))))) = omega arith
    small (suc (suc (suc (suc (suc (suc (suc zero))))))) = omega arith
    small (suc (suc (suc (suc (suc (suc (suc (suc i)))))))) = omega arith
