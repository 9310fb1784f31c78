-- How long the bytes of an answer line are.
use Rattle.std.specs.Prelude.{◌≡◌, refl, ℕ, ◌+◌, ◌*◌, ◌≤◌, length}
use mathlib.Core.List.{List, [], ◌∷◌, flat_map}
use Rattle.std.proofs.Common.{arith}
use Rattle.rules_plan.specs.Print.{text}
use Rattle.script_hex.specs.Hex.{hex_byte, hex_text}

pub text-length : (bs : List ℕ) → length (flat_map hex_byte bs) ≡ 2 * length bs
unfolding flat_map hex_byte
text-length [] = refl
text-length (b ∷ bs) = omega (arith, text-length bs)

pub hex-most : (bs : List ℕ) → length (hex_text bs) ≤ 1 + 2 * length bs
unfolding hex_text text
hex-most [] = omega arith
hex-most (b ∷ bs) = omega (arith, text-length (b ∷ bs))
