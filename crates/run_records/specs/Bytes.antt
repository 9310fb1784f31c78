-- The bytes of a word, the lowest first, and the word of a record.
use Rattle.std.specs.Prelude.{ℕ, ◌+◌, ◌-◌, ◌*◌, ◌/◌, ◌%◌, ◌^◌, List, [], ◌∷◌}

unfoldable pub bytes_of : ℕ → List ℕ
bytes_of w =
    w % 256
    ∷ w / 256 % 256
    ∷ w / 65_536 % 256
    ∷ w / 16_777_216 % 256
    ∷ w / 4_294_967_296 % 256
    ∷ w / 1_099_511_627_776 % 256
    ∷ w / 281_474_976_710_656 % 256
    ∷ w / 72_057_594_037_927_936 % 256
    ∷ []

-- a word with this kind and v in the places of its own kind and of its fourth byte
unfoldable pub filled : ℕ → ℕ → ℕ → ℕ
filled kind v w = (w - w / 128 % 2 * 128 - w / 16_777_216 % 256 * 16_777_216 + (kind + v * 16_777_216)) % 2 ^ 64
