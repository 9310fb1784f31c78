-- "Bytes are lowercase hex with no spaces; an empty byte string is `-`." Bytes are ASCII: 45 is `-`, 48 is `0`, 97 is `a`.
use mathlib.Core.List.{List, [], ◌∷◌, flat_map}
use Rattle.std.proofs.Math.Option.{Option, none, some}
use Rattle.std.specs.Prelude.{Bool, true, false, ◌&&◌, ◌||◌, cond, ℕ, ◌+◌, ◌-◌, ◌*◌, ◌/◌, ◌%◌, leb, ltb, eqb, length}
use Rattle.lists.specs.Search.{all, when}
use Rattle.rules_plan.specs.Print.{text}
use Rattle.script_words.specs.Words.{same, is_digit}

-- the bytes of a word
unfoldable pub is_letter : ℕ → Bool
is_letter c = leb 97 c && leb c 102

unfoldable pub is_hex : ℕ → Bool
is_hex c = is_digit c || is_letter c

unfoldable pub hex_of : ℕ → ℕ
hex_of c = cond (is_digit c) (c - 48) (cond (is_letter c) (10 + (c - 97)) 0)

unfoldable pub pairs_of : List ℕ → List ℕ
pairs_of [] = []
pairs_of (h ∷ []) = []
pairs_of (h ∷ l ∷ rest) = (16 * hex_of h + hex_of l) ∷ pairs_of rest

-- "up to 16,400 bytes"
unfoldable pub is_pairs : List ℕ → Bool
is_pairs w = ltb 0 (length w) && leb (length w) 32_800 && eqb (length w % 2) 0 && all is_hex w

unfoldable pub bytes_of : List ℕ → Option (List ℕ)
bytes_of w = elim (same w (text "-")) [ true ↦ some [] | false ↦ when (is_pairs w) (pairs_of w) ]

-- those bytes, where the word is a byte string and they have room
unfoldable pub decoded : ℕ → List ℕ → List ℕ
decoded room w = elim (bytes_of w) [ none ↦ [] | some bytes ↦ cond (leb (length bytes) room) bytes [] ]

-- bytes as an answer line has them
unfoldable pub hex_digit : ℕ → ℕ
hex_digit n = cond (ltb n 10) (48 + n) (97 + (n - 10))

unfoldable pub hex_byte : ℕ → List ℕ
hex_byte b = hex_digit (b / 16) ∷ hex_digit (b % 16) ∷ []

unfoldable pub hex_text : List ℕ → List ℕ
hex_text [] = text "-"
hex_text (b ∷ bs) = flat_map hex_byte (b ∷ bs)
