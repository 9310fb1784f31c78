-- Which words are byte strings, and the bytes of one, two digits at a time. Assumes nothing.
use mathlib.Core.Path.{◌≡◌, refl}
use mathlib.Core.List.{List, [], ◌∷◌, ◌++◌}
use mathlib.Core.Bool.{Bool, true, false, ◌&&◌, and-false}
use Prim.Native.Nat.{ℕ, zero, suc, ◌+◌, ◌*◌, ◌/◌, ◌%◌, ◌≤◌, ◌<◌}
use native.Mathlib.Omega.{arith}
use lib.ListN.{length, get_or, set, take, drop}
use lib.Seq.{take_all}
use lib.Dec.{ltb, leb, eqb}
use borrow.Author.Tests.{lt-ltb, le-ltb, le-leb, lt-leb, eq-eqb, ne_eqb}
use Rattle.std.specs.List.{list_all}
use Rattle.lists.specs.Search.{all, when, is_some}
use Rattle.lists.specs.Stores.{Put}
use Rattle.lists.specs.laws.Bools.{not_some}
use Rattle.lists.specs.laws.Stores.{put-more, put_front}
use Rattle.rules_plan.specs.Print.{text}
use Rattle.script_words.specs.Words.{same}
use Rattle.script_words.specs.laws.Words.{same-lengths}
use Rattle.script_hex.specs.Hex.{is_hex, hex_of, pairs_of, is_pairs, bytes_of, decoded}
use Rattle.script_hex.specs.laws.Bytes.{bytes-pairs, pairs-length}

-- a test of each byte
pub each-hex : (w : List ℕ) → list_all is_hex w ≡ all is_hex w
unfolding all
each-hex [] = refl
each-hex (c ∷ cs) = rw (each-hex cs)

-- one byte: `-`, or half a pair
pub one_byte : (w : List ℕ) → length w ≡ 1 → eqb (get_or w 0 0) 45 ≡ is_some (bytes_of w)
unfolding bytes_of is_pairs when is_some same text
one_byte [] h = absurd (omega arith)
one_byte (x ∷ y ∷ w) h = absurd (omega arith)
one_byte (x ∷ []) h = go (eqb x 45) refl
  where
    go : (b : Bool) → eqb x 45 ≡ b → b ≡ is_some (bytes_of (x ∷ []))
    go true e = rw (e, bytes_of)
    go false e = rw (e, bytes_of)

-- any other word
module _ (w : List ℕ) (h : length w ≡ 1 → ⊥) where
  by-pairs : {b : Bool} → is_pairs w ≡ b → b ≡ is_some (bytes_of w)
  unfolding bytes_of when is_some text
  by-pairs {b} e = rw (same-lengths w (text "-") h, bytes_of, e) (go b)
    where
      go : (b : Bool) → b ≡ is_some (when b (pairs_of w))
      go true = refl
      go false = refl

  pub no_byte : length w ≡ 0 → false ≡ is_some (bytes_of w)
  unfolding is_pairs
  no_byte e = by-pairs (rw (le-ltb 0 (length w) (omega arith)))

  pub too_long : 32_800 < length w → false ≡ is_some (bytes_of w)
  unfolding is_pairs
  too_long l = by-pairs (rw (lt-leb (length w) 32_800 l, and-false (ltb 0 (length w))))

  pub half-pair : (length w % 2 ≡ 0 → ⊥) → false ≡ is_some (bytes_of w)
  unfolding is_pairs
  half-pair k = by-pairs (rw (ne_eqb (length w % 2) 0 k, and-false (ltb 0 (length w) && leb (length w) 32_800)))

  pub in_pairs : 0 < length w → length w ≤ 32_800 → length w % 2 ≡ 0 → all is_hex w ≡ is_some (bytes_of w)
  unfolding is_pairs
  in_pairs p l k = by-pairs (rw (lt-ltb 0 (length w) p, le-leb (length w) 32_800 l, eq-eqb (length w % 2) 0 k))

pair-at : (w : List ℕ) (i : ℕ) → 2 * i + 1 < length w → 16 * hex_of (get_or w (2 * i) 0) + hex_of (get_or w (2 * i + 1) 0) ≡ get_or (pairs_of w) i 0
unfolding pairs_of
pair-at [] i h = absurd (omega arith)
pair-at (x ∷ []) i h = absurd (omega arith)
pair-at (x ∷ y ∷ rest) zero h = refl
pair-at (x ∷ y ∷ rest) (suc i) h =
    let e : 2 * suc i ≡ suc (suc (2 * i)) = omega arith in
    let f : suc (suc (2 * i)) + 1 ≡ suc (suc (2 * i + 1)) = omega arith in
    rw (e, f) (pair-at rest i (omega arith))

-- one byte more
pub put-pair : {l o : List ℕ} (w : List ℕ) (i : ℕ) {a b : ℕ} → a ≡ hex_of (get_or w (2 * i) 0) → b ≡ hex_of (get_or w (2 * i + 1) 0) → i < length w / 2
    → Put l 0 (take i (pairs_of w)) o (0 + i) → Put l 0 (take (i + 1) (pairs_of w)) (set o i (16 * a + b)) (0 + (i + 1))
put-pair {l} {o} w i e f h p =
    let z : 0 + i ≡ i = omega arith in
    rw (e, f, pair-at w i (omega arith)) (rw z at (put-more (pairs_of w) i (omega (arith, pairs-length w)) p))

-- nothing is decoded, or every byte
pub no_bytes : (out w : List ℕ) → is_some (bytes_of w) ≡ false → (0 ≡ length (decoded (length out) w)) × (out ≡ decoded (length out) w ++ drop 0 out)
unfolding decoded
no_bytes out w h = rw (not_some (bytes_of w) h, decoded) (refl, refl)

pub no_room : (out w : List ℕ) → is_some (bytes_of w) ≡ true → length out < length w / 2 → (0 ≡ length (decoded (length out) w)) × (out ≡ decoded (length out) w ++ drop 0 out)
unfolding decoded
no_room out w h l = rw (bytes-pairs w h, decoded, lt-leb (length (pairs_of w)) (length out) (omega (arith, pairs-length w))) (refl, refl)

pub every_byte : (l o w : List ℕ) (i : ℕ) → is_some (bytes_of w) ≡ true → length w / 2 ≤ length l → length w / 2 ≤ i → Put l 0 (take i (pairs_of w)) o (0 + i)
    → (length w / 2 ≡ length (decoded (length l) w)) × (o ≡ decoded (length l) w ++ drop (length w / 2) l)
unfolding decoded
every_byte l o w i h r g p =
    let q = put_front (rw (take_all i (pairs_of w) (omega (arith, pairs-length w))) at p) (omega (arith, pairs-length w)) in
    rw (bytes-pairs w h, decoded, le-leb (length (pairs_of w)) (length l) (omega (arith, pairs-length w)), ← pairs-length w) (refl, q.1)
