-- Byte strings: the bytes of a word, two digits each, and how many there are.
use Rattle.std.specs.Prelude.{◌≡◌, refl, List, [], ◌∷◌, Bool, true, false, ◌&&◌, ℕ, ◌/◌, ◌%◌, ◌≤◌, length, ltb, leb, eqb}
use Rattle.std.proofs.Common.{sym, ap, ◌∙◌, arith, leb-true, le-leb}
use Rattle.std.proofs.Math.Option.{some}
use Rattle.lists.specs.Search.{all, when, is_some}
use Rattle.lists.specs.laws.Bools.{both_true, not-both}
use Rattle.rules_plan.specs.Print.{text}
use Rattle.script_words.specs.Words.{same}
use Rattle.script_words.specs.laws.Words.{same_true}
use Rattle.script_hex.specs.Hex.{is_hex, pairs_of, is_pairs, bytes_of, decoded}

-- the bytes of every byte string are its pairs, `-` too
pub bytes-pairs : (w : List ℕ) → is_some (bytes_of w) ≡ true → bytes_of w ≡ some (pairs_of w)
unfolding bytes_of is_some when pairs_of text
bytes-pairs w h = go (same w (text "-")) refl
  where
    go : (b : Bool) → same w (text "-") ≡ b → bytes_of w ≡ some (pairs_of w)
    go true e = rw (e, bytes_of) (ap (λ (v : List ℕ). some (pairs_of v)) (sym (same_true w (text "-") e)))
    go false e = rw (e, bytes_of) (by (is_pairs w) (rw (e, bytes_of) at h))
      where
        by : (b : Bool) → is_some (when b (pairs_of w)) ≡ true → when b (pairs_of w) ≡ some (pairs_of w)
        by true g = refl
        by false g = not-both g refl

pub pairs-length : (w : List ℕ) → length (pairs_of w) ≡ length w / 2
unfolding pairs_of
pairs-length [] = refl
pairs-length (h ∷ []) = refl
pairs-length (h ∷ l ∷ rest) = omega (arith, pairs-length rest)

-- "up to 16,400 bytes"
bytes_most : (w : List ℕ) → is_some (bytes_of w) ≡ true → length (pairs_of w) ≤ 16_400
unfolding bytes_of is_some when is_pairs pairs_of text
bytes_most w h = go (same w (text "-")) refl
  where
    go : (b : Bool) → same w (text "-") ≡ b → length (pairs_of w) ≤ 16_400
    go true e = rw (same_true w (text "-") e) (omega arith)
    go false e = by (is_pairs w) refl (rw (e, bytes_of) at h)
      where
        by : (b : Bool) → is_pairs w ≡ b → is_some (when b (pairs_of w)) ≡ true → length (pairs_of w) ≤ 16_400
        by false f g = not-both g refl
        by true f g =
            let p = both_true (ltb 0 (length w) && leb (length w) 32_800 && eqb (length w % 2) 0) (all is_hex w) f in
            let q = both_true (ltb 0 (length w) && leb (length w) 32_800) (eqb (length w % 2) 0) p.0 in
            let r = both_true (ltb 0 (length w)) (leb (length w) 32_800) q.0 in
            omega (arith, pairs-length w, leb-true (length w) 32_800 r.1)

-- those of a load have room
pub bytes-decoded : (w : List ℕ) → is_some (bytes_of w) ≡ true → bytes_of w ≡ some (decoded 16_400 w)
unfolding decoded
bytes-decoded w h = bytes-pairs w h ∙ ap some (rw (bytes-pairs w h, decoded, le-leb (length (pairs_of w)) 16_400 (bytes_most w h)))
