-- A word read as a number, digit by digit. Assumes nothing.
use mathlib.Core.Path.{◌≡◌, refl, sym, ◌∙◌}
use mathlib.Core.Option.{none, some}
use mathlib.Core.List.{List, [], ◌∷◌}
use mathlib.Core.Bool.{Bool, true, false, ◌&&◌, and-false}
use Rattle.std.specs.Char.{is_ascii_digit}
use Prim.Native.Nat.{ℕ, ◌+◌, ◌-◌, ◌*◌, ◌≤◌, ◌<◌}
use native.Mathlib.Numerals.{add-one}
use native.Mathlib.Omega.{arith}
use lib.ListN.{length, get_or, drop, drop_of_length-le}
use lib.Seq.{drop-cons}
use lib.Dec.{ltb}
use borrow.Author.Tests.{lt-ltb, le-ltb, le-leb, lt-leb}
use Rattle.lists.specs.Search.{all, when}
use Rattle.lists.specs.laws.Scan.{all-miss, all-on, all_end}
use Rattle.script_words.specs.Words.{is_digit, value_from, number_of}

-- what the test of a byte says
pub told-digit : (c : ℕ) {r b : Bool} → r ≡ is_ascii_digit c → r ≡ b → is_digit c ≡ b
unfolding is_digit
told-digit c e f = sym e ∙ f

-- digits behind a number make no smaller one
value_grows : (n : ℕ) (s : List ℕ) → n ≤ value_from n s
unfolding value_from
value_grows n [] = omega arith
value_grows n (c ∷ cs) = omega (arith, value_grows (10 * n + (c - 48)) cs)

-- n is the number of the first i bytes, all digits
pub record FirstDigits (w : List ℕ) (n i : ℕ) : Type 0 where
  pub upto : i ≤ length w
  pub value : value_from 0 w ≡ value_from n (drop i w)
  pub digits : all is_digit w ≡ all is_digit (drop i w)

pub digits-begin : (w : List ℕ) → FirstDigits w 0 0
digits-begin w = record { upto = omega arith; value = refl; digits = refl }

pub digits-next : {w : List ℕ} {n i : ℕ} → FirstDigits w n i → i < length w → is_digit (get_or w i 0) ≡ true → FirstDigits w (10 * n + (get_or w i 0 - 48)) (i + 1)
unfolding value_from
digits-next {w} {n} {i} f h e = record {
  upto = omega arith;
  value = f.value ∙ rw (drop-cons w i 0 h, value_from, add-one i);
  digits = all-on is_digit 0 w i h f.digits e;
}

-- a word is no number where it is empty, where a byte is no digit, or where the number is too great
pub empty-word : (most : ℕ) (w : List ℕ) → length w ≡ 0 → number_of most w ≡ none
unfolding number_of when
empty-word most w h = rw (le-ltb 0 (length w) (omega arith))

pub no_digit : (most : ℕ) {w : List ℕ} {n i : ℕ} → FirstDigits w n i → i < length w → is_digit (get_or w i 0) ≡ false → number_of most w ≡ none
unfolding number_of when
no_digit most {w} {i} f h e =
    rw (all-miss is_digit 0 w i h f.digits e, and-false (ltb 0 (length w)))

pub too-great : (most : ℕ) {w : List ℕ} {n i : ℕ} → FirstDigits w n i → most < n → number_of most w ≡ none
unfolding number_of when
too-great most {w} {n} {i} f h =
    rw (lt-leb (value_from 0 w) most (omega (arith, f.value, value_grows n (drop i w))), and-false (ltb 0 (length w) && all is_digit w))

-- and is one otherwise
pub all_digits : (most : ℕ) {w : List ℕ} {n i : ℕ} → FirstDigits w n i → 0 < length w → length w ≤ i → n ≤ most → number_of most w ≡ some n
unfolding number_of when value_from
all_digits most {w} {n} {i} f p h l =
    let v : value_from 0 w ≡ n = f.value ∙ rw (drop_of_length-le w h) in
    rw (lt-ltb 0 (length w) p, all_end is_digit 0 w i h f.digits, v, le-leb n most l)
