-- The value of a hex digit, by the range that the byte lies in. Assumes nothing.
use mathlib.Core.Path.{◌≡◌}
use mathlib.Core.Bool.{true, false}
use Prim.Native.Nat.{ℕ, ◌+◌, ◌-◌, ◌≤◌, ◌<◌}
use native.Mathlib.Omega.{arith}
use borrow.Author.Tests.{le-leb, lt-leb}
use Rattle.script_words.specs.Words.{is_digit}
use Rattle.script_hex.specs.Hex.{is_letter, is_hex, hex_of}

module _ (c : ℕ) where
  pub digit-hex : 48 ≤ c → c ≤ 57 → (true ≡ is_hex c) × (c - 48 ≡ hex_of c)
  unfolding is_digit is_letter is_hex hex_of
  digit-hex h g = (rw (le-leb 48 c h, le-leb c 57 g), rw (le-leb 48 c h, le-leb c 57 g))

  pub letter-hex : 97 ≤ c → c ≤ 102 → (true ≡ is_hex c) × (10 + (c - 97) ≡ hex_of c)
  unfolding is_digit is_letter is_hex hex_of
  letter-hex h g =
      let e = lt-leb c 57 (omega arith) in
      (rw (le-leb 48 c (omega arith), e, le-leb 97 c h, le-leb c 102 g), rw (le-leb 48 c (omega arith), e, le-leb 97 c h, le-leb c 102 g))

  pub low-hex : c < 48 → (false ≡ is_hex c) × (0 ≡ hex_of c)
  unfolding is_digit is_letter is_hex hex_of
  low-hex h = (rw (lt-leb 48 c h, lt-leb 97 c (omega arith)), rw (lt-leb 48 c h, lt-leb 97 c (omega arith)))

  pub between-hex : 57 < c → c < 97 → (false ≡ is_hex c) × (0 ≡ hex_of c)
  unfolding is_digit is_letter is_hex hex_of
  between-hex h g = (rw (le-leb 48 c (omega arith), lt-leb c 57 h, lt-leb 97 c g), rw (le-leb 48 c (omega arith), lt-leb c 57 h, lt-leb 97 c g))

  pub high-hex : 102 < c → (false ≡ is_hex c) × (0 ≡ hex_of c)
  unfolding is_digit is_letter is_hex hex_of
  high-hex h =
      let e = lt-leb c 57 (omega arith) in
      (rw (le-leb 48 c (omega arith), e, le-leb 97 c (omega arith), lt-leb c 102 h), rw (le-leb 48 c (omega arith), e, le-leb 97 c (omega arith), lt-leb c 102 h))
