-- Bytes in hex, with one byte more. Assumes nothing.
use mathlib.Core.Path.{◌≡◌, refl, sym, ◌∙◌}
use mathlib.Core.Bool.{Bool, true, false}
use mathlib.Core.List.{List, [], ◌∷◌, flat_map}
use Prim.Native.Nat.{ℕ, ◌+◌, ◌-◌, ◌*◌, ◌/◌, ◌%◌, ◌≤◌, ◌<◌}
use native.Mathlib.Omega.{arith}
use lib.ListN.{length, get_or, set, take}
use lib.Seq.{take_all}
use lib.Dec.{eqb}
use borrow.Author.Tests.{lt-ltb, le-ltb, eqb-true, eqb-false}
use Rattle.lists.specs.Stores.{Put}
use Rattle.lists.specs.Puts.{Puts}
use Rattle.lists.specs.laws.Stores.{put_one, put_then, flat-more}
use Rattle.lists.specs.laws.Puts.{puts-over}
use Rattle.rules_plan.specs.Print.{text}
use Rattle.script_hex.specs.Hex.{hex_digit, hex_byte, hex_text}
use Rattle.script_hex.specs.laws.Lengths.{text-length}

pub number-digit : (n : ℕ) → n < 10 → 48 + n ≡ hex_digit n
unfolding hex_digit
number-digit n h = rw (lt-ltb n 10 h)

pub letter-digit : (n : ℕ) → 10 ≤ n → 97 + (n - 10) ≡ hex_digit n
unfolding hex_digit
letter-digit n h = rw (le-ltb n 10 h)

-- what it says of bytes whether there are none
pub are-none : {r : Bool} (bs : List ℕ) → r ≡ eqb (length bs) 0 → r ≡ true → length bs ≡ 0
are-none bs e f = eqb-true _ _ (sym e ∙ f)

pub are-some : {r : Bool} (bs : List ℕ) → r ≡ eqb (length bs) 0 → r ≡ false → 0 < length bs
are-some bs e f = let n : length bs ≡ 0 → ⊥ = eqb-false _ _ (sym e ∙ f) in omega arith

some_bytes : (bs : List ℕ) → 0 < length bs → hex_text bs ≡ flat_map hex_byte bs
unfolding hex_text
some_bytes [] h = absurd (omega arith)
some_bytes (b ∷ bs) h = refl

pub no_bytes : {l o : List ℕ} {at k : ℕ} (bs : List ℕ) → length bs ≡ 0 → Puts l at (text "-") o k → Puts l at (hex_text bs) o k
unfolding hex_text
no_bytes [] h p = p
no_bytes (b ∷ bs) h p = absurd (omega arith)

pub no_room : (l bs : List ℕ) (at : ℕ) → 0 < length bs → length l < at + 2 * length bs → Puts l at (hex_text bs) l at
no_room l bs at h g = rw (some_bytes bs h) (puts-over l at (flat_map hex_byte bs) l at (omega (arith, text-length bs)))

pub byte_more : {l o : List ℕ} {at k : ℕ} (bs : List ℕ) (i : ℕ) {x y : ℕ} → i < length bs → x ≡ hex_digit (get_or bs i 0 / 16) → y ≡ hex_digit (get_or bs i 0 % 16)
    → Put l at (flat_map hex_byte (take i bs)) o k → Put l at (flat_map hex_byte (take (i + 1) bs)) (set (set o k x) (k + 1) y) (k + 2)
unfolding hex_byte
byte_more {o} {k} bs i {x} {y} h e f p =
    let n : k + 2 ≡ k + 1 + 1 = omega arith in
    rw (flat-more hex_byte bs i 0 h, n, ← e, ← f) (put_then p (put_then (put_one o k x) (put_one (set o k x) (k + 1) y)))

pub every_byte : {l o : List ℕ} {at k : ℕ} (bs : List ℕ) (i : ℕ) → 0 < length bs → length bs ≤ i → Put l at (flat_map hex_byte (take i bs)) o k → Puts l at (hex_text bs) o k
every_byte bs i h g p = rw (some_bytes bs h) (record { fitting = λ _. rw (take_all i bs g) at p })
