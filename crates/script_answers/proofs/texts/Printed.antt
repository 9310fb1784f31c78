-- What is put at the front of a buffer, one part behind another, is a line: no line is longer than the buffer. Assumes nothing.
use mathlib.Core.Path.{◌≡◌}
use mathlib.Core.List.{List, [], ◌∷◌, ◌++◌}
use Prim.Native.Nat.{ℕ, ◌+◌, ◌≤◌}
use native.Mathlib.Omega.{arith}
use lib.ListN.{length, length-append}
use Rattle.lists.specs.Puts.{Puts}
use Rattle.lists.specs.laws.Puts.{puts_then}
use Rattle.lists.specs.laws.Stores.{put_front}
use Rattle.rules_plan.specs.Print.{text, decimal}
use Rattle.bytes_put.specs.laws.Decimal.{decimal-most}
use Rattle.script_words.specs.Lines.{in_row}
use Rattle.script_words.specs.laws.Lengths.{row-most}
use Rattle.script_hex.specs.Hex.{hex_text}
use Rattle.script_hex.specs.laws.Lengths.{hex-most}
use Rattle.script_answers.specs.Texts.{ended, error_line, numbers_line, bytes_line, Prints}

-- the newline ends it
ends : {l o p s : List ℕ} {a k : ℕ} → length l ≡ 65_600 → length s + 1 ≤ 65_600 → Puts l 0 s o a → Puts o a (10 ∷ []) p k → Prints (ended s) l p k
unfolding ended
ends {l} {s} room short f g =
    let h : length (s ++ (10 ∷ [])) ≤ length l = rw (length-append s (10 ∷ [])) (omega arith) in
    let q = put_front ((puts_then f g).fitting (omega arith)) h in
    record { size = q.0; holds = q.1 }

pub error-put : {l o p q : List ℕ} {a b k : ℕ} (n : ℕ) → length l ≡ 65_600
    → Puts l 0 (text "ERROR line ") o a → Puts o a (decimal n) p b → Puts p b (10 ∷ []) q k → Prints (error_line n) l q k
unfolding error_line text
error-put n room f g h = ends room (rw (length-append (text "ERROR line ") (decimal n)) (omega (arith, decimal-most n))) (puts_then f g) h

pub row_put : {l o p : List ℕ} {a k : ℕ} (ns : List ℕ) → length l ≡ 65_600 → length ns ≤ 5
    → Puts l 0 (in_row ns) o a → Puts o a (10 ∷ []) p k → Prints (numbers_line ns) l p k
unfolding numbers_line
row_put ns room few f g = ends room (omega (arith, row-most ns)) f g

pub bytes-put : {l o p q r : List ℕ} {a b c k : ℕ} (ns bytes : List ℕ) → length l ≡ 65_600 → (length ns ≤ 2) × (length bytes ≤ 32_768)
    → Puts l 0 (in_row ns) o a → Puts o a (text " ") p b → Puts p b (hex_text bytes) q c → Puts q c (10 ∷ []) r k → Prints (bytes_line ns bytes) l r k
unfolding bytes_line text
bytes-put ns bytes room few f g h i =
    ends room
    (rw (length-append (in_row ns ++ text " ") (hex_text bytes), length-append (in_row ns) (text " ")) (omega (arith, row-most ns, hex-most bytes)))
    (puts_then (puts_then f g) h) i

pub word-put : {l o p : List ℕ} {a k : ℕ} (word : List ℕ) → length l ≡ 65_600 → length word ≤ 65_599
    → Puts l 0 word o a → Puts o a (10 ∷ []) p k → Prints (ended word) l p k
word-put word room short f g = ends room (omega arith) f g
