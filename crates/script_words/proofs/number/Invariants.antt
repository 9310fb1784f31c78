-- `number` meets its contract. The loop's invariant: n is the number of the bytes so far, all digits. Assumes nothing.
use Prim.Native.Nat.{◌≤◌, ◌<◌}
use lib.ListN.{length}
use Rattle.script_words.proofs.Digits.{FirstDigits}
use Rattle.script_words.proofs.number.Given as goal

abbrev pub invariant-loop-digit : goal.invariant-loop-digit
invariant-loop-digit l = (0 < length l.word) × (l.n ≤ l.most) × FirstDigits l.word l.n l.digit-index
