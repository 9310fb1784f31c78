-- The lines that the input has so far: what is left, or a line that fills the buffer. Assumes nothing.
use Rattle.std.proofs.Common.{◌≡◌, ℕ, ◌-◌, ◌<◌, ◌≤◌, List, length, take, refl, arith, length-take-le}
use native.Mathlib.Decide.{dec_lt}
use Rattle.replay.specs.Lines.{shifted}
use Rattle.replay.specs.Gather.{Stand, Passes, LinesAnswered, Taken}

module _ (input : List ℕ) (size : ℕ) {s after : Stand} {start : ℕ} (a : LinesAnswered (take size input) s start after) where
  pub start-within : size ≤ length input → (start ≤ size) × (size ≤ length input)
  start-within h = (omega (arith, a.within, length-take-le size input h), h)

  module _ {input' : List ℕ} {n : ℕ} (same : length input' ≡ length input) (moved : (n ≡ size - start) × (input' ≡ shifted start size input)) where
    pub taken-room : n < length input' → Taken input size s input' n after
    taken-room h = record {
      start = start;
      after = after;
      answered = a;
      moved = moved.1;
      room = λ _. (moved.0, refl);
      full = λ l. absurd (omega (arith, moved.0));
    }

    pub taken-full : {s' : Stand} → length input' ≤ n → Passes input' after s' → Taken input size s input' 0 s'
    taken-full h p = record {
      start = start;
      after = after;
      answered = a;
      moved = moved.1;
      room = λ l. absurd (omega (arith, moved.0));
      full = λ _. (refl, p);
    }

pub taken-within : (input : List ℕ) (size : ℕ) {s s' : Stand} {input' : List ℕ} {left : ℕ} → size ≤ length input → Taken input size s input' left s'
    → left ≤ length input
taken-within input size {left} h t = go (dec_lt (size - t.start) (length input))
  where
    go : Dec (size - t.start < length input) → left ≤ length input
    go (yes l) = omega (arith, (t.room l).0)
    go (no l) = omega (arith, (t.full (omega arith)).0)
