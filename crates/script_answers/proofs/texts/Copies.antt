-- The line of a plan written out, by the answer. Assumes nothing.
use mathlib.Core.Path.{◌≡◌}
use mathlib.Core.List.{List, [], ◌∷◌}
use Prim.Native.Nat.{ℕ}
use lib.ListN.{take, drop}
use Rattle.rules_plan.specs.Copy.{Copied, NotWritten, Written, sized}
use Rattle.script_answers.specs.Texts.{bytes_line, out_line, Prints}

module _ {l o : List ℕ} {k n : ℕ} {c : Copied} (buffer : List ℕ) where
  pub refused-line : c ≡ NotWritten n → Prints (bytes_line (n ∷ 0 ∷ []) (take 0 buffer)) l o k → Prints (out_line (sized c) buffer) l o k
  unfolding out_line sized
  refused-line is p = rw is p

  pub written-line : {part : List ℕ} → c ≡ Written n → part ≡ take n (drop 0 buffer) → Prints (bytes_line (0 ∷ n ∷ []) part) l o k → Prints (out_line (sized c) buffer) l o k
  unfolding out_line sized
  written-line is g p = rw is (rw g at p)
